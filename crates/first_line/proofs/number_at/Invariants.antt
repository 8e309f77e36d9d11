-- `first_line::number_at` meets its contract, by the laws of `Count`. Assumes nothing.
use Prim.Native.Nat.{◌-◌}
use Rattle.first_line.proofs.Count.{Reading}
use Rattle.first_line.proofs.number_at.Given as goal

abbrev pub invariant-loop-i : goal.invariant-loop-i
invariant-loop-i l = Reading l.s l.at l.stop l.n (l.i - l.at) l.i
