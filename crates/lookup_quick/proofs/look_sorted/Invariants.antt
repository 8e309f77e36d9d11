-- `lookup_quick::look_sorted` meets its contract, by the laws of `Pairs` and `Steps`. Assumes nothing.
use Prim.Native.Nat.{◌≤◌}
use Rattle.lookup_quick.specs.Each.{Each}
use Rattle.lookup_quick.proofs.look_sorted.Given as goal

abbrev pub invariant-loop-size : goal.invariant-loop-size
invariant-loop-size l = (l.size ≤ l.tokens) × Each l.table l.positions l.size l.initial.found l.found

abbrev pub decreases-loop-size : goal.decreases-loop-size
decreases-loop-size l = l.size
