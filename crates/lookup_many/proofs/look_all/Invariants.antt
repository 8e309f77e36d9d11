-- `lookup_many::look_all` meets its contract, by the laws of `Pairs`. Assumes nothing.
use Prim.Native.Nat.{◌-◌, ◌≤◌}
use Rattle.lookup_many.specs.Blocks.{Held}
use Rattle.lookup_many.proofs.look_all.Given as goal

abbrev pub invariant-loop-i : goal.invariant-loop-i
invariant-loop-i l = (l.i ≤ l.places) × Held l.table l.positions l.i l.initial.found l.found

abbrev pub decreases-loop-i : goal.decreases-loop-i
decreases-loop-i l = l.places - l.i
