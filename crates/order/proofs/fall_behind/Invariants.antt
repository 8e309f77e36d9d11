-- `order::fall_behind` meets its contract, by the laws of `Rise`. Assumes nothing.
use Rattle.order.proofs.Rise.{Upward}
use Rattle.order.proofs.fall_behind.Given as goal

abbrev pub invariant-loop-i : goal.invariant-loop-i
invariant-loop-i l = Upward l.table l.from l.i l.before
