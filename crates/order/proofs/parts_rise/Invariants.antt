-- `order::parts_rise` meets its contract, by the laws of `Rise`. Assumes nothing.
use Rattle.order.proofs.Rise.{Sides}
use Rattle.order.proofs.parts_rise.Given as goal

abbrev pub invariant-loop-i : goal.invariant-loop-i
invariant-loop-i l = Sides l.table l.part l.i l.a l.b l.c l.d
