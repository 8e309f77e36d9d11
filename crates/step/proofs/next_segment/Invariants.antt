-- `step::next_segment` meets its contract. Assumes nothing.
use Prim.Native.Nat.{◌-◌}
use lib.ListN.{length}
use Rattle.step.proofs.Laws.{Coming}
use Rattle.step.proofs.next_segment.Given as goal

abbrev pub invariant-loop-st : goal.invariant-loop-st
invariant-loop-st l = Coming l.s l.initial.st l.st

abbrev pub decreases-loop-st : goal.decreases-loop-st
decreases-loop-st l = length l.s - l.st.at
