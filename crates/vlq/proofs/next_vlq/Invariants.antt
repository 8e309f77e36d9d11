-- `vlq::next_vlq` meets its contract. Assumes nothing.
use Rattle.vlq.proofs.Steps.{Reading}
use Rattle.vlq.proofs.next_vlq.Given as goal

abbrev pub invariant-loop-i : goal.invariant-loop-i
invariant-loop-i l = Reading l.s l.at l.cur l.k l.i
