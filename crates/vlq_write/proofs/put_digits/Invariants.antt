use Rattle.vlq_write.proofs.Loop.{Writing}
use Rattle.vlq_write.proofs.put_digits.Given as goal

abbrev pub invariant-loop-n : goal.invariant-loop-n
invariant-loop-n l = Writing l.initial.out l.at l.num l.out l.n l.i

abbrev pub decreases-loop-n : goal.decreases-loop-n
decreases-loop-n l = l.n
