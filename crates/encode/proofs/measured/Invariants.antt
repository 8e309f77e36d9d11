use Rattle.encode.proofs.Measure.{Measuring}
use Rattle.encode.proofs.measured.Given as goal

abbrev pub invariant-loop-i : goal.invariant-loop-i
invariant-loop-i l = Measuring l.table l.fn.chunk l.p l.i l.n
