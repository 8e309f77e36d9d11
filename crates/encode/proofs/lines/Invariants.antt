use Rattle.encode.proofs.Passing.{Passing}
use Rattle.encode.proofs.lines.Given as goal

abbrev pub invariant-loop-i : goal.invariant-loop-i
invariant-loop-i l = Passing l.table l.fn.chunk l.line l.i
