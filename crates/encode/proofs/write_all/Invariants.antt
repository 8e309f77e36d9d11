use Rattle.encode.proofs.Write.{Writing}
use Rattle.encode.proofs.write_all.Given as goal

abbrev pub invariant-loop-i : goal.invariant-loop-i
invariant-loop-i l = Writing l.table l.chunk l.initial.out l.out l.p l.i l.at
