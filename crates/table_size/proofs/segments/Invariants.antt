-- `table_size::segments` meets its contract. The invariant: what begins before the place is counted. Assumes nothing.
use Rattle.table_size.proofs.Count.{Counting}
use Rattle.table_size.proofs.segments.Given as goal

abbrev pub invariant-loop-b : goal.invariant-loop-b
invariant-loop-b l = Counting l.text l.n l.inside l.b-index
