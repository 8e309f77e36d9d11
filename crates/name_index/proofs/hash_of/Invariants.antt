-- `name_index::hash_of` meets its contract, by the laws of `Slots`. Assumes nothing.
use Rattle.name_index.proofs.Slots.{Hashing}
use Rattle.name_index.proofs.hash_of.Given as goal

abbrev pub invariant-loop-b : goal.invariant-loop-b
invariant-loop-b l = Hashing l.name l.h l.b-index
