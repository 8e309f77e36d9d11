-- `halving::counted_of` meets its contract, by the laws of `Parts`. Assumes nothing.
use borrow.Author.Tests.{lt-ltb}
use Rattle.halving.proofs.Parts.{counts}
use Rattle.halving.proofs.counted_of.Goals as goal

pub returns-then-k-size : goal.returns-then-k-size
returns-then-k-size c = rw (lt-ltb _ _ c.if-k-size.true) (counts _ _ _ _ c.counted_at.ensures)
