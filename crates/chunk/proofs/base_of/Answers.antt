use Rattle.chunk.proofs.State.{base_same, base_new}
use Rattle.chunk.proofs.base_of.Goals as goal

pub returns-then-p-t : goal.returns-then-p-t
returns-then-p-t c = base_same _ _ c.if-p-t.true

pub returns-else-p-t : goal.returns-else-p-t
returns-else-p-t c = base_new _ _ c.if-p-t.false
