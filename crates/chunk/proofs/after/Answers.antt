use Rattle.chunk.proofs.State.{after_bare, after_sourced, after_named}
use Rattle.chunk.proofs.after.Goals as goal

pub returns-then-t-eq-NONE : goal.returns-then-t-eq-NONE
returns-then-t-eq-NONE c = after_bare _ _ c.if-t-eq-NONE.true

pub returns-then-t-eq-NONE-2 : goal.returns-then-t-eq-NONE-2
returns-then-t-eq-NONE-2 c = after_sourced _ _ c.if-t-eq-NONE.false c.if-t-eq-NONE-2.true

pub returns : goal.returns
returns c = after_named _ _ c.if-t-eq-NONE.false c.if-t-eq-NONE-2.false
