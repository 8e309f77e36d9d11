use Rattle.chunk.proofs.Fields.{size_bare, size_sourced}
use Rattle.chunk.proofs.token_size.Goals as goal

pub returns-then-t-eq-NONE : goal.returns-then-t-eq-NONE
returns-then-t-eq-NONE c = size_bare _ _ _ _ c.lead_size.ensures _ _ c.base_of.ensures c.step_size.ensures c.if-t-eq-NONE.true

pub returns : goal.returns
returns c = size_sourced _ _ _ _ c.lead_size.ensures _ _ c.base_of.ensures c.step_size.ensures c.if-t-eq-NONE.false _ c.source_size.ensures
