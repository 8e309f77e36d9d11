use Rattle.chunk.proofs.Fields.{source_size}
use Rattle.chunk.proofs.source_size.Goals as goal

pub returns : goal.returns
returns c = source_size _ _ _ _ _ _ c.step_size.ensures c.step_size-2.ensures c.step_size-3.ensures c.name_size.ensures
