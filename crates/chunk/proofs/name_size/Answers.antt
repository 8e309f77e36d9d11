use Rattle.chunk.proofs.Fields.{name_least, name_size}
use Rattle.chunk.proofs.name_size.Goals as goal

pub overflow_sub-result : goal.overflow_sub-result
overflow_sub-result c = name_least c.args.p c.args.t _ _ _ c.name_of.ensures c.unnamed.ensures c.step_size.ensures

pub returns : goal.returns
returns c = name_size _ _ _ _ _ c.name_of.ensures c.unnamed.ensures c.step_size.ensures
