-- `translate::moved` meets its contract, by the laws of `One`. Assumes nothing.
use Rattle.std.proofs.Common.{arith}
use Rattle.translate.proofs.One.{small, is_moved}
use Rattle.translate.proofs.moved.Goals as goal

pub overflow_add-result : goal.overflow_add-result
overflow_add-result c = omega (arith, (small c.args.by.line c.args.by.source c.args.by.name c.args.t c.requires).on)

pub id_moved-requires : goal.id_moved-requires
id_moved-requires c = (small c.args.by.line c.args.by.source c.args.by.name c.args.t c.requires).from

pub id_moved-requires-2 : goal.id_moved-requires-2
id_moved-requires-2 c = (small c.args.by.line c.args.by.source c.args.by.name c.args.t c.requires).called

pub returns : goal.returns
returns c = is_moved c.args.by.line c.args.by.source c.args.by.name c.args.t _ _ c.id_moved.ensures c.id_moved-2.ensures
