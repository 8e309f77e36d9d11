-- `apply::name` meets its contract. Assumes nothing.
use Rattle.apply.proofs.Laws.{few}
use Rattle.apply.proofs.name.Goals as goal

pub name_after-requires : goal.name_after-requires
name_after-requires c = few _ c.requires 4
