-- `apply::column` meets its contract. Assumes nothing.
use Rattle.apply.proofs.Laws.{few}
use Rattle.apply.proofs.column.Goals as goal

pub advance-requires : goal.advance-requires
advance-requires c = few _ c.requires 0
