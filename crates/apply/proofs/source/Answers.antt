-- `apply::source` meets its contract. Assumes nothing.
use Rattle.apply.proofs.Laws.{few}
use Rattle.apply.proofs.source.Goals as goal

pub source_after-requires : goal.source_after-requires
source_after-requires c = few _ c.requires 1

pub advance-requires : goal.advance-requires
advance-requires c = few _ c.requires 2

pub advance-requires-2 : goal.advance-requires-2
advance-requires-2 c = few _ c.requires 3
