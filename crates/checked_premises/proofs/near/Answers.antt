-- `checked_premises::near` meets its contract. Assumes nothing.
use Rattle.checked_premises.proofs.Laws.{near_is}
use Rattle.checked_premises.proofs.near.Goals as goal

pub returns : goal.returns
returns c = near_is _ _ _ c.abs_diff.ensures
