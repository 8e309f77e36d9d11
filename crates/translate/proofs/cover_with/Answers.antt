-- `translate::cover_with` meets its contract, by the laws of `Covers`. Assumes nothing.
use Rattle.translate.proofs.Covers.{is_with}
use Rattle.translate.proofs.cover_with.Goals as goal

pub returns : goal.returns
returns c = is_with _ c.args.t _ _ c.from_one.ensures c.from_one-2.ensures
