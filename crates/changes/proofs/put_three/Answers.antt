-- `changes::put_three` meets its contract, by the laws of `Entry`. Assumes nothing.
use Rattle.changes.proofs.Entry.{put_three}
use Rattle.changes.proofs.put_three.Goals as goal

pub returns : goal.returns
returns c = put_three _ _ _ _ _ c.requires
