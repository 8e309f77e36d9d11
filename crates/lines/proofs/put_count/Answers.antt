-- `lines::put_count` meets its contract, by the laws of `Ends`. Assumes nothing.
use Rattle.lines.proofs.Ends.{count_fits, count_put}
use Rattle.lines.proofs.put_count.Goals as goal

pub put_number-requires : goal.put_number-requires
put_number-requires c = count_fits _ _ _ c.ranges.n.fits c.requires _ _ c.put_word-i.ensures

pub returns : goal.returns
returns c = count_put _ _ _ c.ranges.n.fits c.requires _ _ c.put_word-i.ensures _ _ c.put_number.ensures
