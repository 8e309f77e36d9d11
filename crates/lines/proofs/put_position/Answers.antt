-- `lines::put_position` meets its contract, by the laws of `Numbers`. Assumes nothing.
use Rattle.lines.proofs.Numbers.{line_fits, col_fits, position_put}
use Rattle.lines.proofs.put_position.Goals as goal

pub put_number-after_line-requires : goal.put_number-after_line-requires
put_number-after_line-requires c = line_fits c.args.out.now _ _ c.args.col c.requires

pub put_number-requires : goal.put_number-requires
put_number-requires c = col_fits _ _ _ _ c.requires _ _ c.put_number-after_line.ensures

pub returns : goal.returns
returns c = position_put _ _ _ _ c.requires _ _ c.put_number-after_line.ensures _ _ c.put_number.ensures
