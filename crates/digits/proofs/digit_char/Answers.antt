-- `digits::digit_char` meets its contract. Assumes nothing.
use Rattle.digits.specs.Tables.{writing}
use Rattle.digits.proofs.Tables.{writes}
use Rattle.digits.proofs.digit_char.Goals as goal

pub returns : goal.returns
unfolding writing
returns c = writes c.args.d c.requires
