use Rattle.vlq_write.proofs.FewDigits.{low_char_is}
use Rattle.vlq_write.proofs.low_char.Goals as goal

pub returns : goal.returns
returns c = low_char_is _ _ _ c.goes_on.ensures c.digit_char.ensures
