use Rattle.std.proofs.Common.{refl}
use Rattle.vlq_write.proofs.FewDigits.{few_put}
use Rattle.vlq_write.proofs.put_few.Goals as goal

pub returns : goal.returns
returns c = few_put _ _ _ c.requires.few c.requires.at_in_bounds _ _ _ refl refl refl _ _ _ _ _ _ _ _ c.digit_char.ensures c.low_char.ensures c.low_char-c2.ensures c.kept.ensures c.digit_char-c3.ensures c.kept-2.ensures c.over.ensures c.over-2.ensures
