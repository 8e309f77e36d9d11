use Rattle.std.proofs.Common.{ℕ, List, get_or, ap, ◌∙◌}
use Rattle.digits.proofs.Tables.{writes}
use Rattle.vlq_write.proofs.digit_char.Goals as goal

pub returns : goal.returns
returns c = ap (λ (l : List ℕ). get_or l c.args.d 0) c.args.tables.now.digits_are ∙ writes c.args.d c.requires
