use Rattle.std.proofs.Common.{ℕ, List, get_or, ap, ◌∙◌}
use Rattle.vlq_write.proofs.NearSteps.{near_writes}
use Rattle.vlq_write.proofs.near_char.Goals as goal

pub returns : goal.returns
returns c = ap (λ (l : List ℕ). get_or l c.args.x 0) c.args.tables.now.near_are ∙ near_writes c.args.x c.requires
