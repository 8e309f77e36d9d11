-- `translate::cover_both` meets its contract, by the laws of `Covers`. Assumes nothing.
use Rattle.std.proofs.Common.{ap, ◌∙◌, arith}
use Rattle.translate.specs.Covers.{cover_with}
use Rattle.translate.proofs.Covers.{both}
use Rattle.translate.proofs.cover_both.Goals as goal

pub returns : goal.returns
returns c = both c.args.c c.args.t c.args.u _ (record { line = omega arith; source = omega arith; name = omega arith }) (record { line = omega arith; source = omega arith; name = omega arith }) (c.cover_with-2.ensures ∙ ap (λ x. cover_with x c.args.u) c.cover_with.ensures)
