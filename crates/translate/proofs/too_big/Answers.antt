-- `translate::too_big` meets its contract, by the laws of `Covers`. Assumes nothing.
use Rattle.std.proofs.Common.{not, ap, ◌∙◌, arith}
use Rattle.translate.specs.Covers.{cover_with, cover_fits}
use Rattle.translate.proofs.Covers.{exact, zeros}
use Rattle.translate.proofs.too_big.Goals as goal

pub returns : goal.returns
returns c = ap not (c.cover_fits.ensures ∙ ap (cover_fits c.args.by.line c.args.by.source c.args.by.name) (c.cover_with.ensures ∙ ap (λ x. cover_with x c.args.t) (zeros c.default.result c.default.ensures))) ∙ exact _ _ _ c.args.t (record { line = omega arith; source = omega arith; name = omega arith }) (omega arith) (omega arith)
