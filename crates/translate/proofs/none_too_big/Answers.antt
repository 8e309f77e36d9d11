-- `translate::none_too_big` meets its contract, by the laws of `Pass`. Assumes nothing.
use Rattle.std.proofs.Common.{sym, ◌∙◌, arith}
use Rattle.translate.proofs.Pass.{next, all_small}
use Rattle.translate.proofs.none_too_big.Goals as goal

pub loop-i-preserved : goal.loop-i-preserved
loop-i-preserved g c = next _ _ _ _ _ _ _ _ _ _ c.loop-i.invariant c.at.ensures c.at-in-loop-i.ensures c.cover_both-c.ensures

pub returns : goal.returns
returns g c = λ e. all_small _ _ _ _ _ _ _ _ _ c.loop-i.invariant c.loop-i-test.false (omega arith) (omega arith) (sym c.cover_fits.ensures ∙ e)
