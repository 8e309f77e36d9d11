-- `translate::look` meets its contract, by the laws of `Pass`. Assumes nothing.
use Rattle.std.proofs.Common.{sym, ◌∙◌}
use Rattle.translate.proofs.Pass.{more}
use Rattle.translate.proofs.look.Goals as goal

pub loop-i-preserved : goal.loop-i-preserved
loop-i-preserved g c = more _ _ _ _ _ _ c.loop-i.invariant c.at.ensures (sym c.too_big.ensures ∙ c.if-too_big.false)
