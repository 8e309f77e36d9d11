-- `compose::origin` meets its contract, by the laws of `Step`. Assumes nothing.
use mathlib.Core.Path.{sym, ◌∙◌}
use Rattle.compose.proofs.Step.{no_source, not_found, within, sourceless, sourced}
use Rattle.compose.proofs.origin.Goals as goal

pub returns-then-t-eq-NONE : goal.returns-then-t-eq-NONE
returns-then-t-eq-NONE c = no_source _ _ _ c.requires.1 c.if-t-eq-NONE.true

pub returns-in_err-s : goal.returns-in_err-s
returns-in_err-s c =
    rw c.from_residual.ensures (not_found _ _ _ c.seek-s.ensures.next c.if-t-eq-NONE.false (sym c.in_err-s.was ∙ c.seek-s.ensures.found))

pub token_at-o-requires : goal.token_at-o-requires
token_at-o-requires c = within _ c.args.t _ c.seek-s.ensures.next c.if-t-eq-NONE.false _ (sym c.in_ok-s.was ∙ c.seek-s.ensures.found)

pub returns-then-o : goal.returns-then-o
returns-then-o c =
    sourceless _ _ _ c.seek-s.ensures.next c.if-t-eq-NONE.false _ (sym c.in_ok-s.was ∙ c.seek-s.ensures.found) _ c.token_at-o.ensures c.if-o.true

pub returns : goal.returns
returns c =
    sourced _ _ _ c.seek-s.ensures.next c.if-t-eq-NONE.false _ (sym c.in_ok-s.was ∙ c.seek-s.ensures.found) _ c.token_at-o.ensures c.if-o.false
