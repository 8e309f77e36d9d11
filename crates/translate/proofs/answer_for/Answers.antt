-- `translate::answer_for` meets its contract, by the laws of `Whole`. Assumes nothing.
use Rattle.std.proofs.Common.{sym, ◌∙◌}
use Rattle.translate.proofs.Scan.{is_bad}
use Rattle.translate.proofs.Whole.{looked}
use Rattle.translate.proofs.answer_for.Goals as goal

pub returns-then-bad_table : goal.returns-then-bad_table
returns-then-bad_table c = is_bad _ _ _ _ (sym c.bad_table.ensures ∙ c.if-bad_table.true)

pub returns : goal.returns
returns c = looked _ _ _ _ _ _ (sym c.bad_table.ensures ∙ c.if-bad_table.false) c.places_in.ensures (λ k t h p. p) _ c.look.ensures
