-- `translate::translate` meets its contract, by the laws of `Whole`. Assumes nothing.
use Rattle.std.proofs.Common.{sym, ◌∙◌}
use Rattle.translate.proofs.Whole.{none_big}
use Rattle.translate.proofs.translate.Goals as goal

pub move_all-requires : goal.move_all-requires
move_all-requires c = none_big _ _ _ _ (sym c.in_ok-answer_for.was ∙ c.answer_for.ensures)
