-- `records::translate_tokens` meets its contract, by the laws of `Laws`. Assumes nothing.
use mathlib.Core.Path.{sym, ◌∙◌}
use Rattle.records.proofs.Laws.{none_big}
use Rattle.records.proofs.translate_tokens.Goals as goal

pub move_all-requires : goal.move_all-requires
move_all-requires c = none_big _ _ _ _ (sym c.in_ok-answer_for.was ∙ c.answer_for.ensures)
