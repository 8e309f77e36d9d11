-- `compare_tables::compare_tables` meets its contract, by the laws of `Answer`. Assumes nothing.
use mathlib.Core.Path.{sym, ◌∙◌}
use Rattle.compare_tables.proofs.Answer.{ready}
use Rattle.compare_tables.proofs.compare_tables.Goals as goal

pub write-requires : goal.write-requires
write-requires c = let r = ready _ _ _ c.in_ok-entries.entries (sym c.in_ok-entries.was ∙ c.answer_for.ensures) in (r.walks, r.room_for)
