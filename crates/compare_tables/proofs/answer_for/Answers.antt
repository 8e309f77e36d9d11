-- `compare_tables::answer_for` meets its contract, by the laws of `Answer`. Assumes nothing.
use Rattle.std.proofs.Common.{rules}
use native.Mathlib.Omega.{arith}
use mathlib.Core.Path.{sym, ◌∙◌}
use Rattle.compare_tables.proofs.Answer.{falls_small, bad_left, bad_right, left_falls, right_falls, short, enough}
use Rattle.compare_tables.proofs.answer_for.Goals as goal
use Rattle.compare_tables.proofs.answer_for.Goals.{then-bad_table-via-then-bad_table, then-bad_table-via-else-bad_table+then-bad_table-2}

pub returns-then-bad_table : goal.returns-then-bad_table
returns-then-bad_table c =
    elim c.then-bad_table.branch [
      | then-bad_table-via-then-bad_table w ↦ bad_left _ _ _ (sym c.bad_table.ensures ∙ w.if-bad_table.true)
      | then-bad_table-via-else-bad_table+then-bad_table-2 w ↦ bad_right _ _ _ (sym c.bad_table.ensures ∙ w.if-bad_table.false) (sym w.bad_table-else-bad_table.ensures ∙ w.if-bad_table-2.true)
    ]

pub overflow_cast-result : goal.overflow_cast-result
overflow_cast-result c = let e = sym c.in-Some.is ∙ c.first_fall.ensures in omega (arith, falls_small _ _ (search rules) e)

pub returns-in-Some : goal.returns-in-Some
returns-in-Some c = left_falls _ _ _ (sym c.bad_table.ensures ∙ c.if-bad_table.false) (sym c.bad_table-else-bad_table.ensures ∙ c.if-bad_table-2.false) _ (sym c.in-Some.is ∙ c.first_fall.ensures)

pub overflow_cast-result-in-Some-first_fall : goal.overflow_cast-result-in-Some-first_fall
overflow_cast-result-in-Some-first_fall c = let e = sym c.in-Some-first_fall.is ∙ c.first_fall-2.ensures in omega (arith, falls_small _ _ (search rules) e)

pub returns-in-Some-first_fall : goal.returns-in-Some-first_fall
returns-in-Some-first_fall c = right_falls _ _ _ (sym c.bad_table.ensures ∙ c.if-bad_table.false) (sym c.bad_table-else-bad_table.ensures ∙ c.if-bad_table-2.false) (sym c.in_default.is ∙ c.first_fall.ensures) _ (sym c.in-Some-first_fall.is ∙ c.first_fall-2.ensures)

pub returns-then-room-numbers : goal.returns-then-room-numbers
returns-then-room-numbers c = short _ _ _ (sym c.bad_table.ensures ∙ c.if-bad_table.false) (sym c.bad_table-else-bad_table.ensures ∙ c.if-bad_table-2.false) (sym c.in_default.is ∙ c.first_fall.ensures) (sym c.in_default-first_fall.is ∙ c.first_fall-2.ensures) _ c.count-entries.ensures.is c.if-room-numbers.true

pub returns : goal.returns
returns c = enough _ _ _ (sym c.bad_table.ensures ∙ c.if-bad_table.false) (sym c.bad_table-else-bad_table.ensures ∙ c.if-bad_table-2.false) (sym c.in_default.is ∙ c.first_fall.ensures) (sym c.in_default-first_fall.is ∙ c.first_fall-2.ensures) _ c.count-entries.ensures.is c.if-room-numbers.false
