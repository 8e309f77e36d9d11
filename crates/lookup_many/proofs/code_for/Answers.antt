-- `lookup_many::code_for` meets its contract, by the laws of `Tests`. Assumes nothing.
use mathlib.Core.Path.{sym, ◌∙◌}
use Rattle.lookup_many.proofs.Tests.{bad, odd, no_room, done}
use Rattle.lookup_many.proofs.code_for.Goals as goal

pub returns-then-bad_table : goal.returns-then-bad_table
returns-then-bad_table c = bad _ _ _ (sym c.bad_table.ensures ∙ c.if-bad_table.true)

pub returns-then-positions-eq1 : goal.returns-then-positions-eq1
returns-then-positions-eq1 c = odd _ _ _ (sym c.bad_table.ensures ∙ c.if-bad_table.false) c.if-positions-eq1.true

pub returns-then-room-asked : goal.returns-then-room-asked
returns-then-room-asked c = no_room _ _ _ (sym c.bad_table.ensures ∙ c.if-bad_table.false) c.if-positions-eq1.false c.if-room-asked.true

pub returns : goal.returns
returns c = done _ _ _ (sym c.bad_table.ensures ∙ c.if-bad_table.false) c.if-positions-eq1.false c.if-room-asked.false
