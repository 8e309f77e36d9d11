-- `short::few_after` meets its contract. Assumes nothing.
use Rattle.std.proofs.Common.{sym, ◌∙◌}
use Rattle.short.proofs.Laws.{few_four, few_five}
use Rattle.short.proofs.few_after.Goals as goal

pub returns-then-is_delim : goal.returns-then-is_delim
returns-then-is_delim c = few_four _ c.args.at _ c.requires.0 c.requires.1 _ c.in_ok-f.ensures c.if-f-eq1.false _ c.move_of.ensures (sym c.is_delim.ensures ∙ c.if-is_delim.true)

pub returns-then-is_delim-2 : goal.returns-then-is_delim-2
returns-then-is_delim-2 c =
    few_five _ c.args.at _ c.requires.0 c.requires.1 _ c.in_ok-f.ensures c.if-f-eq1.false _ c.move_of-then-is_delim-2.ensures
    _ c.in_ok-g.ensures c.if-g-eq1.false _ c.move_of-then-is_delim-2-2.ensures (sym c.is_delim-2.ensures ∙ c.if-is_delim-2.true)
