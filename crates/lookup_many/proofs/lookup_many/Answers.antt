-- `lookup_many::lookup_many` meets its contract, by the laws of `Whole`. Assumes nothing.
use mathlib.Core.Path.{sym, ◌∙◌}
use Rattle.lookup_many.proofs.Whole.{ready, answered}
use Rattle.lookup_many.proofs.lookup_many.Goals as goal

pub look_all-requires : goal.look_all-requires
look_all-requires c = ready _ _ c.args.found.now (sym c.in_ok-code_for.was ∙ c.code_for.ensures)

pub returns : goal.returns
returns c = answered _ _ _ (sym c.in_ok-code_for.was ∙ c.code_for.ensures) _ c.look_all.ensures
