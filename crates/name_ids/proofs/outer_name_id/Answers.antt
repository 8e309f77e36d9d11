-- `name_ids::outer_name_id` meets its contract, by the laws of `Grow`. Assumes nothing.
use mathlib.Core.Path.{sym, ◌∙◌}
use native.Mathlib.Omega.{arith}
use Rattle.name_ids.proofs.Grow.{past, place_fits, place_id, inner_fits, inner_id, added_fits, added_id, new_fits, new_id}
use Rattle.name_ids.proofs.outer_name_id.Goals as goal

pub returns-then-outer-k : goal.returns-then-outer-k
returns-then-outer-k c = past _ _ _ _ c.requires c.if-outer-k.true

pub overflow_cast-result : goal.overflow_cast-result
overflow_cast-result c = omega (arith, place_fits _ _ _ c.args.id c.requires _ c.in-Some.ensures.0)

pub returns-in-Some : goal.returns-in-Some
returns-in-Some c = place_id _ _ _ _ c.requires _ c.in-Some.ensures.0 c.in-Some.ensures.1

pub overflow_cast-result-in-Some-first_name : goal.overflow_cast-result-in-Some-first_name
overflow_cast-result-in-Some-first_name c = omega (arith, inner_fits _ _ _ _ c.requires c.if-outer-k.false _ c.name_at-name.ensures _ c.in-Some-first_name.ensures)

pub returns-in-Some-first_name : goal.returns-in-Some-first_name
returns-in-Some-first_name c = inner_id _ _ _ _ c.requires c.if-outer-k.false _ c.name_at-name.ensures _ c.in-Some-first_name.ensures

pub overflow_add-result-in-Some-first_added : goal.overflow_add-result-in-Some-first_added
overflow_add-result-in-Some-first_added c =
    omega (arith, added_fits _ _ _ _ c.requires c.if-outer-k.false _ c.name_at-name.ensures (sym c.in_default-first_name.is ∙ c.first_name.ensures) _ c.in-Some-first_added.ensures)

pub overflow_cast-result-in-Some-first_added : goal.overflow_cast-result-in-Some-first_added
overflow_cast-result-in-Some-first_added c =
    omega (arith, added_fits _ _ _ _ c.requires c.if-outer-k.false _ c.name_at-name.ensures (sym c.in_default-first_name.is ∙ c.first_name.ensures) _ c.in-Some-first_added.ensures)

pub overflow_cast-result-in-None : goal.overflow_cast-result-in-None
overflow_cast-result-in-None c =
    omega (arith, new_fits _ _ _ _ c.requires c.if-outer-k.false _ c.name_at-name.ensures (sym c.in_default-first_name.is ∙ c.first_name.ensures))

pub returns-in-Some-first_added : goal.returns-in-Some-first_added
returns-in-Some-first_added c =
    added_id _ _ _ _ c.requires c.if-outer-k.false _ c.name_at-name.ensures (sym c.in_default-first_name.is ∙ c.first_name.ensures) _ c.in-Some-first_added.ensures

pub returns-in-None : goal.returns-in-None
returns-in-None c =
    new_id _ _ _ _ c.requires c.if-outer-k.false _ c.name_at-name.ensures (sym c.in_default-first_name.is ∙ c.first_name.ensures) (sym c.in-None.is ∙ c.first_added.ensures)
