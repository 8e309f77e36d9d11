-- `lookup_quick::lookup_many_quick` meets its contract, by the laws of `Whole`. Assumes nothing.
use native.Mathlib.Omega.{arith}
use mathlib.Core.Path.{sym, ◌∙◌}
use Rattle.order.proofs.Rise.{narrow, rising}
use Rattle.lookup_many.proofs.Whole.{ready, answered}
use Rattle.lookup_quick.proofs.lookup_many_quick.Goals as goal

pub look_sorted-requires : goal.look_sorted-requires
look_sorted-requires c =
    let r = ready _ _ c.args.found.now (sym c.in_ok-code_for.was ∙ c.code_for.ensures) in
    ((r.0, (rising c.args.table.now (narrow _ (λ i. omega (arith, c.type_inv.table i))) (sym c.is_sorted.ensures ∙ c.if-is_sorted.true), (c.places_in-tokens.ensures, omega (arith, c.if-tokens-ne0.true)))), r.1)

pub look_all-requires : goal.look_all-requires
look_all-requires c = ready _ _ c.args.found.now (sym c.in_ok-code_for.was ∙ c.code_for.ensures)

pub returns-then-is_sorted : goal.returns-then-is_sorted
returns-then-is_sorted c = answered _ _ _ (sym c.in_ok-code_for.was ∙ c.code_for.ensures) _ c.look_sorted.ensures

pub returns-else-tokens-ne0 : goal.returns-else-tokens-ne0
returns-else-tokens-ne0 c = answered _ _ _ (sym c.in_ok-code_for.was ∙ c.code_for.ensures) _ c.look_all.ensures
