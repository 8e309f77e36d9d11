-- `order::is_sorted` meets its contract, by the laws of `Rise`. Assumes nothing.
use native.Mathlib.Omega.{arith}
use Prim.Native.Nat.{◌-◌}
use mathlib.Core.Path.{sym, ◌∙◌}
use Rattle.order.proofs.Rise.{narrow, by_parts, by_rest, empty}
use Rattle.order.proofs.is_sorted.Goals as goal

pub returns-then-tokens-eq0 : goal.returns-then-tokens-eq0
returns-then-tokens-eq0 c = empty _ (sym c.places_in-tokens.ensures ∙ c.if-tokens-eq0.true)

pub returns-then-parts_rise : goal.returns-then-parts_rise
returns-then-parts_rise c = by_rest _ (narrow _ (λ i. omega (arith, c.type_inv.table i))) (c.places_in-tokens.result - 1) (omega (arith, c.places_in-tokens.ensures, c.if-tokens-eq0.false)) _ _ (omega arith) c.parts_rise.ensures c.if-parts_rise.true _ c.fall_behind.ensures _ c.is_none.ensures

pub returns-else-parts_rise : goal.returns-else-parts_rise
returns-else-parts_rise c = c.if-parts_rise.false ∙ by_parts _ (narrow _ (λ i. omega (arith, c.type_inv.table i))) (c.places_in-tokens.result - 1) (omega (arith, c.places_in-tokens.ensures, c.if-tokens-eq0.false)) _ _ (omega arith) c.parts_rise.ensures c.if-parts_rise.false
