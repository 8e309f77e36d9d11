-- `order::first_fall` meets its contract, by the laws of `Rise`. Assumes nothing.
use native.Mathlib.Omega.{arith}
use Prim.Native.Nat.{◌-◌}
use mathlib.Core.Path.{sym, ◌∙◌}
use Rattle.order.proofs.Rise.{narrow, some_token, first_is, none_falls}
use Rattle.order.proofs.first_fall.Goals as goal

pub returns-then-is_sorted : goal.returns-then-is_sorted
returns-then-is_sorted c = none_falls _ (sym c.is_sorted.ensures ∙ c.if-is_sorted.true)

pub overflow_sub-places_in : goal.overflow_sub-places_in
overflow_sub-places_in c = omega (arith, some_token _ (sym c.is_sorted.ensures ∙ c.if-is_sorted.false), c.places_in.ensures)

pub fall_behind-requires : goal.fall_behind-requires
fall_behind-requires c = (omega arith, omega (arith, some_token _ (sym c.is_sorted.ensures ∙ c.if-is_sorted.false), c.places_in.ensures))

pub returns : goal.returns
returns c = first_is _ (narrow _ (λ i. omega (arith, c.type_inv.table i))) (c.places_in.result - 1) (omega (arith, c.places_in.ensures, some_token _ (sym c.is_sorted.ensures ∙ c.if-is_sorted.false))) _ c.fall_behind.ensures
