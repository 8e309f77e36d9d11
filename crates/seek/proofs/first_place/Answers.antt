-- `seek::first_place` meets its contract. Assumes nothing.
use Rattle.std.proofs.Common.{sym, ◌∙◌, arith}
use Rattle.order.proofs.Rise.{narrow, rising}
use Rattle.seek.proofs.first_place.Goals as goal

pub returns-then-is_sorted : goal.returns-then-is_sorted
returns-then-is_sorted c = record { rising = rising _ (narrow _ (λ i. omega (arith, c.type_inv.table i))) (sym c.is_sorted.ensures ∙ c.if-is_sorted.true); within = omega (arith, c.places_in.ensures, c.if-places_in-eq0.false) }
