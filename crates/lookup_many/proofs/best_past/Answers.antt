-- `lookup_many::best_past` meets its contract, by the laws of `Blocks`. Assumes nothing.
use native.Mathlib.Omega.{arith}
use mathlib.Core.Path.{sym, ◌∙◌}
use Rattle.order.proofs.Rise.{narrow}
use Rattle.lookup.proofs.Scan.{found_inside}
use Rattle.lookup_many.proofs.Blocks.{found_first, keeps_earlier, takes_later}
use Rattle.lookup_many.proofs.best_past.Goals as goal

pub key_at-requires : goal.key_at-requires
key_at-requires c = found_inside _ _ _ _ _ c.requires.spans.0 _ (sym c.requires.spans.1.1 ∙ c.in-Some.is)

pub returns-then-b-key_at : goal.returns-then-b-key_at
returns-then-b-key_at c = sym c.in-Some.is ∙ keeps_earlier _ _ _ _ _ _ c.requires.spans.0 c.requires.spans.1.0 _ c.requires.spans.1.1 c.requires.around (omega (arith, c.key_of.ensures, c.if-key_of-b.false)) (omega arith) (narrow _ (λ i. omega (arith, c.type_inv.table i))) _ c.in-Some.is (omega (arith, c.key_at.ensures, c.if-b-key_at.true))

pub returns-else-b-key_at : goal.returns-else-b-key_at
returns-else-b-key_at c = takes_later _ _ _ _ _ _ c.requires.spans.0 c.requires.spans.1.0 _ c.requires.spans.1.1 c.requires.around (omega (arith, c.key_of.ensures, c.if-key_of-b.false)) (omega arith) (narrow _ (λ i. omega (arith, c.type_inv.table i))) _ c.in-Some.is (omega (arith, c.key_at.ensures, c.if-b-key_at.false))

pub returns-in_default : goal.returns-in_default
returns-in_default c = found_first _ _ _ _ _ _ c.requires.spans.0 c.requires.spans.1.0 _ c.requires.spans.1.1 c.requires.around (omega (arith, c.key_of.ensures, c.if-key_of-b.false)) (omega arith) (narrow _ (λ i. omega (arith, c.type_inv.table i))) c.in_default.is
