-- `changes::next_turn` meets its contract, by the laws of `Walk`. Assumes nothing.
use native.Mathlib.Omega.{arith}
use mathlib.Core.Path.{◌∙◌, ap, ap₂}
use Rattle.token.specs.declared.Token.{Token}
use Rattle.order.specs.Keys.{key_of}
use Rattle.order.proofs.Rise.{narrow}
use Rattle.changes.specs.Changes.{agree}
use Rattle.changes.proofs.Walk.{answers, right_ended, left_ended, left_first, right_first, same_here, other_here}
use Rattle.changes.proofs.next_turn.Goals as goal

pub returns-then-places_in-j : goal.returns-then-places_in-j
returns-then-places_in-j c = answers _ _ _ _ _ _ c.turned.ensures (right_ended _ _ _ _ c.requires (omega (arith, c.if-places_in-j.true, c.places_in.ensures)))

pub returns-then-places_in-i : goal.returns-then-places_in-i
returns-then-places_in-i c = answers _ _ _ _ _ _ c.turned-then-places_in-i.ensures (left_ended _ _ _ _ c.requires (omega (arith, c.if-places_in-i.true, c.places_in-2.ensures)))

pub returns-then-p-q : goal.returns-then-p-q
returns-then-p-q c = answers _ _ _ _ _ _ c.turned-then-p-q.ensures (left_first _ _ _ _ c.requires (omega (arith, c.if-places_in-i.false, c.places_in-2.ensures)) (omega (arith, c.if-places_in-j.false, c.places_in.ensures)) (narrow _ (λ k. omega (arith, c.type_inv.left k)) _) (narrow _ (λ k. omega (arith, c.type_inv.right k)) _) _ _ (c.key_of-p.ensures ∙ ap (λ (t : Token). key_of t.dst_line t.dst_col) c.token_at-t.ensures) (c.key_of-q.ensures ∙ ap (λ (t : Token). key_of t.dst_line t.dst_col) c.token_at-u.ensures) c.if-p-q.true)

pub returns-then-q-p : goal.returns-then-q-p
returns-then-q-p c = answers _ _ _ _ _ _ c.turned-then-q-p.ensures (right_first _ _ _ _ c.requires (omega (arith, c.if-places_in-i.false, c.places_in-2.ensures)) (omega (arith, c.if-places_in-j.false, c.places_in.ensures)) (narrow _ (λ k. omega (arith, c.type_inv.left k)) _) (narrow _ (λ k. omega (arith, c.type_inv.right k)) _) _ _ (c.key_of-p.ensures ∙ ap (λ (t : Token). key_of t.dst_line t.dst_col) c.token_at-t.ensures) (c.key_of-q.ensures ∙ ap (λ (t : Token). key_of t.dst_line t.dst_col) c.token_at-u.ensures) c.if-q-p.true)

pub returns-then-same_six : goal.returns-then-same_six
returns-then-same_six c = answers _ _ _ _ _ _ c.turned-then-same_six.ensures (same_here _ _ _ _ c.requires (omega (arith, c.if-places_in-i.false, c.places_in-2.ensures)) (omega (arith, c.if-places_in-j.false, c.places_in.ensures)) (narrow _ (λ k. omega (arith, c.type_inv.left k)) _) (narrow _ (λ k. omega (arith, c.type_inv.right k)) _) _ _ (c.key_of-p.ensures ∙ ap (λ (t : Token). key_of t.dst_line t.dst_col) c.token_at-t.ensures) (c.key_of-q.ensures ∙ ap (λ (t : Token). key_of t.dst_line t.dst_col) c.token_at-u.ensures) c.if-q-p.false c.if-p-q.false _ (c.same_six.ensures ∙ ap₂ agree c.token_at-t.ensures c.token_at-u.ensures) c.if-same_six.true)

pub returns : goal.returns
returns c = answers _ _ _ _ _ _ c.turned-2.ensures (other_here _ _ _ _ c.requires (omega (arith, c.if-places_in-i.false, c.places_in-2.ensures)) (omega (arith, c.if-places_in-j.false, c.places_in.ensures)) (narrow _ (λ k. omega (arith, c.type_inv.left k)) _) (narrow _ (λ k. omega (arith, c.type_inv.right k)) _) _ _ (c.key_of-p.ensures ∙ ap (λ (t : Token). key_of t.dst_line t.dst_col) c.token_at-t.ensures) (c.key_of-q.ensures ∙ ap (λ (t : Token). key_of t.dst_line t.dst_col) c.token_at-u.ensures) c.if-q-p.false c.if-p-q.false _ (c.same_six.ensures ∙ ap₂ agree c.token_at-t.ensures c.token_at-u.ensures) c.if-same_six.false)
