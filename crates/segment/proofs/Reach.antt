-- The fields from a place on, one value at a time, and how far they reach. Assumes nothing.
use Rattle.std.proofs.Common.{◌≡◌, ℕ, zero, suc, ◌+◌, ◌-◌, ◌<◌, ◌≤◌, List, [], ◌∷◌, length, drop, sym, refl, ap, ◌∙◌, le_of_suc-le-suc, not-suc-le-zero, add-zero, arith, length-drop, drop-drop}
use Rattle.value.specs.declared.Mode.{Mode}
use Rattle.vlq.specs.Vlq.{vlq_of, vlq_at, Vlq}
use Rattle.segment.specs.Segment.{field_then, fields_from}

pub fields_skip : (mode : Mode) (k at : ℕ) (bs : List ℕ) → k ≤ length bs → fields_from mode k at bs ≡ fields_from mode 0 (at + k) (drop k bs)
unfolding fields_from
fields_skip mode zero at bs h = ap (λ (n : ℕ). fields_from mode 0 n bs) (sym (add-zero at))
fields_skip mode (suc k) at [] h = absurd (not-suc-le-zero h)
fields_skip mode (suc k) at (b ∷ bs) h =
    fields_skip mode k (at + 1) bs (le_of_suc-le-suc h)
    ∙ ap (λ (n : ℕ). fields_from mode 0 n (drop k bs)) (omega arith)

opened : (mode : Mode) (at : ℕ) (l : List ℕ)
    → fields_from mode 0 at l ≡ field_then mode at (vlq_of at l) (λ next. fields_from mode (next - (at + 1)) (at + 1) (drop 1 l))
unfolding fields_from vlq_of
opened mode at [] = refl
opened mode at (b ∷ bs) = refl

-- where the reader's answer is known
pub answered : (mode : Mode) (s : List ℕ) (at : ℕ) (r : Vlq) → vlq_at s at ≡ r
    → fields_from mode 0 at (drop at s) ≡ field_then mode at r (λ next. fields_from mode (next - (at + 1)) (at + 1) (drop 1 (drop at s)))
answered mode s at r e = opened mode at (drop at s) ∙ rw e

-- past a value
pub past : (mode : Mode) (s : List ℕ) (at next : ℕ) → at < next → next ≤ length s
    → fields_from mode (next - (at + 1)) (at + 1) (drop 1 (drop at s)) ≡ fields_from mode 0 next (drop next s)
past mode s at next p w =
    let l : length (drop (at + 1) s) ≡ length s - (at + 1) = length-drop (at + 1) s in
    let a : at + 1 + (next - (at + 1)) ≡ next = omega arith in
    ap (fields_from mode (next - (at + 1)) (at + 1)) (drop-drop 1 at s)
    ∙ fields_skip mode (next - (at + 1)) (at + 1) (drop (at + 1) s) (omega arith)
    ∙ rw (drop-drop (next - (at + 1)) (at + 1) s, a)
