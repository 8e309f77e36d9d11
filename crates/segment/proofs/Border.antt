-- Where the fields of a segment end: at a delimiter, or at the end. Assumes nothing.
use Rattle.std.specs.Prelude.{Some, None, Ok, Err}
use Rattle.std.proofs.Common.{◌≡◌, ℕ, zero, suc, ◌+◌, ◌-◌, ◌≤◌, Bool, true, false, List, [], ◌∷◌, drop, sym, refl, subst, arith}
use Rattle.list.specs.Pick.{pick}
use Rattle.digits.specs.Digits.{is_delim}
use Rattle.value.specs.declared.Mode.{Mode}
use Rattle.vlq.specs.Vlq.{Digits, cut, long, num, digits_from, vlq_from, vlq_of, Vlq}
use Rattle.segment.specs.Segment.{Field, Fields, whole, leftover, overflow, before, field_then, fields_from}
use Rattle.vlq.specs.declared.Broken.{Broken}

-- the bytes are none, or begin with a delimiter
abbrev pub Border : List ℕ → Type 0
Border [] = Unit {0}
Border (b ∷ bs) = is_delim b ≡ true

-- fields that are whole end at a border of the bytes, which stand at the place at, and not before them
abbrev pub Ends : ℕ → List ℕ → Fields → Type 0
Ends at bs (whole fs next) = (at ≤ next) × Border (drop (next - at) bs)
Ends at bs (leftover place) = Unit {0}
Ends at bs (overflow place) = Unit {0}

before_ends : (at : ℕ) (bs : List ℕ) (f : Field) (r : Fields) → Ends at bs r → Ends at bs (before f r)
before_ends at bs f (whole fs next) h = h
before_ends at bs f (leftover place) h = tt
before_ends at bs f (overflow place) h = tt

-- a byte more before them
later : (at b : ℕ) (bs : List ℕ) (r : Fields) → Ends (at + 1) bs r → Ends at (b ∷ bs) r
later at b bs (whole fs next) h =
    let n : next - at ≡ suc (next - (at + 1)) = omega (arith, h.0) in
    (omega (arith, h.0), subst (λ (k : ℕ). Border (drop k (b ∷ bs))) (sym n) h.1)
later at b bs (leftover place) h = tt
later at b bs (overflow place) h = tt

not_end : {A : Type 0} (at : ℕ) (d : Digits) → vlq_from at d ≡ Ok None → A
not_end at (cut k) e = let z : ◌≡◌ {A = ℕ} 0 1 = cc in absurd (omega arith)
not_end at (long k) e = let z : ◌≡◌ {A = ℕ} 0 1 = cc in absurd (omega arith)
not_end at (num n len) e = let z : ◌≡◌ {A = ℕ} 0 1 = cc in absurd (omega arith)

-- nothing stands there only before a delimiter
pub end_delim : (at b : ℕ) (bs : List ℕ) → vlq_of at (b ∷ bs) ≡ Ok None → is_delim b ≡ true
unfolding vlq_of
end_delim at b bs e = by (is_delim b) refl e
  where
    by : (t : Bool) → is_delim b ≡ t → pick t (Ok None) (vlq_from at (digits_from 13 (b ∷ bs))) ≡ Ok None → is_delim b ≡ true
    by true q w = q
    by false q w = not_end at (digits_from 13 (b ∷ bs)) w

zero_less : (at : ℕ) → at - at ≡ 0
zero_less at = omega arith

pub ends : (mode : Mode) (skip at : ℕ) (bs : List ℕ) → Ends at bs (fields_from mode skip at bs)
unfolding fields_from
ends mode zero at [] = (omega arith, rw (zero_less at) tt)
ends mode (suc skip) at [] = (omega arith, rw (zero_less at) tt)
ends mode (suc skip) at (b ∷ bs) = later at b bs (fields_from mode skip (at + 1) bs) (ends mode skip (at + 1) bs)
ends mode zero at (b ∷ bs) = by (vlq_of at (b ∷ bs)) refl (λ next. ends mode (next - (at + 1)) (at + 1) bs)
  where
    by : (r : Vlq) → vlq_of at (b ∷ bs) ≡ r → ((next : ℕ) → Ends (at + 1) bs (fields_from mode (next - (at + 1)) (at + 1) bs))
        → Ends at (b ∷ bs) (field_then mode at r (λ next. fields_from mode (next - (at + 1)) (at + 1) bs))
    by (Ok None) e ih = (omega arith, subst (λ (k : ℕ). Border (drop k (b ∷ bs))) (sym (zero_less at)) (end_delim at b bs e))
    by (Ok (Some (bits, lost, next))) e ih =
        before_ends at (b ∷ bs) _ (fields_from mode (next - (at + 1)) (at + 1) bs) (later at b bs (fields_from mode (next - (at + 1)) (at + 1) bs) (ih next))
    by (Err (Broken.Leftover place)) e ih = tt
    by (Err (Broken.Overflow place)) e ih = tt
