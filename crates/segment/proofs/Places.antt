-- Where a field begins, from its digits alone: the loop that looks for it, and that it is the field's own place. Assumes nothing.
use Rattle.std.specs.Prelude.{Some, None, Ok, Err}
use Rattle.std.proofs.Common.{◌≡◌, ℕ, zero, suc, ◌+◌, ◌-◌, ◌/◌, ◌%◌, ◌^◌, ◌<◌, ◌≤◌, Bool, true, false, eqb, ltb, List, [], ◌∷◌, length, get_or, drop, sym, refl, ap, ◌∙◌, add-one, arith, drop_of_length-le, drop-cons, le-ltb, lt-ltb}
use Rattle.list.specs.Pick.{pick}
use Rattle.digits.specs.Digits.{digit_of, is_delim, class_of}
use Rattle.value.specs.Value.{value_of}
use Rattle.value.specs.declared.Mode.{Mode}
use Rattle.vlq.specs.Vlq.{Digits, cut, long, num, push, digits_from, vlq_from, vlq_of, Vlq}
use Rattle.vlq.proofs.Values.{parts, tail_size}
use Rattle.segment.specs.Segment.{Field, Fields, whole, leftover, overflow, before, field_then, fields_from, starts}
use Rattle.segment.specs.Fields.{place_from}
use Rattle.segment.proofs.Reach.{fields_skip}
use Rattle.vlq.specs.declared.Broken.{Broken}

-- ---- the loop: k such digits are still to be passed from i on
pub none_left : (k i : ℕ) (s : List ℕ) → length s ≤ i → place_from k i (drop i s) ≡ i
unfolding place_from
none_left zero i s h = refl
none_left (suc k) i s h = rw (drop_of_length-le s {i = i} h)

pub none_due : (k i : ℕ) (l : List ℕ) → k ≡ 0 → place_from k i l ≡ i
unfolding place_from
none_due k i l e = rw e

-- d is what the byte at i reads as
module _ (s : List ℕ) (i : ℕ) (h : i < length s) (d : ℕ) (ed : d ≡ class_of (get_or s i 0)) where
  headed : drop i s ≡ get_or s i 0 ∷ drop (i + 1) s
  headed = rw (add-one i) (drop-cons s i 0 h)

  pub passes : (k : ℕ) → (k ≡ 0 → ⊥) → d < 32 → place_from k i (drop i s) ≡ place_from (k - 1) (i + 1) (drop (i + 1) s)
  unfolding place_from
  passes zero n l = absurd (n refl)
  passes (suc k) n l = let m : suc k - 1 ≡ k = omega arith in rw (headed, ← ed, lt-ltb d 32 l, m)

  pub goes : (k : ℕ) → (k ≡ 0 → ⊥) → 32 ≤ d → place_from k i (drop i s) ≡ place_from k (i + 1) (drop (i + 1) s)
  unfolding place_from
  goes zero n l = absurd (n refl)
  goes (suc k) n l = rw (headed, ← ed, le-ltb d 32 l)

-- ---- past one value
zero_one : {A : Type 0} → ◌≡◌ {A = ℕ} 0 1 → A
zero_one z = absurd (omega arith)

plain : (b : ℕ) → is_delim b ≡ false → class_of b ≡ digit_of b
unfolding class_of
plain b e = rw e

past_digits : (left k at : ℕ) (l : List ℕ) (n len : ℕ) → digits_from left l ≡ num n len → place_from (suc k) at l ≡ place_from k (at + len) (drop len l)
unfolding digits_from place_from
past_digits left k at [] n len e = zero_one cc
past_digits left k at (b ∷ bs) n len e = by (is_delim b) (eqb left 0) (ltb (digit_of b) 32) refl refl (digits_from (left - 1) bs) (past_digits (left - 1) k (at + 1) bs) e
  where
    by : (t u v : Bool) → is_delim b ≡ t → ltb (digit_of b) 32 ≡ v → (r : Digits)
        → ((n' len' : ℕ) → r ≡ num n' len' → place_from (suc k) (at + 1) bs ≡ place_from k (at + 1 + len') (drop len' bs))
        → pick t (cut 0) (pick u (long 0) (pick v (num (digit_of b) 1) (push (digit_of b) r))) ≡ num n len
        → place_from (suc k) at (b ∷ bs) ≡ place_from k (at + len) (drop len (b ∷ bs))
    by true u v p q r ih w = zero_one cc
    by false true v p q r ih w = zero_one cc
    by false false true p q r ih w = let m : ◌≡◌ {A = ℕ} 1 len = cc in rw (plain b p, q, ← m)
    by false false false p q (cut j) ih w = zero_one cc
    by false false false p q (long j) ih w = zero_one cc
    by false false false p q (num n' len') ih w =
        let m : suc len' ≡ len = sym (add-one len') ∙ cc in
        let a : at + 1 + len' ≡ at + suc len' = omega arith in
        rw (plain b p, q, ← m, ← a) (ih n' len' refl)

-- what is read where a value is
pub record Read (at : ℕ) (l : List ℕ) (next : ℕ) : Type 0 where
  pub n : ℕ
  pub len : ℕ
  pub is : digits_from 13 l ≡ num n len
  pub next_is : next ≡ at + len

pub read : (at : ℕ) (b : ℕ) (bs : List ℕ) (bits lost next : ℕ) → vlq_of at (b ∷ bs) ≡ Ok (Some (bits, lost, next)) → Read at (b ∷ bs) next
unfolding vlq_of
read at b bs bits lost next e = by (is_delim b) (digits_from 13 (b ∷ bs)) refl e
  where
    by : (t : Bool) (r : Digits) → digits_from 13 (b ∷ bs) ≡ r → pick t (Ok None) (vlq_from at r) ≡ Ok (Some (bits, lost, next)) → Read at (b ∷ bs) next
    by true r q w = zero_one cc
    by false (cut k) q w = zero_one cc
    by false (long k) q w = zero_one cc
    by false (num n len) q w = record { n = n; len = len; is = q; next_is = sym (parts (n % 2 ^ 64) (n / 2 ^ 64) (at + len) bits lost next w).2 }

-- ---- the field's own place
none_there : {A : Type 0} (i : ℕ) (fs : List Field) → [] ≡ fs → i < length fs → A
none_there i fs q h = absurd (omega (arith, ap length q))

-- fields whose first is a value that ends at next': the others stand behind it
module _ (mode : Mode) (at b : ℕ) (bs : List ℕ) (next' : ℕ) (r : Read at (b ∷ bs) next') where
  pub behind : fields_from mode (next' - (at + 1)) (at + 1) bs ≡ fields_from mode 0 next' (drop r.len (b ∷ bs))
  behind =
      let z = tail_size (b ∷ bs) 13 r.n r.len r.is in
      let e : r.len ≡ suc (next' - (at + 1)) = omega (arith, z.0, r.next_is) in
      let a : at + 1 + (next' - (at + 1)) ≡ next' = omega (arith, z.0, r.next_is) in
      fields_skip mode (next' - (at + 1)) (at + 1) bs (omega (arith, z.1, e))
      ∙ rw (a, e)

abbrev Own : Mode → ℕ → Type 0
Own mode i = (at : ℕ) (l : List ℕ) (fs : List Field) (next z : ℕ) → fields_from mode 0 at l ≡ whole fs next → i < length fs → place_from i at l ≡ get_or (starts fs) i z

pub own : (mode : Mode) (i at : ℕ) (l : List ℕ) (fs : List Field) (next z : ℕ) → fields_from mode 0 at l ≡ whole fs next → i < length fs
    → place_from i at l ≡ get_or (starts fs) i z
unfolding fields_from place_from
own mode zero at [] fs next z e h = none_there zero fs (cc) h
own mode (suc i) at [] fs next z e h = none_there (suc i) fs (cc) h
own mode zero at (b ∷ bs) fs next z e h = by (vlq_of at (b ∷ bs)) e
  where
    first : (f : Field) (t : Fields) → f.start ≡ at → before f t ≡ whole fs next → at ≡ get_or (starts fs) 0 z
    first f (whole gs n) q w = let v : f ∷ gs ≡ fs = cc in rw (← v) (sym q)
    first f (leftover place) q w = zero_one cc
    first f (overflow place) q w = zero_one cc

    by : (r : Vlq) → field_then mode at r (λ next'. fields_from mode (next' - (at + 1)) (at + 1) bs) ≡ whole fs next → at ≡ get_or (starts fs) 0 z
    by (Ok None) w = none_there zero fs (cc) h
    by (Ok (Some (bits, lost, next'))) w = first (record { value = value_of mode bits lost; start = at }) (fields_from mode (next' - (at + 1)) (at + 1) bs) refl w
    by (Err (Broken.Leftover place)) w = zero_one cc
    by (Err (Broken.Overflow place)) w = zero_one cc
own mode (suc i) at (b ∷ bs) fs next z e h = by (vlq_of at (b ∷ bs)) refl e (own mode i)
  where
    more : (next' : ℕ) (r : Read at (b ∷ bs) next') (f : Field) (t : Fields) → fields_from mode 0 next' (drop r.len (b ∷ bs)) ≡ t
        → before f t ≡ whole fs next → Own mode i → place_from (suc i) at (b ∷ bs) ≡ get_or (starts fs) (suc i) z
    more next' r f (whole gs n) q w ih =
        let v : f ∷ gs ≡ fs = cc in
        past_digits 13 i at (b ∷ bs) r.n r.len r.is
        ∙ rw (← r.next_is, ← v) (ih next' (drop r.len (b ∷ bs)) gs n z q (omega (arith, h, ap length v)))
    more next' r f (leftover place) q w ih = zero_one cc
    more next' r f (overflow place) q w ih = zero_one cc

    by : (r : Vlq) → vlq_of at (b ∷ bs) ≡ r → field_then mode at r (λ next'. fields_from mode (next' - (at + 1)) (at + 1) bs) ≡ whole fs next
        → Own mode i → place_from (suc i) at (b ∷ bs) ≡ get_or (starts fs) (suc i) z
    by (Ok None) q w ih = none_there (suc i) fs (cc) h
    by (Ok (Some (bits, lost, next'))) q w ih =
        let r = read at b bs bits lost next' q in
        more next' r (record { value = value_of mode bits lost; start = at }) (fields_from mode 0 next' (drop r.len (b ∷ bs))) refl (rw (behind mode at b bs next' r) at w) ih
    by (Err (Broken.Leftover place)) q w ih = zero_one cc
    by (Err (Broken.Overflow place)) q w ih = zero_one cc
