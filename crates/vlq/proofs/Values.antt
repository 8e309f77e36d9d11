-- What a caller of the reader knows of a value: it takes at least one byte, ends within the text, and is within its range.
-- Assumes nothing.
use Rattle.std.specs.Prelude.{Some, None, Ok}
use mathlib.Core.Path.{◌≡◌, refl, ap}
use mathlib.Core.Bool.{Bool, true, false}
use mathlib.Core.List.{List, [], ◌∷◌}
use Prim.Native.Nat.{ℕ, suc, ◌+◌, ◌-◌, ◌*◌, ◌/◌, ◌%◌, ◌^◌, ◌<◌, ◌≤◌}
use native.Mathlib.Omega.{arith}
use lib.IntN.{nat_abs}
use lib.Dec.{ltb, eqb}
use lib.ListN.{length, drop, length-drop}
use lib.Pow.{pow_mono}
use borrow.Author.Tests.{ltb-true}
use Rattle.list.specs.Pick.{pick}
use Rattle.digits.specs.Digits.{digit_of, is_delim}
use Rattle.value.specs.Value.{value_of, number_of}
use Rattle.value.specs.declared.Mode.{Mode}
use Rattle.value.proofs.Range.{value_range}
use Rattle.vlq.proofs.Places.{place_next}
use Rattle.vlq.specs.Vlq.{Vlq, Digits, cut, long, num, push, digits_from, vlq_from, vlq_of, vlq_at}

-- equal answers have equal parts
pub parts : (a b c a' b' c' : ℕ) → ◌≡◌ {A = Vlq} (Ok (Some (a, b, c))) (Ok (Some (a', b', c'))) → (a ≡ a') × (b ≡ b') × (c ≡ c')
parts a b c a' b' c' e =
    let t : ◌≡◌ {A = ℕ × ℕ × ℕ} (a, b, c) (a', b', c') = cc in
    (ap (λ (p : ℕ × ℕ × ℕ). p.0) t, ap (λ (p : ℕ × ℕ × ℕ). p.1) t, ap (λ (p : ℕ × ℕ × ℕ). p.2) t)

abbrev pub Sized : ℕ → ℕ → Type 0
Sized len m = (0 < len) × (len ≤ m)

zero_one : ◌≡◌ {A = ℕ} 0 1 → ⊥
zero_one z = omega arith

pushed : (d : ℕ) (t : Digits) (n len m : ℕ) → ((n' len' : ℕ) → t ≡ num n' len' → Sized len' m) → push d t ≡ num n len → Sized len (suc m)
pushed d (cut j) n len m ih e = absurd (zero_one cc)
pushed d (long j) n len m ih e = absurd (zero_one cc)
pushed d (num n' len') n len m ih e =
    let q : len' + 1 ≡ len = cc in let p = ih n' len' refl in omega (arith, p.0, p.1)

picked : (t₁ t₂ t₃ : Bool) (d : ℕ) (t : Digits) (n len m : ℕ) → ((n' len' : ℕ) → t ≡ num n' len' → Sized len' m)
    → pick t₁ (cut 0) (pick t₂ (long 0) (pick t₃ (num d 1) (push d t))) ≡ num n len → Sized len (suc m)
picked true t₂ t₃ d t n len m ih e = absurd (zero_one cc)
picked false true t₃ d t n len m ih e = absurd (zero_one cc)
picked false false true d t n len m ih e = let q : ◌≡◌ {A = ℕ} 1 len = cc in omega arith
picked false false false d t n len m ih e = pushed d t n len m ih e

pub tail_size : (l : List ℕ) (left n len : ℕ) → digits_from left l ≡ num n len → Sized len (length l)
unfolding digits_from
tail_size [] left n len e = absurd (zero_one cc)
tail_size (b ∷ bs) left n len e =
    picked (is_delim b) (eqb left 0) (ltb (digit_of b) 32) (digit_of b) (digits_from (left - 1) bs) n len (length bs) (λ n' len'. tail_size bs (left - 1) n' len') e

pub record Read (s : List ℕ) (at bits lost next : ℕ) : Type 0 where
  pub past : at < next
  pub within : next ≤ length s
  pub small : (mode : Mode) → nat_abs (number_of (value_of mode bits lost)) ≤ 2 ^ 62

answered : (s : List ℕ) (at : ℕ) (t : Digits) (bits lost next : ℕ) → digits_from 13 (drop at s) ≡ t → vlq_from at t ≡ Ok (Some (bits, lost, next)) → Read s at bits lost next
answered s at (cut k) bits lost next q e = absurd (zero_one cc)
answered s at (long k) bits lost next q e = absurd (zero_one cc)
answered s at (num n len) bits lost next q e =
    let p = tail_size (drop at s) 13 n len q in
    let q' = parts (n % 2 ^ 64) (n / 2 ^ 64) (at + len) bits lost next e in
    let m : at + len ≡ next = q'.2 in
    let w : n % 2 ^ 64 ≡ bits = q'.0 in
    let l = length-drop at s in
    record {
      past = omega (arith, p.0);
      within = omega (arith, p.0, p.1);
      small = λ mode. value_range mode bits lost (omega arith);
    }

delimited : (t : Bool) (s : List ℕ) (at bits lost next : ℕ) → pick t (Ok None) (vlq_from at (digits_from 13 (drop at s))) ≡ Ok (Some (bits, lost, next)) → Read s at bits lost next
delimited true s at bits lost next e = absurd (zero_one cc)
delimited false s at bits lost next e = answered s at (digits_from 13 (drop at s)) bits lost next refl e

headed : (l s : List ℕ) (at bits lost next : ℕ) → drop at s ≡ l → vlq_of at l ≡ Ok (Some (bits, lost, next)) → Read s at bits lost next
unfolding vlq_of
headed [] s at bits lost next q e = absurd (zero_one cc)
headed (b ∷ bs) s at bits lost next q e = delimited (is_delim b) s at bits lost next (rw q e)

pub value : (s : List ℕ) (at bits lost next : ℕ) → vlq_at s at ≡ Ok (Some (bits, lost, next)) → Read s at bits lost next
value s at bits lost next e = headed (drop at s) s at bits lost next refl e

-- the bits of a value are 64
answer_bits : (at : ℕ) (t : Digits) (bits lost next : ℕ) → vlq_from at t ≡ Ok (Some (bits, lost, next)) → bits < 2 ^ 64
answer_bits at (cut k) bits lost next e = absurd (zero_one cc)
answer_bits at (long k) bits lost next e = absurd (zero_one cc)
answer_bits at (num n len) bits lost next e =
    let w : n % 2 ^ 64 ≡ bits = (parts (n % 2 ^ 64) (n / 2 ^ 64) (at + len) bits lost next e).0 in omega arith

bits_by : (t : Bool) (at : ℕ) (l : List ℕ) (bits lost next : ℕ) → pick t (Ok None) (vlq_from at (digits_from 13 l)) ≡ Ok (Some (bits, lost, next)) → bits < 2 ^ 64
bits_by true at l bits lost next e = absurd (zero_one cc)
bits_by false at l bits lost next e = answer_bits at (digits_from 13 l) bits lost next e

pub value_bits : (at : ℕ) (l : List ℕ) (bits lost next : ℕ) → vlq_of at l ≡ Ok (Some (bits, lost, next)) → bits < 2 ^ 64
unfolding vlq_of
value_bits at [] bits lost next e = absurd (zero_one cc)
value_bits at (b ∷ bs) bits lost next e = bits_by (is_delim b) at (b ∷ bs) bits lost next e

-- ---- so many digits make no larger number: each digit list that reads as n has at least as many as n needs
abbrev Under : ℕ → ℕ → Type 0
Under n len = n < 2 ^ (5 * len)

pushed_under : (d : ℕ) (t : Digits) (n len : ℕ) → ((n' len' : ℕ) → t ≡ num n' len' → Under n' len') → push d t ≡ num n len → Under n len
pushed_under d (cut j) n len ih e = absurd (zero_one cc)
pushed_under d (long j) n len ih e = absurd (zero_one cc)
pushed_under d (num n' len') n len ih e =
    let q : len' + 1 ≡ len = cc in
    let m : d % 32 + 32 * n' ≡ n = cc in
    let p : n' < 2 ^ (5 * len') = ih n' len' refl in
    rw (← q, place_next len') (omega arith)

picked_under : (t₁ t₂ t₃ : Bool) (d : ℕ) (t : Digits) (n len : ℕ) → ltb d 32 ≡ t₃ → ((n' len' : ℕ) → t ≡ num n' len' → Under n' len')
    → pick t₁ (cut 0) (pick t₂ (long 0) (pick t₃ (num d 1) (push d t))) ≡ num n len → Under n len
picked_under true t₂ t₃ d t n len b ih e = absurd (zero_one cc)
picked_under false true t₃ d t n len b ih e = absurd (zero_one cc)
picked_under false false true d t n len b ih e =
    let q : ◌≡◌ {A = ℕ} 1 len = cc in
    let m : d ≡ n = cc in
    rw (← q, ← m) (ltb-true d 32 b)
picked_under false false false d t n len b ih e = pushed_under d t n len ih e

pub tail_under : (l : List ℕ) (left n len : ℕ) → digits_from left l ≡ num n len → n < 2 ^ (5 * len)
unfolding digits_from
tail_under [] left n len e = absurd (zero_one cc)
tail_under (b ∷ bs) left n len e =
    picked_under (is_delim b) (eqb left 0) (ltb (digit_of b) 32) (digit_of b) (digits_from (left - 1) bs) n len refl
    (λ n' len'. tail_under bs (left - 1) n' len')
    e

-- a number of at most four digits is below 2^20
under_by : (at : ℕ) (l : List ℕ) (t : Digits) (bits count : ℕ) → digits_from 13 l ≡ t → vlq_from at t ≡ Ok (Some (bits, 0, at + count)) → count ≤ 4 → bits < 2 ^ 20
under_by at l (cut k) bits count q e h = absurd (zero_one cc)
under_by at l (long k) bits count q e h = absurd (zero_one cc)
under_by at l (num n len) bits count q e h =
    let q' = parts (n % 2 ^ 64) (n / 2 ^ 64) (at + len) bits 0 (at + count) e in
    let w : n % 2 ^ 64 ≡ bits = q'.0 in
    let m : at + len ≡ at + count = q'.2 in
    let u : n < 2 ^ (5 * len) = tail_under l 13 n len q in
    let p : 2 ^ (5 * len) ≤ 2 ^ 20 = pow_mono {i = 5 * len} {j = 20} (omega arith) in
    omega arith

few_by : (t : Bool) (at : ℕ) (l : List ℕ) (bits count : ℕ) → pick t (Ok None) (vlq_from at (digits_from 13 l)) ≡ Ok (Some (bits, 0, at + count)) → count ≤ 4 → bits < 2 ^ 20
few_by true at l bits count e h = absurd (zero_one cc)
few_by false at l bits count e h = under_by at l (digits_from 13 l) bits count refl e h

pub few_under : (at : ℕ) (l : List ℕ) (bits count : ℕ) → vlq_of at l ≡ Ok (Some (bits, 0, at + count)) → count ≤ 4 → bits < 2 ^ 20
unfolding vlq_of
few_under at [] bits count e h = absurd (zero_one cc)
few_under at (b ∷ bs) bits count e h = few_by (is_delim b) at (b ∷ bs) bits count e h
