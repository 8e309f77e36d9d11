-- The digits of a number, digit by digit, and how many they are. Assumes nothing.
use Rattle.std.proofs.Common.{◌≡◌, ℕ, zero, suc, ◌+◌, ◌*◌, ◌/◌, ◌%◌, ◌^◌, ◌<◌, ◌≤◌, Bool, true, false, ltb, [], ◌∷◌, length, refl, ap, ◌∙◌, subst, arith, shr_lt, ltb-false, ltb-true, le-ltb, lt-ltb}
use Rattle.list.specs.Pick.{pick}
use Rattle.digits.specs.Digits.{char_of}
use Rattle.vlq_write.specs.Write.{digits_of, write_of, vlq_value}
use Rattle.vlq_write.proofs.Values.{value_small, value_none}

pub digits_last : (f n : ℕ) → n < 32 → digits_of f n ≡ char_of n ∷ []
unfolding digits_of
digits_last zero n h = refl
digits_last (suc f) n h = rw (lt-ltb n 32 h)

pub digits_more : (f n : ℕ) → 32 ≤ n → digits_of (suc f) n ≡ char_of (n % 32 + 32) ∷ digits_of f (n / 32)
unfolding digits_of
digits_more f n h = rw (le-ltb n 32 h)

some_by : (t : Bool) (f n : ℕ) → 0 < length (pick t (char_of n ∷ []) (char_of (n % 32 + 32) ∷ digits_of f (n / 32)))
some_by true f n = omega arith
some_by false f n = omega arith

pub digits_some : (f n : ℕ) → 0 < length (digits_of f n)
unfolding digits_of
digits_some zero n = omega arith
digits_some (suc f) n = some_by (ltb n 32) f n

pub smaller : (n l : ℕ) → n < 2 ^ (5 * suc l) → n / 32 < 2 ^ (5 * l)
smaller n l h = shr_lt (5 * l) 5 (subst (λ (e : ℕ). n < 2 ^ e) (omega arith) h)

pub some_left : (n l : ℕ) → 32 ≤ n → n < 2 ^ (5 * suc l) → 0 < l
some_left n zero h p = absurd (omega arith)
some_left n (suc l) h p = omega arith

-- ---- at most `left` digits for a number below 2^(5 left)
few_by : (t : Bool) (f left n : ℕ) → ltb n 32 ≡ t → 0 < left → n < 2 ^ (5 * left)
    → ((l m : ℕ) → 0 < l → m < 2 ^ (5 * l) → length (digits_of f m) ≤ l) → length (digits_of (suc f) n) ≤ left
few_by true f left n e z h ih = rw (digits_last (suc f) n (ltb-true n 32 e)) z
few_by false f zero n e z h ih = absurd (omega arith)
few_by false f (suc l) n e z h ih =
    let p = ltb-false n 32 e in
    rw (digits_more f n p) (omega (arith, ih l (n / 32) (some_left n l p h) (smaller n l h)))

pub few : (f left n : ℕ) → 0 < left → n < 2 ^ (5 * left) → length (digits_of f n) ≤ left
unfolding digits_of
few zero left n z h = z
few (suc f) left n z h = few_by (ltb n 32) f left n refl z h (λ l m. few f l m)

-- one to seven digits hold every number below 2^35, so every step between two 32-bit numbers
pub at_least_one : (n : ℕ) → 0 < length (write_of n)
at_least_one n = digits_some n n

pub at_most_seven : (n : ℕ) → n < 2 ^ 35 → length (write_of n) ≤ 7
at_most_seven n h = few n 7 n (omega arith) h

pub step_most : (a b : ℕ) → a < 2 ^ 32 → b < 2 ^ 32 → length (write_of (vlq_value a b)) ≤ 7
step_most a b h l = at_most_seven (vlq_value a b) (omega (arith, value_small a b h l))

-- ---- how many, by the number: one digit more for each five bits more
pub size_one : (f n : ℕ) → n < 32 → length (digits_of f n) ≡ 1
size_one f n h = ap length (digits_last f n h)

pub size_more : (f n : ℕ) → 32 ≤ n → length (digits_of (suc f) n) ≡ length (digits_of f (n / 32)) + 1
size_more f n h = ap length (digits_more f n h) ∙ omega arith

-- a step of nothing takes one digit
pub step_none : (a : ℕ) → length (write_of (vlq_value a a)) ≡ 1
step_none a = rw (value_none a) (size_one 0 0 (omega arith))

-- 0 is `A`
pub writes_zero : write_of 0 ≡ 65 ∷ []
unfolding digits_of char_of
writes_zero = refl
