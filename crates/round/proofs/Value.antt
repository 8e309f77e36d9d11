-- A value that is written reads back, whatever stands after it, and is the step between the two numbers. Assumes nothing.
use Rattle.std.specs.Prelude.{Some, Ok, Option, None}
use mathlib.Core.Path.{◌≡◌, refl, ◌∙◌, ap}
use mathlib.Core.Bool.{Bool, true, false}
use mathlib.Core.List.{List, ◌∷◌, ◌++◌}
use Prim.Native.Nat.{ℕ, suc, ◌+◌, ◌-◌, ◌*◌, ◌/◌, ◌%◌, ◌^◌, ◌<◌, ◌≤◌}
use native.Mathlib.Nat.{mod-eq_of_lt, div-eq_of_lt}
use native.Mathlib.Omega.{arith}
use lib.IntN.{ℤ, pos, neg_ℤ, ◌+ℤ◌}
use lib.Dec.{leb, ltb}
use lib.ListN.{length}
use borrow.Author.Tests.{le-ltb, eq-eqb, ne_eqb, ltb-true, ltb-false, leb-true, leb-false, not-true, not-false}
use Rattle.digits.specs.Digits.{is_delim}
use Rattle.value.specs.Standard.{too_wide, signed}
use Rattle.value.specs.Value.{sign_of, value_of, number_of}
use Rattle.value.specs.declared.Mode.{Mode}
use Rattle.value.specs.declared.Mode.TheVariants.{Lenient, Checked}
use Rattle.value.proofs.Signed.{as_signed_low}
use Rattle.value.proofs.Standard.{wide, value_plain}
use Rattle.vlq.specs.Vlq.{vlq_of}
use Rattle.vlq_write.specs.Write.{vlq_value, write_of}
use Rattle.vlq_write.proofs.Back.{starts, stands}
use Rattle.vlq_write.proofs.Values as Written
use Rattle.checked_premises.specs.Checked.{takes}

-- the bytes begin, with a byte that is no delimiter
pub record Head (l : List ℕ) : Type 0 where
  pub b : ℕ
  pub bs : List ℕ
  pub is : l ≡ b ∷ bs
  pub delim : is_delim b ≡ false

pub head : (n : ℕ) → Head (write_of n)
head n = let s = starts n in record { b = s.byte; bs = s.others; is = s.is; delim = s.delim }

pub head_append : (l r : List ℕ) → Head l → Head (l ++ r)
head_append l r h = record { b = h.b; bs = h.bs ++ r; is = ap (λ (x : List ℕ). x ++ r) h.is; delim = h.delim }

-- thirteen digits hold it, and it has no lost bit
pub value_back : (at n : ℕ) (post : List ℕ) → n < 2 ^ 33 → vlq_of at (write_of n ++ post) ≡ Ok (Some (n, 0, at + length (write_of n)))
value_back at n post h =
    let m : n % 2 ^ 64 ≡ n = mod-eq_of_lt (omega arith) in
    let d : n / 2 ^ 64 ≡ 0 = div-eq_of_lt (omega arith) in
    stands at n post (omega arith) ∙ rw (m, d)

-- ---- the step from b to a
-- down by k, which is not 0
down : (a k : ℕ) → pos (a + suc k) +ℤ neg_ℤ (pos (suc k)) ≡ pos a
down a k =
    let q : a + suc k - suc k ≡ a = omega arith in
    rw (le-ltb (a + suc k) (suc k) (omega arith), q)

back_down : (a b k : ℕ) → b ≡ a + suc k → pos b +ℤ sign_of (pos ((b - a) * 2 + 1)) ≡ pos a
back_down a b k e =
    let s : b - a ≡ suc k = omega arith in
    let h : (suc k * 2 + 1) / 2 ≡ suc k = omega arith in
    rw (s, eq-eqb ((suc k * 2 + 1) % 2) 1 (omega arith), h, e) (down a k)

back_up : (a b : ℕ) → b ≤ a → pos b +ℤ sign_of (pos ((a - b) * 2)) ≡ pos a
back_up a b h =
    let q : (a - b) * 2 / 2 ≡ a - b = omega arith in
    let s : b + (a - b) ≡ a = omega arith in
    rw (ne_eqb ((a - b) * 2 % 2) 1 (λ z. omega arith), q, s)

step_by : (t : Bool) (a b : ℕ) → ltb a b ≡ t → pos b +ℤ sign_of (pos (vlq_value a b)) ≡ pos a
unfolding vlq_value
step_by true a b e =
    let h = ltb-true a b e in
    rw e (back_down a b (b - a - 1) (omega arith))
step_by false a b e = rw e (back_up a b (ltb-false a b e))

-- no step is written as minus zero
never_one : (t : Bool) (a b : ℕ) → ltb a b ≡ t → vlq_value a b ≡ 1 → ⊥
unfolding vlq_value
never_one true a b e h = omega (arith, rw e at h, ltb-true a b e)
never_one false a b e h = omega (arith, rw e at h)

-- a value that the mode takes
taken : (mode : Mode) (n : ℕ) → takes mode n ≡ true → n < 2 ^ 33 → (n ≡ 1 → ⊥) → value_of mode n 0 ≡ Some (sign_of (pos n))
unfolding takes too_wide value_of
taken Lenient n k h m = ap (λ (z : ℤ). Some (sign_of z)) (as_signed_low n (omega arith))
taken Checked n k h m = value_plain Checked n (omega (arith, leb-false 2147483648 (n / 2) (not-true (leb 2147483648 (n / 2)) k))) m

-- one that checked mode does not take
pub off : (n : ℕ) → takes Checked n ≡ false → value_of Checked n 0 ≡ None
unfolding takes too_wide value_of
off n k =
    let h = leb-true 2147483648 (n / 2) (not-false (leb 2147483648 (n / 2)) k) in
    let z : n + 2 ^ 64 * 0 ≡ n = omega arith in ap signed z ∙ wide n (omega (arith, h))

module _ (mode : Mode) (a b : ℕ) (ha : a < 2 ^ 32) (hb : b < 2 ^ 32) (k : takes mode (vlq_value a b) ≡ true) where
  pub value_is : value_of mode (vlq_value a b) 0 ≡ Some (sign_of (pos (vlq_value a b)))
  value_is = taken mode (vlq_value a b) k (Written.value_small a b ha hb) (never_one (ltb a b) a b refl)

  pub step_back : pos b +ℤ number_of (value_of mode (vlq_value a b) 0) ≡ pos a
  step_back = ap (λ (x : Option ℤ). pos b +ℤ number_of x) value_is ∙ step_by (ltb a b) a b refl
