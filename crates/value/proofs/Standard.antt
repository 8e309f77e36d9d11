-- The standard's rule on numbers: where it errs, minus zero, and that the modes agree on every other number. Assumes nothing.
use Rattle.std.specs.Prelude.{Some, None}
use mathlib.Core.Path.{◌≡◌, refl, ◌∙◌, ap}
use mathlib.Core.Bool.{Bool, true, false}
use Prim.Native.Nat.{ℕ, zero, suc, ◌/◌, ◌%◌, ◌^◌, ◌<◌, ◌≤◌}
use native.Mathlib.Omega.{arith}
use lib.IntN.{pos, negsuc, neg_ℤ, nat_abs}
use lib.Dec.{eqb, leb}
use borrow.Author.Tests.{le-leb, lt-leb, leb-false, eqb-true, ne_eqb}
use Rattle.list.specs.Pick.{pick}
use Rattle.value.specs.declared.Mode.{Mode}
use Rattle.value.specs.declared.Mode.TheVariants.{Lenient, Checked}
use Rattle.value.specs.Standard.{Run, unsigned, too_wide, signed}
use Rattle.value.specs.Value.{sign_of, value_of, number_of, is_wide}
use Rattle.value.proofs.Signed.{as_signed_low}

pub wide : (u : ℕ) → 2 ^ 32 ≤ u → signed u ≡ None
unfolding signed too_wide
wide u h = rw (le-leb 2147483648 (u / 2) (omega arith))

plain_by : (t : Bool) (u : ℕ) → eqb (u % 2) 1 ≡ t → (u ≡ 1 → ⊥)
    → pick t (pick (eqb (u / 2) 0) (Some (negsuc 2147483647)) (Some (neg_ℤ (pos (u / 2))))) (Some (pos (u / 2))) ≡ Some (pick t (neg_ℤ (pos (u / 2))) (pos (u / 2)))
plain_by false u e n = refl
plain_by true u e n = rw (ne_eqb (u / 2) 0 (λ z. n (omega (arith, eqb-true (u % 2) 1 e, z))))

pub plain : (u : ℕ) → u < 2 ^ 32 → (u ≡ 1 → ⊥) → signed u ≡ Some (sign_of (pos u))
unfolding signed too_wide
plain u h n = rw (lt-leb 2147483648 (u / 2) (omega arith)) (plain_by (eqb (u % 2) 1) u refl n)

pub value_plain : (mode : Mode) (bits : ℕ) → bits < 2 ^ 32 → (bits ≡ 1 → ⊥) → value_of mode bits 0 ≡ Some (sign_of (pos bits))
unfolding value_of
value_plain Lenient bits h n = ap (λ z. Some (sign_of z)) (as_signed_low bits (omega arith))
value_plain Checked bits h n = ap signed (omega arith) ∙ plain bits h n

-- checked mode is the standard's rule, of every run of digits
pub value_standard : (r : Run) → value_of Checked (unsigned r % 2 ^ 64) (unsigned r / 2 ^ 64) ≡ signed (unsigned r)
unfolding value_of
value_standard r = ap signed (omega arith)

-- a value is too wide exactly where the standard errs
wide_by : (w m z : Bool) (n : ℕ) → is_wide (pick w None (pick m (pick z (Some (negsuc 2147483647)) (Some (neg_ℤ (pos n)))) (Some (pos n)))) ≡ w
wide_by true m z n = refl
wide_by false false z n = refl
wide_by false true true n = refl
wide_by false true false n = refl

pub wide_is : (u : ℕ) → is_wide (signed u) ≡ too_wide u
unfolding signed
wide_is u = wide_by (too_wide u) (eqb (u % 2) 1) (eqb (u / 2) 0) (u / 2)

-- ---- how large a value is

neg_size : (n : ℕ) → nat_abs (neg_ℤ (pos n)) ≡ n
neg_size zero = refl
neg_size (suc n) = refl

range_by : (w m z : Bool) (u : ℕ) → leb 2147483648 (u / 2) ≡ w
    → nat_abs (number_of (pick w None (pick m (pick z (Some (negsuc 2147483647)) (Some (neg_ℤ (pos (u / 2))))) (Some (pos (u / 2)))))) ≤ 2147483648
range_by true m z u e = omega arith
range_by false false z u e = omega (arith, leb-false 2147483648 (u / 2) e)
range_by false true true u e = omega arith
range_by false true false u e = rw (neg_size (u / 2)) (omega (arith, leb-false 2147483648 (u / 2) e))

pub signed_range : (u : ℕ) → nat_abs (number_of (signed u)) ≤ 2 ^ 31
unfolding signed too_wide
signed_range u = range_by (leb 2147483648 (u / 2)) (eqb (u % 2) 1) (eqb (u / 2) 0) u refl
