-- What the sign needs of 64-bit signed numbers: their half, its negation, their lowest bit, and their bits.
-- Assumes nothing.
use mathlib.Core.Path.{◌≡◌, refl, sym, ◌∙◌, ap}
use mathlib.Core.Bool.{true, false}
use Prim.Native.Nat.{ℕ, zero, suc, ◌-◌, ◌%◌, ◌^◌, ◌<◌, ◌≤◌}
use native.Mathlib.Omega.{arith}
use lib.IntN.{ℤ, pos, negsuc, neg_ℤ, ◌+ℤ◌, ◌-ℤ◌, +ℤ_idl}
use lib.Signed.{mag, shr_z}
use lib.Bits.{bit_and, and_mask}
use borrow.Author.Tests.{eq-eqb, ne_eqb, lt-ltb, le-ltb}
use mir.Syntax.{w64}
use mir.Val.{SFits, of_z, to_z}
use mir.Facts.{to_z_pos}
use mir.ValLaws.{to_z-of_z}
use Rattle.value.specs.Value.{as_signed, half, odd}

pub half_small : (z : ℤ) → SFits w64 z → mag (half z) < 2 ^ 62
half_small (pos n) h = omega (arith, h.sfits)
half_small (negsuc n) h = omega (arith, h.sfits)

pub half_shr : (z : ℤ) → shr_z z (2 ^ 1) ≡ half z
half_shr (pos n) = refl
half_shr (negsuc n) = refl

pub small_fits : (z : ℤ) → mag z < 2 ^ 62 → SFits w64 z
small_fits z h = record { sfits = omega arith }

pub neg_fits : (z : ℤ) → mag z < 2 ^ 62 → SFits w64 (neg_ℤ z)
neg_fits (pos zero) h = record { sfits = omega arith }
neg_fits (pos (suc n)) h = record { sfits = omega arith }
neg_fits (negsuc n) h = record { sfits = omega arith }

pub odd_yes : (z : ℤ) → SFits w64 z → bit_and (of_z w64 z) 1 ≡ 1 → odd z ≡ true
odd_yes (pos n) f h = eq-eqb (n % 2) 1 (sym (and_mask n 1) ∙ h)
odd_yes (negsuc n) f h = eq-eqb (n % 2) 0 (omega (arith, sym (and_mask (2 ^ 64 - suc n) 1) ∙ h, f.sfits))

pub odd_no : (z : ℤ) → SFits w64 z → (bit_and (of_z w64 z) 1 ≡ 1 → ⊥) → odd z ≡ false
odd_no (pos n) f h = ne_eqb (n % 2) 1 (λ e. h (and_mask n 1 ∙ e))
odd_no (negsuc n) f h = ne_eqb (n % 2) 0 (λ e. h (and_mask (2 ^ 64 - suc n) 1 ∙ omega (arith, f.sfits)))

-- the code's half: the machine reads a signed local back from its bits
pub halved : (z : ℤ) → SFits w64 z → to_z w64 (of_z w64 (shr_z (to_z w64 (of_z w64 z)) 2)) ≡ half z
halved z f = rw (to_z-of_z w64 z f, half_shr z) (to_z-of_z w64 (half z) (small_fits (half z) (half_small z f)))

pub negated : (z : ℤ) → mag z < 2 ^ 62 → to_z w64 (of_z w64 (pos 0 -ℤ z)) ≡ neg_ℤ z
negated z h = rw (+ℤ_idl (neg_ℤ z)) (to_z-of_z w64 (neg_ℤ z) (neg_fits z h))

pub below_zero_fits : (z : ℤ) → mag z < 2 ^ 62 → SFits w64 (pos 0 -ℤ z)
below_zero_fits z h = rw (+ℤ_idl (neg_ℤ z)) (neg_fits z h)

-- ---- the bits of a number, as a signed one

-- a number from 2^63 to 2^64, less 2^64
pub wrapped : (n : ℕ) → 2 ^ 63 ≤ n → n < 2 ^ 64 → to_z w64 (n - 2 ^ 63) +ℤ negsuc 9223372036854775807 ≡ negsuc (2 ^ 64 - suc n)
wrapped n h l =
    rw (to_z_pos w64 {n = n - 2 ^ 63} (omega arith), lt-ltb (n - 2 ^ 63) 9223372036854775808 (omega arith))
    (ap negsuc (omega arith))

pub as_signed_low : (n : ℕ) → n < 2 ^ 63 → as_signed n ≡ pos n
as_signed_low n h = rw (lt-ltb n 9223372036854775808 h)

pub as_signed_high : (n : ℕ) → 2 ^ 63 ≤ n → as_signed n ≡ negsuc (2 ^ 64 - suc n)
as_signed_high n h = rw (le-ltb n 9223372036854775808 h)
