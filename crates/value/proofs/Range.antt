-- A value lies from -2^62 to 2^62, in each mode. Assumes nothing.
use mathlib.Core.Path.{◌≡◌, refl}
use mathlib.Core.Bool.{Bool, true, false}
use Prim.Native.Nat.{ℕ, zero, suc, ◌+◌, ◌*◌, ◌^◌, ◌<◌, ◌≤◌}
use native.Mathlib.Omega.{arith}
use lib.IntN.{ℤ, pos, negsuc, neg_ℤ, nat_abs}
use lib.Signed.{mag}
use lib.Dec.{ltb}
use borrow.Author.Tests.{ltb-true, ltb-false}
use mir.Syntax.{w64}
use mir.Val.{SFits}
use Rattle.list.specs.Pick.{pick}
use Rattle.value.specs.declared.Mode.{Mode}
use Rattle.value.specs.declared.Mode.TheVariants.{Lenient, Checked}
use Rattle.value.specs.Value.{as_signed, half, odd, sign_of, value_of, number_of}
use Rattle.value.proofs.Signed.{half_small}
use Rattle.value.proofs.Standard.{signed_range}

by_sign : (t : Bool) (y : ℤ) → mag y < 2 ^ 62 → nat_abs (pick t (neg_ℤ y) y) ≤ 2 ^ 62
by_sign true (pos zero) h = omega arith
by_sign true (pos (suc n)) h = omega arith
by_sign true (negsuc n) h = omega arith
by_sign false (pos n) h = omega arith
by_sign false (negsuc n) h = omega arith

pub sign_range : (z : ℤ) → SFits w64 z → nat_abs (sign_of z) ≤ 2 ^ 62
sign_range z f = by_sign (odd z) (half z) (half_small z f)

signed_fits : (t : Bool) (n : ℕ) → ltb n (2 ^ 63) ≡ t → n < 2 ^ 64 → SFits w64 (as_signed n)
signed_fits true n e h = rw e (record { sfits = ltb-true n 9223372036854775808 e })
signed_fits false n e h = rw e (record { sfits = omega (arith, ltb-false n 9223372036854775808 e) })

pub value_range : (mode : Mode) (bits lost : ℕ) → bits < 2 ^ 64 → nat_abs (number_of (value_of mode bits lost)) ≤ 2 ^ 62
unfolding value_of
value_range Lenient bits lost h = sign_range (as_signed bits) (signed_fits (ltb bits (2 ^ 63)) bits refl h)
value_range Checked bits lost h = omega (arith, signed_range (bits + 2 ^ 64 * lost))

-- a value fits 64 bits
pub small_fits : (v : ℤ) → nat_abs v ≤ 2 ^ 62 → SFits w64 v
small_fits (pos n) h = record { sfits = omega arith }
small_fits (negsuc n) h = record { sfits = omega arith }
