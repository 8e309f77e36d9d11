-- docs/RULES.md, Values: the sign, and what a value is in each mode. Assumes nothing.
use Rattle.std.specs.Prelude.{Bool, true, false, ℕ, suc, ◌+◌, ◌-◌, ◌*◌, ◌/◌, ◌%◌, ◌^◌, ℤ, pos, negsuc, neg_ℤ, eqb, ltb, Option, Some, None}
use Rattle.list.specs.Pick.{pick}
use Rattle.value.specs.declared.Mode.{Mode}
use Rattle.value.specs.declared.Mode.TheVariants.{Lenient, Checked}
use Rattle.value.specs.Standard.{signed}

-- a number below 2^64, as the signed 64-bit number that has the same bits
abbrev pub as_signed : ℕ → ℤ
as_signed n = pick (ltb n (2 ^ 63)) (pos n) (negsuc (2 ^ 64 - suc n))

-- half of an integer, rounded down
abbrev pub half : ℤ → ℤ
half (pos n) = pos (n / 2)
half (negsuc n) = negsuc (n / 2)

-- the lowest bit is set
abbrev pub odd : ℤ → Bool
odd (pos n) = eqb (n % 2) 1
odd (negsuc n) = eqb (n % 2) 0

-- halve rounding down, then negate if the lowest bit is set
abbrev pub sign_of : ℤ → ℤ
sign_of z = pick (odd z) (neg_ℤ (half z)) (half z)

-- the value of a number whose low 64 bits are bits, and whose bits above them are lost; none where it is too wide. Lenient mode is the crate's, and looks at the low
-- ones alone; checked mode is the standard's, of the whole number.
unfoldable pub value_of : Mode → ℕ → ℕ → Option ℤ
value_of Lenient bits lost = Some (sign_of (as_signed bits))
value_of Checked bits lost = signed (bits + 2 ^ 64 * lost)

-- the number that a value is; 0 where it is none
abbrev pub number_of : Option ℤ → ℤ
number_of (Some z) = z
number_of None = pos 0

abbrev pub is_wide : Option ℤ → Bool
is_wide (Some z) = false
is_wide None = true
