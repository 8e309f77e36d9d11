-- docs/RULES.md, Values: the sixty-four characters in order, the two delimiters, and what each other byte reads as.
-- Assumes nothing.
use Rattle.std.specs.Prelude.{Bool, true, false, ℕ, ◌+◌, ◌-◌, leb, ltb, eqb}
use Rattle.list.specs.Pick.{pick}

abbrev pub within : ℕ → ℕ → ℕ → Bool
within lo hi b = pick (leb lo b) (leb b hi) false

-- `A` to `Z`, `a` to `z`, `0` to `9`, `+` and `/` stand for 0 to 63; each other byte reads as 63
unfoldable pub digit_of : ℕ → ℕ
digit_of b =
    pick (within 65 90 b) (b - 65)
    (pick (within 97 122 b) (b - 97 + 26)
    (pick (within 48 57 b) (b - 48 + 52)
    (pick (eqb b 43) 62 63)))

-- `,` and `;`
unfoldable pub is_delim : ℕ → Bool
is_delim b = pick (eqb b 44) true (eqb b 59)

-- one number for both: a digit, or 64 for a delimiter
unfoldable pub class_of : ℕ → ℕ
class_of b = pick (is_delim b) 64 (digit_of b)

-- the character of a digit
unfoldable pub char_of : ℕ → ℕ
char_of d =
    pick (ltb d 26) (d + 65)
    (pick (ltb d 52) (d - 26 + 97)
    (pick (ltb d 62) (d - 52 + 48)
    (pick (eqb d 62) 43 47)))
