-- ECMA-426: what a run of digits says. Assumes nothing.
use Rattle.std.specs.Prelude.{Bool, ℕ, ◌+◌, ◌-◌, ◌*◌, ◌/◌, ◌%◌, ◌^◌, pos, negsuc, neg_ℤ, eqb, leb, ltb, Option, Some, None, ℤ}
use Rattle.list.specs.Pick.{pick, both}

-- digits that go on (32 to 63), any number of them, then a terminal digit (0 to 31)
pub data Run : Type 0 where
  terminal : ℕ → Run
  goes_on : ℕ → Run → Run

unfoldable pub is_run : Run → Bool
is_run (terminal d) = ltb d 32
is_run (goes_on d r) = both (leb 32 d) (both (ltb d 64) (is_run r))

-- the unsigned value: the first digit is the least significant
unfoldable pub unsigned : Run → ℕ
unsigned (terminal d) = d
unsigned (goes_on d r) = (d - 32) + 32 * unsigned r

-- the sign is minus where the unsigned value is odd; the magnitude is its half, rounded down
abbrev pub minus : ℕ → Bool
minus u = eqb (u % 2) 1

abbrev pub magnitude : ℕ → ℕ
magnitude u = u / 2

-- a magnitude of 2^31 or more is an error
unfoldable pub too_wide : ℕ → Bool
too_wide u = leb (2 ^ 31) (magnitude u)

-- the signed value of an unsigned one, none where it is too wide; a minus on zero is -2^31
unfoldable pub signed : ℕ → Option ℤ
signed u =
    pick (too_wide u) None
    (pick (minus u) (pick (eqb (magnitude u) 0) (Some (negsuc (2 ^ 31 - 1))) (Some (neg_ℤ (pos (magnitude u)))))
    (Some (pos (magnitude u))))
