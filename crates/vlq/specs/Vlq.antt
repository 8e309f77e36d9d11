-- docs/RULES.md, Values, and ECMA-426: the number that the digits of one value make. The limit of thirteen digits is the crate's.
-- Assumes nothing.
use Rattle.std.specs.Prelude.{List, [], ◌∷◌, ℕ, ◌+◌, ◌-◌, ◌*◌, ◌/◌, ◌%◌, ◌^◌, ltb, eqb, drop, Option, Some, None, Result, Ok, Err}
use Rattle.list.specs.Pick.{pick}
use Rattle.digits.specs.Digits.{digit_of, is_delim}
use Rattle.vlq.specs.declared.Broken.{Broken}

-- the digits of one value: cut short or too long after so many, or the number that they make and how many they are
pub data Digits : Type 0 where
  cut : ℕ → Digits
  long : ℕ → Digits
  num : ℕ → ℕ → Digits

-- a digit that another follows: its low five bits, and 32 times what follows
abbrev pub push : ℕ → Digits → Digits
push d (cut k) = cut (k + 1)
push d (long k) = long (k + 1)
push d (num n len) = num (d % 32 + 32 * n) (len + 1)

-- where a digit is due and `left` more may be read: a delimiter or the end is tested first
unfoldable pub digits_from : ℕ → List ℕ → Digits
digits_from left [] = cut 0
digits_from left (b ∷ bs) =
    pick (is_delim b) (cut 0)
    (pick (eqb left 0) (long 0)
    (pick (ltb (digit_of b) 32) (num (digit_of b) 1)
    (push (digit_of b) (digits_from (left - 1) bs))))

-- what stands at a place: nothing more of the segment; or a number, as its low 64 bits, what stands above them, and the place after it; or
-- where it broke
abbrev pub Vlq : Type 0
Vlq = Result (Option (ℕ × ℕ × ℕ)) Broken

-- the number's low 64 bits, what stands above them, and the place after; or where it broke
abbrev pub vlq_from : ℕ → Digits → Vlq
vlq_from at (cut k) = Err (Broken.Leftover (at + k))
vlq_from at (long k) = Err (Broken.Overflow (at + k))
vlq_from at (num n len) = Ok (Some (n % 2 ^ 64, n / 2 ^ 64, at + len))

-- what stands at the place `at`, where the bytes begin
unfoldable pub vlq_of : ℕ → List ℕ → Vlq
vlq_of at [] = Ok None
vlq_of at (b ∷ bs) = pick (is_delim b) (Ok None) (vlq_from at (digits_from 13 (b ∷ bs)))

abbrev pub vlq_at : List ℕ → ℕ → Vlq
vlq_at s at = vlq_of at (drop at s)
