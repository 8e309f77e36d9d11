-- Helpers: what inner contracts and proofs need; no contract of an entry and no theorem reaches this file.
-- What the way for numbers of few digits owes the reader: where it gives a number, that stands there; and what it makes of four bytes at
-- once. Assumes nothing.
use Rattle.std.specs.Prelude.{List, ◌≡◌, ℕ, ◌+◌, ◌-◌, ◌*◌, ◌/◌, ◌%◌, ◌<◌, ◌≤◌, ltb, length, get_or, Some, Ok}
use Rattle.std.specs.Int.Bits.{bit_and, bit_or, bit_xor}
use Rattle.std.specs.Int.Count.{count_trailing_zeros}
use Rattle.list.specs.Pick.{pick}
use Rattle.digits.specs.Digits.{within}
use Rattle.digits.specs.Tables.{word}
use Rattle.vlq.specs.Vlq.{vlq_at}
use Rattle.vlq.specs.declared.Few.{Few}

-- a number of four digits at the most stands at a place
pub record FewAt (s : List ℕ) (at : ℕ) (f : Few) : Type 0 where
  pub short : f.count ≤ 4
  pub reads : vlq_at s at ≡ Ok (Some (f.bits, 0, at + f.count))

-- the same of a number that is the four bytes at that place
abbrev pub FewIn : ℕ → Few → Type 0
FewIn w f =
    (s : List ℕ) (at : ℕ) → at + 4 ≤ length s → ((i : ℕ) → get_or s i 0 < 256)
    → w ≡ word (get_or s at 0) (get_or s (at + 1) 0) (get_or s (at + 2) 0) (get_or s (at + 3) 0) → FewAt s at f

-- each of the four bytes is below 128
abbrev pub Plain : ℕ → Type 0
Plain w = bit_and w 2155905152 ≡ 0

-- the four bytes of w, each put through f
abbrev pub each : (ℕ → ℕ) → ℕ → ℕ
each f w = word (f (w % 256)) (f (w / 256 % 256)) (f (w / 65536 % 256)) (f (w / 16777216))

-- 128 where b is 64 to 102, else 0
unfoldable pub end_of : ℕ → ℕ
end_of b = pick (within 64 102 b) 128 0

-- 1 where b is 64 or more, else 0
unfoldable pub high_of : ℕ → ℕ
high_of b = pick (ltb b 64) 0 1

-- 1 where b is below 48, else 0
unfoldable pub low_of : ℕ → ℕ
low_of b = pick (ltb b 48) 1 0

-- 0 where b is one of the 64 characters
unfoldable pub bad_of : ℕ → ℕ
bad_of b = bit_or (bit_and (bit_and (b + 31) 31 + 103 - high_of b) 128) (bit_and (bit_xor b 43) (low_of b * 251))

-- the low five bits of the digit, where b is one of them
unfoldable pub five_of : ℕ → ℕ
five_of b = bit_and (b + low_of b * 15 + 10 - bit_and b (low_of b * 4) / 4 * 3 - bit_and b 32 / 32 * 6 - high_of b * 11) 31

-- five bits of each byte, as one number
abbrev pub bits_of : ℕ → ℕ
bits_of x = x % 256 + x / 256 % 256 * 32 + x / 65536 % 256 * 1024 + x / 16777216 * 32768

-- how many bytes of f there are up to the first in which a bit is set
unfoldable pub count_of : ℕ → ℕ
count_of f = count_trailing_zeros 32 f / 8 + 1
