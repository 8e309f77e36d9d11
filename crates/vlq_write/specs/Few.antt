-- Helpers: what inner contracts and proofs need; no contract of an entry and no theorem reaches this file.
-- What is said where two, three or four digits are written. Assumes nothing.
use Rattle.std.specs.Prelude.{◌≡◌, ℕ, ◌+◌, ◌%◌, ◌^◌, ◌<◌, ◌≤◌, nat_lt}
use Rattle.list.specs.Pick.{pick}
use Rattle.digits.specs.Digits.{char_of}

-- n has two, three or four digits
pub record Few (n : ℕ) : Type 0 where
  pub least : 32 ≤ n
  pub most : n < 2 ^ 20

-- what is added to the lowest digit of n: 32 where others follow it
pub record GoesOn (n r : ℕ) : Type 0 where
  pub is : r ≡ pick (nat_lt n 32) 0 32
  pub most : r ≤ 32

-- the character of the lowest digit of n
unfoldable pub low_char : ℕ → ℕ
low_char n = char_of (n % 32 + pick (nat_lt n 32) 0 32)
