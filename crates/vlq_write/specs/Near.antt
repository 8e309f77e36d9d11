-- Helpers: what inner contracts and proofs need; no contract of an entry and no theorem reaches this file.
-- The steps of one digit, and the constant table of their characters; that it follows the rules is proved. Assumes nothing.
use Rattle.std.specs.Prelude.{◌≡◌, ℕ, ◌+◌, ◌<◌, ◌≤◌, List, [], ◌∷◌}
use Rattle.vlq_write.specs.Write.{vlq_value}

-- the characters of the steps from -15 to 15
unfoldable pub near_writing : List ℕ
near_writing =
    102 ∷ 100 ∷ 98 ∷ 90 ∷ 88 ∷ 86 ∷ 84 ∷ 82 ∷ 80 ∷ 78 ∷ 76 ∷ 74 ∷ 72 ∷ 70 ∷ 68 ∷
    65 ∷ 67 ∷ 69 ∷ 71 ∷ 73 ∷ 75 ∷ 77 ∷ 79 ∷ 81 ∷ 83 ∷ 85 ∷ 87 ∷ 89 ∷ 97 ∷ 99 ∷ 101 ∷ []

-- r is 15 more than the step from b to a where it lies below 31; else the step takes more than one digit
pub record Off (a b r : ℕ) : Type 0 where
  pub near : r < 31 → r + b ≡ a + 15
  pub far : 31 ≤ r → 32 ≤ vlq_value a b
