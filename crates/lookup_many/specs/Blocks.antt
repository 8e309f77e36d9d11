-- Helpers: what inner contracts and proofs need; no contract of an entry and no theorem reaches this file.
-- Tokens that are looked at together, and what is found so far. Assumes nothing.
use Rattle.std.specs.Prelude.{◌≡◌, ◌⊎◌, List, ℕ, ◌≤◌, ◌<◌, length}
use Rattle.order.specs.Keys.{key_at}
use Rattle.lookup.specs.Lookup.{best_of}
use Rattle.lookup_many.specs.declared.Block.{Block}
use Rattle.lookup_many.specs.Many.{pairs, line_of, col_of}
use Rattle.lookup_many.specs.Places.{place_of, Filled}

-- of the tokens from `from` up to `to`: none stands before the least; the last stands at the most, and none comes after it
pub record Spans (table : List ℕ) (from to : ℕ) (b : Block) : Type 0 where
  pub begins : from ≤ b.last
  pub ends : b.last < to
  pub at : b.most ≡ key_at table b.last
  pub lowest : (j : ℕ) → from ≤ j → j < to → b.least ≤ key_at table j
  pub highest : (j : ℕ) → from ≤ j → j < to → (key_at table j < b.most) ⊎ ((key_at table j ≡ b.most) × (j ≤ b.last))

-- of each pair, the best token before i
abbrev pub Held : List ℕ → List ℕ → ℕ → List ℕ → List ℕ → Type 0
Held table positions i before found =
    Filled (λ k n. n ≡ place_of (best_of table (line_of positions k) (col_of positions k) i)) (pairs (length positions)) before found
