-- Helpers: what inner contracts and proofs need; no contract of an entry and no theorem reaches this file.
-- The tokens that each position may lead to. Assumes nothing.
use Rattle.std.specs.Prelude.{List, ℕ, length}
use Rattle.order.specs.Keys.{key_of}
use Rattle.lookup_many.specs.Many.{pairs, line_of, col_of}
use Rattle.lookup_many.specs.Places.{Filled}
use Rattle.halving.specs.Within.{Within}

-- the k-th position leads to one of `size` tokens from the one at `base` on
abbrev pub Leads : List ℕ → List ℕ → ℕ → ℕ → ℕ → Type 0
Leads table positions size k base = Within table (key_of (line_of positions k) (col_of positions k)) base size

-- each position does, from its place's number on
abbrev pub Each : List ℕ → List ℕ → ℕ → List ℕ → List ℕ → Type 0
Each table positions size before found = Filled (Leads table positions size) (pairs (length positions)) before found
