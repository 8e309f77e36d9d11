-- Helpers: what inner contracts and proofs need; no contract of an entry and no theorem reaches this file.
-- The pairs, and a lent list with a place for each. Assumes nothing.
use Rattle.std.specs.Prelude.{◌≡◌, List, ℕ, ◌<◌, length, drop, get_or, eqb, Option, Some, None, Ok}
use Rattle.list.specs.Pick.{pick}
use Rattle.lookup.specs.Lookup.{found_out}
use Rattle.lookup.specs.declared.Position.{Position}
use Rattle.lookup_many.specs.Many.{line_of, col_of}

-- the k-th pair, as it is read
abbrev pub pair_at : List ℕ → ℕ → Position
pair_at positions k = record { line = line_of positions k; col = col_of positions k }

-- what is found as one number, and back
abbrev pub place_of : Option ℕ → ℕ
place_of o = (found_out (Ok o)).number

abbrev pub found_in : ℕ → Option ℕ
found_in n = pick (eqb n 4294967295) None (Some n)

-- of each of the first count places what is said of its number; the places past them are as they were
pub record Filled (P : ℕ → ℕ → Type 0) (count : ℕ) (before found : List ℕ) : Type 0 where
  pub each : (k : ℕ) → k < count → P k (get_or found k 0)
  pub kept : drop count found ≡ drop count before
  pub sized : length found ≡ length before
