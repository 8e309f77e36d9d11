-- Helpers: what inner contracts and proofs need; no contract of an entry and no theorem reaches this file.
-- A position as one number, and tables by these numbers. Assumes nothing.
use Rattle.std.specs.Prelude.{◌≡◌, Bool, true, false, List, ℕ, ◌+◌, ◌-◌, ◌*◌, ◌≤◌, ◌<◌, length, Option, Some, None}
use Rattle.token.specs.Table.{places, token_at}

-- a position as one number, in the order of line, then column
abbrev pub key_of : ℕ → ℕ → ℕ
key_of line col = line * 4294967296 + col

-- where the i-th token stands
abbrev pub key_at : List ℕ → ℕ → ℕ
key_at table i = key_of (token_at table i).dst_line (token_at table i).dst_col

-- from the token at `from` up to the one at `to`, none falls
abbrev pub Rise : List ℕ → ℕ → ℕ → Type 0
Rise table from to = (j : ℕ) → from ≤ j → j < to → key_at table j ≤ key_at table (j + 1)

-- no token of the table stands before an earlier one
abbrev pub Rising : List ℕ → Type 0
Rising table = (i j : ℕ) → i ≤ j → j < places (length table) → key_at table i ≤ key_at table j

-- yes where it holds, no where it does not
pub record Settles (P : Type 0) (r : Bool) : Type 0 where
  pub yes : r ≡ true → P
  pub no : r ≡ false → P → ⊥

-- of the tokens behind `from` and up to `to`, the r-th is the first that falls
pub record FirstBehind (table : List ℕ) (from to r : ℕ) : Type 0 where
  pub behind : from < r
  pub ends : r ≤ to
  pub rise : Rise table from (r - 1)
  pub falls : key_at table r < key_at table (r - 1)

abbrev pub FallsBehind : List ℕ → ℕ → ℕ → Option ℕ → Type 0
FallsBehind table from to None = Rise table from to
FallsBehind table from to (Some r) = FirstBehind table from to r
