-- Helpers: what inner contracts and proofs need; no contract of an entry and no theorem reaches this file.
-- A part of a table. Assumes nothing.
use Rattle.std.specs.Prelude.{◌≡◌, false, List, ℕ, ◌≤◌, length}
use Rattle.token.specs.Table.{places, bad_table}

-- the tokens from `from` up to `to` of a table that is one
pub record Between (table : List ℕ) (from to : ℕ) : Type 0 where
  pub good : bad_table (length table) ≡ false
  pub rises : from ≤ to
  pub within : to ≤ places (length table)
