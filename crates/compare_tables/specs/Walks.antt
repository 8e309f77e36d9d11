-- Helpers: what inner contracts and proofs need; no contract of an entry and no theorem reaches this file.
-- Two tables that can be walked side by side, and what the walk that counts answers. Assumes nothing.
use Rattle.std.specs.Prelude.{◌≡◌, true, false, List, ℕ, ◌+◌, ◌≤◌, length}
use Rattle.token.specs.Table.{places, bad_table}
use Rattle.order.specs.Order.{sorted}
use Rattle.changes.specs.Changes.{changes}

pub record Walks (left right : List ℕ) : Type 0 where
  pub left_table : bad_table (length left) ≡ false
  pub right_table : bad_table (length right) ≡ false
  pub left_sorted : sorted left ≡ true
  pub right_sorted : sorted right ≡ true

-- so many differences, and no more than tokens of both
pub record Counts (left right : List ℕ) (r : ℕ) : Type 0 where
  pub is : r ≡ length (changes left right)
  pub most : r ≤ places (length left) + places (length right)
