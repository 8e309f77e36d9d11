-- Helpers: what inner contracts and proofs need; no contract of an entry and no theorem reaches this file.
-- Looking up one position after another. Assumes nothing.
use Rattle.std.specs.Prelude.{◌≡◌, ℕ, ◌<◌, Option, is_some, IfSome, List, length}
use Rattle.token.specs.Table.{places}
use Rattle.order.specs.Keys.{Rising}
use Rattle.lookup.specs.Lookup.{lookup_of}
use Rattle.seek.specs.declared.Sought.{Sought}

-- a sorted table, and one of its tokens
pub record Halvable (table : List ℕ) (place : ℕ) : Type 0 where
  pub rising : Rising table
  pub within : place < places (length table)

-- what is found at a position, and that the next may be sought from there: from a place where this one was
pub record Seeks (table : List ℕ) (place : Option ℕ) (line col : ℕ) (r : Sought) : Type 0 where
  pub found : r.at ≡ lookup_of table line col
  pub next : IfSome r.place (Halvable table)
  pub goes_on : is_some r.place ≡ is_some place
