-- docs/RULES.md, Order: the token at a position of a sorted table is the last one at or before it, if that is on its line. Assumes nothing.
use Rattle.std.specs.Prelude.{◌≡◌, true, false, List, ℕ, ◌<◌, length}
use Rattle.token.specs.Table.{places, token_at}
use Rattle.order.specs.Order.{stands_before, sorted}
use Rattle.lookup.specs.Lookup.{Fits, Best}

-- the i-th token is the last at or before the position: it does not stand past it, and every later one does
pub record LastUpTo (table : List ℕ) (line col i : ℕ) : Type 0 where
  pub within : i < places (length table)
  pub up_to : stands_before line col (token_at table i).dst_line (token_at table i).dst_col ≡ false
  pub last : (j : ℕ) → i < j → j < places (length table) → stands_before line col (token_at table j).dst_line (token_at table j).dst_col ≡ true

-- in a sorted table: where it is on the asked line it is the best, and else no token fits
pub record Halves (table : List ℕ) (line col i : ℕ) : Type 0 where
  pub best : (token_at table i).dst_line ≡ line → Best table line col i
  pub none : ((token_at table i).dst_line ≡ line → ⊥) → (j : ℕ) → Fits table line col j → ⊥

abbrev pub HalvingLaw : Type 0
HalvingLaw = (table : List ℕ) (line col i : ℕ) → sorted table ≡ true → LastUpTo table line col i → Halves table line col i
