-- Helpers: what inner contracts and proofs need; no contract of an entry and no theorem reaches this file.
-- The tokens that a position may lead to. Assumes nothing.
use Rattle.std.specs.Prelude.{List, ℕ, ◌+◌, ◌<◌, ◌≤◌, leb, length}
use Rattle.list.specs.Pick.{pick}
use Rattle.token.specs.Table.{places}
use Rattle.order.specs.Keys.{key_at}

-- 1 for a place at or before the position, 0 for one past it
unfoldable pub count_of : ℕ → ℕ → ℕ
count_of key asked = pick (leb key asked) 1 0

-- the last token at or before the position `asked`, if there is one, is among `size` tokens from the one at `base` on: that one is at
-- or before it, unless it is the table's first, and the one behind them is past it
pub record Within (table : List ℕ) (asked base size : ℕ) : Type 0 where
  pub some : 0 < size
  pub ends : base + size ≤ places (length table)
  pub from : 0 < base → key_at table base ≤ asked
  pub to : base + size < places (length table) → asked < key_at table (base + size)
