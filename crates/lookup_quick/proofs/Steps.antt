-- From every token to the few that are left. Assumes nothing.
use mathlib.Core.List.{List}
use Prim.Native.Nat.{ℕ, ◌<◌}
use native.Mathlib.Omega.{arith}
use lib.ListN.{length}
use Rattle.token.specs.Table.{places}
use Rattle.halving.specs.Within.{Within}

-- before anything is known, a position may lead to any token
pub at_first : (table : List ℕ) (asked : ℕ) → 0 < places (length table) → Within table asked 0 (places (length table))
at_first table asked h = record { some = h; ends = omega arith; from = λ l. absurd (omega arith); to = λ l. absurd (omega arith) }
