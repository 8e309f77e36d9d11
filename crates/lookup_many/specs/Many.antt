-- docs/RULES.md, Looking up many positions: the answer, its refusals in order, and what the lent list holds then. Assumes nothing.
use Rattle.std.specs.Prelude.{◌≡◌, Bool, ◌⊎◌, List, ℕ, ◌+◌, ◌*◌, ◌/◌, ◌%◌, ◌<◌, eqb, ltb, length, drop, get_or, Option, Result, Ok, Err, ⊤}
use Rattle.list.specs.Pick.{pick}
use Rattle.code.specs.declared.Code.{Code}
use Rattle.token.specs.Table.{bad_table}
use Rattle.lookup.specs.Lookup.{Fits, Best, Looks, found_out}

-- a position is a pair of numbers, line and column
abbrev pub pairs : ℕ → ℕ
pairs numbers = numbers / 2

abbrev pub odd_list : ℕ → Bool
odd_list numbers = eqb (numbers % 2) 1

-- the k-th pair
abbrev pub line_of : List ℕ → ℕ → ℕ
line_of positions k = get_or positions (2 * k) 0

abbrev pub col_of : List ℕ → ℕ → ℕ
col_of positions k = get_or positions (2 * k + 1) 0

-- BadTable, OddList, NoRoom with the number of pairs, in this order; else done
unfoldable pub many_to : List ℕ → List ℕ → ℕ → Result ⊤ Code
many_to table positions room =
    pick (bad_table (length table)) (Err Code.BadTable)
    (pick (odd_list (length positions)) (Err Code.OddList)
    (pick (ltb room (pairs (length positions))) (Err (Code.NoRoom (pairs (length positions)))) (Ok tt)))

-- n is what one lookup of the position says: the index, or 4,294,967,295 where there is no such token
pub record Says (table : List ℕ) (line col n : ℕ) : Type 0 where
  pub found : Result (Option ℕ) Code
  pub looks : Looks table line col found
  pub says : n ≡ (found_out found).number

-- how many places are written: one for each pair, none on a refusal
abbrev pub filled : Result ⊤ Code → List ℕ → ℕ
filled (Ok t) positions = pairs (length positions)
filled (Err c) positions = 0

-- a call's answer, and what the lent list holds then: for each pair what one lookup says; past the pairs, and on a refusal, what it held
pub record LooksMany (table positions found : List ℕ) (r : Result ⊤ Code) (found' : List ℕ) : Type 0 where
  pub says : r ≡ many_to table positions (length found)
  pub each : (k : ℕ) → k < filled r positions → Says table (line_of positions k) (col_of positions k) (get_or found' k 0)
  pub kept : drop (filled r positions) found' ≡ drop (filled r positions) found
  pub sized : length found' ≡ length found

-- ---- what a place that is filled says: 4,294,967,295 that no token fits the position, every other number that it is the best token's index
abbrev pub Told : List ℕ → ℕ → ℕ → ℕ → Type 0
Told table line col n =
    ((n ≡ 4294967295) × ((j : ℕ) → Fits table line col j → ⊥)) ⊎ ((n < 4294967295) × Best table line col n)
