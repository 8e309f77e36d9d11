-- docs/RULES.md, Looking up: which token is found at a position. Assumes nothing.
use Rattle.std.specs.Prelude.{◌≡◌, Bool, true, ◌⊎◌, List, ℕ, zero, suc, ◌<◌, ◌≤◌, eqb, leb, ltb, length, Option, Some, None, Result, Ok, Err}
use Rattle.list.specs.Pick.{pick, both}
use Rattle.code.specs.Code.{refused}
use Rattle.code.specs.declared.Answer.{Answer}
use Rattle.code.specs.declared.Code.{Code}
use Rattle.token.specs.Table.{places, bad_table, token_at}

-- the i-th token of the table is on the asked line, with a column at most the asked one
pub record Fits (table : List ℕ) (line col i : ℕ) : Type 0 where
  pub within : i < places (length table)
  pub on : (token_at table i).dst_line ≡ line
  pub before : (token_at table i).dst_col ≤ col

-- token j does not come after token i: its column is less, or the same and j is no later in the list
abbrev pub NotAfter : List ℕ → ℕ → ℕ → Type 0
NotAfter table j i =
    ((token_at table j).dst_col < (token_at table i).dst_col) ⊎ (((token_at table j).dst_col ≡ (token_at table i).dst_col) × (j ≤ i))

-- among those that fit, the largest column; among equals, the latest in the list
pub record Best (table : List ℕ) (line col i : ℕ) : Type 0 where
  pub fits : Fits table line col i
  pub most : (j : ℕ) → Fits table line col j → NotAfter table j i

-- what each answer says of the table
abbrev pub Looks : List ℕ → ℕ → ℕ → Result (Option ℕ) Code → Type 0
Looks table line col (Ok (Some i)) = (bad_table (length table) ≡ true → ⊥) × Best table line col i
Looks table line col (Ok None) = (bad_table (length table) ≡ true → ⊥) × ((j : ℕ) → Fits table line col j → ⊥)
Looks table line col (Err c) = (bad_table (length table) ≡ true) × (c ≡ Code.BadTable)

-- ---- the same as a function that computes, for definitions that build on it; that it gives the best is a law

abbrev pub fits : List ℕ → ℕ → ℕ → ℕ → Bool
fits table line col i = both (eqb (token_at table i).dst_line line) (leb (token_at table i).dst_col col)

-- a later token that fits is taken unless its column is less
abbrev pub later : List ℕ → ℕ → Option ℕ → Option ℕ
later table i None = Some i
later table i (Some j) = pick (ltb (token_at table i).dst_col (token_at table j).dst_col) (Some j) (Some i)

-- among the first n tokens
unfoldable pub best_of : List ℕ → ℕ → ℕ → ℕ → Option ℕ
best_of table line col zero = None
best_of table line col (suc n) = pick (fits table line col n) (later table n (best_of table line col n)) (best_of table line col n)

abbrev pub lookup_of : List ℕ → ℕ → ℕ → Option ℕ
lookup_of table line col = best_of table line col (places (length table))

-- ---- an answer as it goes out: code 0 carries the index, or 4,294,967,295 where there is no such token
abbrev pub found_out : Result (Option ℕ) Code → Answer
found_out (Ok (Some i)) = record { code = 0; number = i }
found_out (Ok None) = record { code = 0; number = 4294967295 }
found_out (Err c) = refused c
