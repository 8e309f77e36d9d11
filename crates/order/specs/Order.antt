-- docs/RULES.md, Order: whether a table is sorted by line and column, and where it first is not. Assumes nothing.
use Rattle.std.specs.Prelude.{◌≡◌, Bool, true, false, List, [], ◌∷◌, ℕ, ◌+◌, ◌<◌, ◌≤◌, eqb, ltb, length, Option, Some, None, is_none}
use Rattle.list.specs.Pick.{pick}
use Rattle.token.specs.Table.{places, token_at, tokens_of}
use Rattle.token.specs.declared.Token.{Token}

-- a position stands before another: its line is less, or it is the same and the column is less
abbrev pub stands_before : ℕ → ℕ → ℕ → ℕ → Bool
stands_before line col line' col' = pick (eqb line line') (ltb col col') (ltb line line')

-- a token stands before one that comes earlier in the table
abbrev pub falls : Token → Token → Bool
falls earlier t = stands_before t.dst_line t.dst_col earlier.dst_line earlier.dst_col

-- of the tokens behind t, the first of which is the i-th: the first that stands before the one before it
unfoldable pub fall_from : ℕ → Token → List Token → Option ℕ
fall_from i t [] = None
fall_from i t (u ∷ us) = pick (falls t u) (Some i) (fall_from (i + 1) u us)

abbrev pub fall_in : List Token → Option ℕ
fall_in [] = None
fall_in (t ∷ ts) = fall_from 1 t ts

-- the index of a table's first token that stands before the one before it
abbrev pub first_fall : List ℕ → Option ℕ
first_fall table = fall_in (tokens_of table)

-- sorted: never falling by line, then column
abbrev pub sorted : List ℕ → Bool
sorted table = is_none (first_fall table)

-- ---- what the index says of all tokens, and not of neighbours alone

-- of the first n tokens, none stands before an earlier one
abbrev pub NeverFalls : List ℕ → ℕ → Type 0
NeverFalls table n = (i j : ℕ) → i ≤ j → j < n → falls (token_at table i) (token_at table j) ≡ false

-- the tokens before the k-th never fall, and the k-th stands before the one before it
pub record FirstFall (table : List ℕ) (k : ℕ) : Type 0 where
  pub behind : 0 < k
  pub within : k < places (length table)
  pub before_it : NeverFalls table k
  pub at_it : (i : ℕ) → i + 1 ≡ k → falls (token_at table i) (token_at table k) ≡ true

abbrev pub FallSays : List ℕ → Option ℕ → Type 0
FallSays table None = NeverFalls table (places (length table))
FallSays table (Some k) = FirstFall table k

abbrev pub SortedSays : Type 0
SortedSays = (table : List ℕ) → FallSays table (first_fall table)
