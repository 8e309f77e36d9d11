-- What the list of differences says: every entry is a difference, every difference is there once, and they rise by position. Assumes nothing.
use Rattle.std.specs.Prelude.{◌≡◌, false, ◌⊎◌, List, [], ◌∷◌, map, ℕ, ◌<◌, length}
use Rattle.token.specs.Table.{first_six, places, token_at}
use Rattle.order.specs.Order.{stands_before}
use Rattle.changes.specs.Changes.{Position, position_of, there_from, Entry, only_left, only_right, different, changes}

-- it is one of them
abbrev pub In : {A : Type 0} → A → List A → Type 0
In a [] = ⊥
In a (b ∷ bs) = (a ≡ b) ⊎ In a bs

-- none of them comes again
abbrev pub Apart : List Entry → Type 0
Apart [] = Unit {0}
Apart (e ∷ es) = (In e es → ⊥) × Apart es

-- how many tokens of the table stand before the i-th at its position
abbrev pub place_among : List ℕ → ℕ → ℕ
place_among table i = length (there_from table (position_of (token_at table i)) 0 i)

-- the k-th token at a position of one table, and the k-th there of the other
pub record Opposite (left right : List ℕ) (i j : ℕ) : Type 0 where
  pub in_left : i < places (length left)
  pub in_right : j < places (length right)
  pub one_position : position_of (token_at left i) ≡ position_of (token_at right j)
  pub one_place : place_among left i ≡ place_among right j

-- a token of one table with none opposite to it, or two opposite ones whose first six numbers differ
abbrev pub Difference : List ℕ → List ℕ → Entry → Type 0
Difference left right (only_left i) = (i < places (length left)) × ((j : ℕ) → Opposite left right i j → ⊥)
Difference left right (only_right j) = (j < places (length right)) × ((i : ℕ) → Opposite left right i j → ⊥)
Difference left right (different i j) = Opposite left right i j × (first_six (token_at left i) ≡ first_six (token_at right j) → ⊥)

-- where an entry stands
abbrev pub entry_position : List ℕ → List ℕ → Entry → Position
entry_position left right (only_left i) = position_of (token_at left i)
entry_position left right (only_right j) = position_of (token_at right j)
entry_position left right (different i j) = position_of (token_at left i)

-- none stands before an earlier one
abbrev pub Rising : List ℕ → List ℕ → List Entry → Type 0
Rising left right [] = Unit {0}
Rising left right (e ∷ es) =
    ((f : Entry) → In f es
    → stands_before (entry_position left right f).line (entry_position left right f).col (entry_position left right e).line (entry_position left right e).col ≡ false)
    × Rising left right es

-- of all tables, sorted or not
pub record ChangesOnce (left right : List ℕ) : Type 0 where
  pub every_entry : (e : Entry) → In e (changes left right) → Difference left right e
  pub every_difference : (e : Entry) → Difference left right e → In e (changes left right)
  pub once : Apart (changes left right)
  pub rising : Rising left right (changes left right)

-- the other way round
abbrev pub mirrored : Entry → Entry
mirrored (only_left i) = only_right i
mirrored (only_right j) = only_left j
mirrored (different i j) = different j i

abbrev pub OtherWay : List ℕ → List ℕ → Type 0
OtherWay left right = changes right left ≡ map mirrored (changes left right)
