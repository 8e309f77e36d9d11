-- Helpers: what inner contracts and proofs need; no contract of an entry and no theorem reaches this file.
-- Both tables walked side by side: what is left from a token of each on, and what a turn does. Assumes nothing.
use Rattle.std.specs.Prelude.{◌≡◌, true, List, [], ◌∷◌, ◌++◌, ℕ, ◌+◌, ◌-◌, ◌≤◌, ◌<◌, length, Option, Some, None}
use Rattle.token.specs.Table.{places, tokens_of}
use Rattle.order.specs.Order.{sorted}
use Rattle.changes.specs.Changes.{Position, positions_of, there_from, Entry, only_left, only_right, different, held, each}
use Rattle.changes.specs.declared.Kind.{Kind}
use Rattle.changes.specs.declared.Turn.{Turn}

-- the indices of the tokens at p, from the i-th token on
abbrev pub there_on : List ℕ → ℕ → Position → List ℕ
there_on table i p = there_from table p i (places (length table) - i)

-- the differences from the i-th token of the left table and the j-th of the right one on
abbrev pub changes_on : List ℕ → List ℕ → ℕ → ℕ → List Entry
changes_on left right i j =
    each (λ (p : Position). held left right (there_on left i p) (there_on right j p)) (positions_of (tokens_of left ++ tokens_of right))

-- the entry of a kind
abbrev pub entry_of : Kind → ℕ → ℕ → Entry
entry_of Kind.OnlyLeft i j = only_left i
entry_of Kind.OnlyRight i j = only_right j
entry_of Kind.Different i j = different i j

-- what a turn gives: no entry, or one
abbrev pub given : Option Kind → ℕ → ℕ → List Entry
given None i j = []
given (Some kind) i j = entry_of kind i j ∷ []

-- the kind, and where both tables go on
abbrev pub turn_of : Option Kind → ℕ → ℕ → Turn
turn_of kind i j = record { kind = kind; i = i; j = j }

-- within both tables, and not at both ends
pub record Ahead (left right : List ℕ) (i j : ℕ) : Type 0 where
  pub left_sorted : sorted left ≡ true
  pub right_sorted : sorted right ≡ true
  pub in_left : i ≤ places (length left)
  pub in_right : j ≤ places (length right)
  pub more : i + j < places (length left) + places (length right)

-- a turn goes on in one table or in both, and gives the entry that stands between
pub record Turns (left right : List ℕ) (i j : ℕ) (t : Turn) : Type 0 where
  pub in_left : t.i ≤ places (length left)
  pub in_right : t.j ≤ places (length right)
  pub on : i + j < t.i + t.j
  pub gives : changes_on left right i j ≡ given t.kind i j ++ changes_on left right t.i t.j
