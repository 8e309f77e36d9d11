-- docs/RULES.md, Changes: every difference between two tables, by position. Assumes nothing.
use Rattle.std.specs.Prelude.{Bool, List, [], ◌∷◌, ◌++◌, map, ℕ, zero, suc, ◌+◌, eqb, length}
use Rattle.list.specs.Pick.{pick, both}
use Rattle.list.specs.Same.{same}
use Rattle.token.specs.Table.{first_six, places, token_at, tokens_of}
use Rattle.token.specs.declared.Token.{Token}
use Rattle.order.specs.Order.{stands_before}

-- a generated position
pub record Position : Type 0 where
  pub line : ℕ
  pub col : ℕ

abbrev pub position_of : Token → Position
position_of t = record { line = t.dst_line; col = t.dst_col }

-- two positions are one
abbrev pub together : Position → Position → Bool
together p q = both (eqb p.line q.line) (eqb p.col q.col)

-- p put among positions that rise, unless it is there
unfoldable pub among : Position → List Position → List Position
among p [] = p ∷ []
among p (q ∷ qs) =
    pick (together p q) (q ∷ qs)
    (pick (stands_before p.line p.col q.line q.col) (p ∷ q ∷ qs) (q ∷ among p qs))

-- the positions of tokens, each once, in order of line, then column
unfoldable pub positions_of : List Token → List Position
positions_of [] = []
positions_of (t ∷ ts) = among (position_of t) (positions_of ts)

-- of n tokens of a table, from the i-th on, the indices of those that stand at p, in order
unfoldable pub there_from : List ℕ → Position → ℕ → ℕ → List ℕ
there_from table p i zero = []
there_from table p i (suc n) =
    pick (together p (position_of (token_at table i))) (i ∷ there_from table p (i + 1) n) (there_from table p (i + 1) n)

abbrev pub there : List ℕ → Position → List ℕ
there table p = there_from table p 0 (places (length table))

-- a token that only the left table has, one that only the right has, or one of each that differ; by their indices
pub data Entry : Type 0 where
  only_left : ℕ → Entry
  only_right : ℕ → Entry
  different : ℕ → ℕ → Entry

-- the first six numbers agree
abbrev pub agree : Token → Token → Bool
agree t u = same (first_six t) (first_six u)

-- of tokens at one position, the k-th of one table is held against the k-th of the other
unfoldable pub held : List ℕ → List ℕ → List ℕ → List ℕ → List Entry
held left right [] js = map only_right js
held left right (i ∷ is) [] = map only_left (i ∷ is)
held left right (i ∷ is) (j ∷ js) =
    pick (agree (token_at left i) (token_at right j)) (held left right is js) (different i j ∷ held left right is js)

abbrev pub changes_at : List ℕ → List ℕ → Position → List Entry
changes_at left right p = held left right (there left p) (there right p)

-- what each position gives, one after the other
unfoldable pub each : (Position → List Entry) → List Position → List Entry
each f [] = []
each f (p ∷ ps) = f p ++ each f ps

-- every difference, in order of position
abbrev pub changes : List ℕ → List ℕ → List Entry
changes left right = each (changes_at left right) (positions_of (tokens_of left ++ tokens_of right))

-- ---- as numbers: 1 only left, 2 only right or 3 different, then both indices

-- as an index: none
abbrev pub no_index : ℕ
no_index = 4294967295

abbrev pub three_of : Entry → List ℕ
three_of (only_left i) = 1 ∷ i ∷ no_index ∷ []
three_of (only_right j) = 2 ∷ no_index ∷ j ∷ []
three_of (different i j) = 3 ∷ i ∷ j ∷ []

unfoldable pub listed : List Entry → List ℕ
listed [] = []
listed (e ∷ es) = three_of e ++ listed es
