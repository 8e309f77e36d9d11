-- docs/RULES.md, Translating. Assumes nothing.
use Rattle.std.specs.Prelude.{◌≡◌, ℕ, ◌+◌, Bool, true, false, List, [], ◌∷◌, length, nat_le, nat_lt, Option, Some, None, Result, Ok, Err, is_ok, ⊤}
use Rattle.list.specs.Pick.{pick}
use Rattle.code.specs.declared.Code.{Code}
use Rattle.token.specs.Table.{token, is_none, bad_table, tokens_of, over}
use Rattle.token.specs.declared.Token.{Token}

-- ids other than none are moved
abbrev pub id_moved : ℕ → ℕ → ℕ
id_moved id offset = pick (is_none id) id (id + offset)

-- an id sum that reaches 4,294,967,295 is too big: it would become none
abbrev pub id_too_big : ℕ → ℕ → Bool
id_too_big id offset = pick (is_none id) false (nat_le 4294967295 (id + offset))

-- a line sum that passes 4,294,967,295 is too big
unfoldable pub too_big : ℕ → ℕ → ℕ → Token → Bool
too_big line source name t =
    pick (nat_lt 4294967295 (t.dst_line + line)) true (pick (id_too_big t.source_id source) true (id_too_big t.name_id name))

unfoldable pub moved : ℕ → ℕ → ℕ → Token → Token
moved line source name t =
    token (t.dst_line + line) t.dst_col t.src_line t.src_col (id_moved t.source_id source) (id_moved t.name_id name)
    t.segment

-- each token replaced by its translation
unfoldable pub all_moved : ℕ → ℕ → ℕ → List Token → List Token
all_moved line source name [] = []
all_moved line source name (t ∷ ts) = moved line source name t ∷ all_moved line source name ts

-- the first token that is too big, counted from i
unfoldable pub first_too_big : ℕ → ℕ → ℕ → ℕ → List Token → Option ℕ
first_too_big line source name i [] = None
first_too_big line source name i (t ∷ ts) = pick (too_big line source name t) (Some i) (first_too_big line source name (i + 1) ts)

abbrev pub unless_too_big : Option ℕ → Result ⊤ Code
unless_too_big None = Ok tt
unless_too_big (Some i) = Err (Code.TooBig i)

-- over a whole table
unfoldable pub translates_to : ℕ → ℕ → ℕ → List ℕ → Result ⊤ Code
translates_to line source name table =
    pick (bad_table (length table)) (Err Code.BadTable) (unless_too_big (first_too_big line source name 0 (tokens_of table)))

-- a table's translation: whether it is done, and what the lent table holds then
pub record Translates (line source name : ℕ) (table : List ℕ) (r : Result ⊤ Code) (table' : List ℕ) : Type 0 where
  pub says : r ≡ translates_to line source name table
  pub wrote : table' ≡ pick (is_ok (translates_to line source name table)) (over (all_moved line source name (tokens_of table)) table) table
