-- docs/RULES.md, dumpmap: the lines that are printed, as bytes. Assumes nothing.
use Rattle.std.specs.Prelude.{List, [], ◌∷◌, ◌++◌, ℕ, Result, Ok, Err, ⊤}
use Rattle.list.specs.Pick.{pick}
use Rattle.code.specs.Code.{code_of, number_of}
use Rattle.code.specs.declared.Code.{Code}
use Rattle.token.specs.Table.{is_none}
use Rattle.token.specs.declared.Token.{Token}
use Rattle.decimal.specs.Decimal.{figures_of}

-- words with a space between them, and a newline
unfoldable pub line : List (List ℕ) → List ℕ
line [] = 10 ∷ []
line (w ∷ []) = w ++ (10 ∷ [])
line (w ∷ (v ∷ ws)) = w ++ (32 ∷ line (v ∷ ws))

-- an id: `-` for none
unfoldable pub id_text : ℕ → List ℕ
id_text id = pick (is_none id) (45 ∷ []) (figures_of id)

-- a token: its first six numbers
unfoldable pub token_line : Token → List ℕ
token_line t =
    line (figures_of t.dst_line ∷ figures_of t.dst_col ∷ figures_of t.src_line ∷ figures_of t.src_col
    ∷ id_text t.source_id ∷ id_text t.name_id ∷ [])

-- one line a token
unfoldable pub token_lines : List Token → List ℕ
token_lines [] = []
token_lines (t ∷ ts) = token_line t ++ token_lines ts

-- `tokens` and how many there are
unfoldable pub count_line : ℕ → List ℕ
count_line n = line ((116 ∷ 111 ∷ 107 ∷ 101 ∷ 110 ∷ 115 ∷ []) ∷ figures_of n ∷ [])

-- `end` and the code 0; of a refusal the code, its number, `at` and the offset
unfoldable pub end_line : Result ⊤ Code → ℕ → List ℕ
end_line (Ok t) offset = line ((101 ∷ 110 ∷ 100 ∷ []) ∷ figures_of 0 ∷ [])
end_line (Err code) offset =
    line ((101 ∷ 110 ∷ 100 ∷ []) ∷ figures_of (code_of code) ∷ figures_of (number_of code) ∷ (97 ∷ 116 ∷ []) ∷ figures_of offset ∷ [])

-- `input`: the one line of an input that is not taken
abbrev pub input_line : List ℕ
input_line = line ((105 ∷ 110 ∷ 112 ∷ 117 ∷ 116 ∷ []) ∷ [])
