-- docs/RULES.md, Tables: a token is seven 32-bit numbers, a table a lent list of such numbers. Assumes nothing.
use Rattle.std.specs.Prelude.{Bool, true, ◌≡◌, List, [], ◌∷◌, ◌++◌, map, ℕ, zero, suc, ◌+◌, ◌*◌, ◌/◌, ◌%◌, eqb, ltb, length, take, get_or}
use Rattle.list.specs.Memory.{onto, blit}
use Rattle.list.specs.Pick.{pick}
use Rattle.token.specs.declared.Token.{Token}

-- as an id: none
abbrev pub no_id : ℕ
no_id = 4294967295

-- as where a segment begins: none
abbrev pub no_segment : ℕ
no_segment = 4294967295

-- a token by its numbers
abbrev pub token : ℕ → ℕ → ℕ → ℕ → ℕ → ℕ → ℕ → Token
token line col source_line source_col source name segment =
    record { dst_line = line; dst_col = col; src_line = source_line; src_col = source_col; source_id = source; name_id = name; segment = segment }

-- the token with the place where its segment begins
abbrev pub with_segment : Token → ℕ → Token
with_segment t segment = token t.dst_line t.dst_col t.src_line t.src_col t.source_id t.name_id segment

abbrev pub is_none : ℕ → Bool
is_none id = eqb id no_id

-- the numbers of a token, in order: this list and its length alone say how many there are
abbrev pub row : Token → List ℕ
row t = t.dst_line ∷ t.dst_col ∷ t.src_line ∷ t.src_col ∷ t.source_id ∷ t.name_id ∷ t.segment ∷ []

abbrev pub width : ℕ
width = 7

-- all of them but the last, where the segment begins
abbrev pub first_six : Token → List ℕ
first_six t = take 6 (row t)

-- tokens that agree in the first six numbers of each
abbrev pub SameTokens : List Token → List Token → Type 0
SameTokens a b = map first_six a ≡ map first_six b

-- as output: the tokens that so many numbers have room for
abbrev pub places : ℕ → ℕ
places numbers = numbers / width

-- as input: the length must be a multiple of seven, and there may be 4,294,967,294 tokens at the most
abbrev pub bad_table : ℕ → Bool
bad_table numbers = pick (eqb (numbers % width) 0) (ltb 4294967294 (places numbers)) true

-- the i-th token of a table
unfoldable pub token_at : List ℕ → ℕ → Token
token_at xs i =
    token (get_or xs (width * i) 0) (get_or xs (width * i + 1) 0) (get_or xs (width * i + 2) 0) (get_or xs (width * i + 3) 0)
    (get_or xs (width * i + 4) 0) (get_or xs (width * i + 5) 0) (get_or xs (width * i + 6) 0)

-- n tokens of a table, from the i-th on
unfoldable pub tokens_from : List ℕ → ℕ → ℕ → List Token
tokens_from xs i zero = []
tokens_from xs i (suc n) = token_at xs i ∷ tokens_from xs (i + 1) n

-- the tokens of a table
abbrev pub tokens_of : List ℕ → List Token
tokens_of xs = tokens_from xs 0 (places (length xs))

-- the table with t as its i-th token
unfoldable pub put_token : List ℕ → ℕ → Token → List ℕ
put_token xs i t = blit xs (width * i) (row t)

-- tokens as numbers
unfoldable pub flat : List Token → List ℕ
flat [] = []
flat (t ∷ ts) = row t ++ flat ts

-- the table with ts as its first tokens; past them, and past its last whole token, what xs has there
abbrev pub over : List Token → List ℕ → List ℕ
over ts xs = onto (flat ts) xs
