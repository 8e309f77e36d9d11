-- docs/RULES.md, Demands: demand 3's premises on a token table, as a test that computes. Assumes nothing.
use Rattle.std.specs.Prelude.{◌≡◌, Bool, true, false, List, [], ◌∷◌, ℕ, ◌^◌, eqb, leb, ltb, length}
use Rattle.list.specs.Pick.{pick, both}
use Rattle.token.specs.Table.{is_none, bad_table, tokens_of}
use Rattle.token.specs.declared.Token.{Token}

-- an id is none or below its count
abbrev pub id_within : ℕ → ℕ → Bool
id_within count id = pick (is_none id) true (ltb id count)

-- the token may stand after a token on `line`, where the latest token with a source had the source position srcLine, srcCol:
-- its line does not go back, its ids are none or below the counts, it has no name without a source, and without a source
-- it repeats that source position
unfoldable pub follows : ℕ → ℕ → ℕ → ℕ → ℕ → Token → Bool
follows sources names line source_line source_col t =
    both (leb line t.dst_line)
    (both (id_within sources t.source_id)
    (both (id_within names t.name_id)
    (pick (is_none t.source_id) (both (is_none t.name_id) (both (eqb t.src_line source_line) (eqb t.src_col source_col))) true)))

unfoldable pub follow : ℕ → ℕ → ℕ → ℕ → ℕ → List Token → Bool
follow sources names line source_line source_col [] = true
follow sources names line source_line source_col (t ∷ ts) =
    both (follows sources names line source_line source_col t)
    (follow sources names t.dst_line
    (pick (is_none t.source_id) source_line t.src_line)
    (pick (is_none t.source_id) source_col t.src_col)
    ts)

-- from the start: line 0, and the source position 0, 0 before any
abbrev pub premises : ℕ → ℕ → List Token → Bool
premises sources names ts = follow sources names 0 0 0 ts

-- the test's answer: a bad table meets them not
unfoldable pub decides : List ℕ → ℕ → ℕ → Bool
decides table sources names = pick (bad_table (length table)) false (premises sources names (tokens_of table))

-- every number is one of 32 bits, as every number of a lent table is
unfoldable pub fits32 : List ℕ → Bool
fits32 [] = true
fits32 (x ∷ xs) = both (ltb x (2 ^ 32)) (fits32 xs)

-- a table that surely reads back as it was written
pub record SoundTable (sources names : ℕ) (xs : List ℕ) : Type 0 where
  pub meets : decides xs sources names ≡ true
  pub fits : fits32 xs ≡ true

-- the test's answer, and what a yes is good for
pub record Decides (table : List ℕ) (sources names : ℕ) (r : Bool) : Type 0 where
  pub says : r ≡ decides table sources names
  pub sound : r ≡ true → SoundTable sources names table
