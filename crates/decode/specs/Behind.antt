-- docs/RULES.md, Tables: what the seventh number of a token says, of every token of every decode. Assumes nothing.
use Rattle.std.specs.Prelude.{List, [], ◌∷◌, ◌++◌, ℕ, ◌+◌, ◌<◌, length, take, drop, Ok}
use Rattle.list.specs.Pick.{pick}
use Rattle.digits.specs.Digits.{is_delim}
use Rattle.token.specs.Table.{token_at, tokens_from, over}
use Rattle.value.specs.declared.Mode.{Mode}
use Rattle.decode.specs.declared.Decoded.{Decoded}
use Rattle.decode.specs.Mapping.{Decodes}
use Rattle.decode.specs.Where.{Begins}

-- the bytes up to the next delimiter or the end
unfoldable pub piece : List ℕ → List ℕ
piece [] = []
piece (b ∷ bs) = pick (is_delim b) [] (b ∷ piece bs)

-- a decode that is done, with so many tokens and so many bytes
abbrev pub done : ℕ → ℕ → Decoded
done tokens bytes = record { end = Ok tt; tokens = tokens; offset = bytes }

-- at `begin` a segment begins, and its bytes gave the i-th token of a table: to decode what stands before them is done and gives the
-- tokens before it, and to decode these bytes too is done and gives those and this one
pub record Gave (mode : Mode) (sources names : ℕ) (text table table' : List ℕ) (i begin : ℕ) : Type 0 where
  pub begins : Begins text begin
  pub without : Decodes mode sources names (take begin text) table (done i begin) (over (tokens_from table' 0 i) table)
  pub with :
      Decodes mode sources names (take begin text ++ piece (drop begin text)) table (done (i + 1) (begin + length (piece (drop begin text))))
      (over (tokens_from table' 0 (i + 1)) table)

-- so it is where the token says, of every token of every decode, whether it is done or refused
abbrev pub SegmentBehind : Type 0
SegmentBehind =
    (mode : Mode) (sources names : ℕ) (text table : List ℕ) (r : Decoded) (table' : List ℕ) → Decodes mode sources names text table r table'
    → (i : ℕ) → i < r.tokens → Gave mode sources names text table table' i (token_at table' i).segment
