-- How many numbers a table needs so that it is never full. Assumes nothing.
use Rattle.std.specs.Prelude.{Bool, true, false, List, [], ◌∷◌, ℕ, suc, ◌-◌, ◌*◌, ◌^◌, ◌<◌, ◌≤◌, ◌≡◌, ltb, length, Err}
use Rattle.list.specs.Pick.{pick}
use Rattle.code.specs.declared.Code.{Code}
use Rattle.token.specs.Table.{width}
use Rattle.digits.specs.Digits.{is_delim}
use Rattle.value.specs.declared.Mode.{Mode}
use Rattle.decode.specs.declared.Decoded.{Decoded}
use Rattle.decode.specs.Mapping.{Decodes}

-- the segments that begin in the bytes: runs of bytes that are no delimiter; `inside` where the byte before is in such a run
unfoldable pub segments_from : Bool → List ℕ → ℕ
segments_from inside [] = 0
segments_from inside (b ∷ bs) =
    pick (is_delim b) (segments_from false bs) (pick inside (segments_from true bs) (suc (segments_from true bs)))

-- a token for each segment of a text, or the largest number where they are more
unfoldable pub table_size : List ℕ → ℕ
table_size text = pick (ltb (2 ^ 64 - 1) (width * segments_from false text)) (2 ^ 64 - 1) (width * segments_from false text)

-- a decode into a table of that size, or a larger one, never says TableFull, whatever the mode and the counts; a lent table has fewer
-- than 2^63 numbers
abbrev pub NeverFull : Type 0
NeverFull =
    (mode : Mode) (sources names : ℕ) (text table : List ℕ) (d : Decoded) (table' : List ℕ) → table_size text ≤ length table → length table < 2 ^ 63
    → Decodes mode sources names text table d table' → d.end ≡ Err Code.TableFull → ⊥
