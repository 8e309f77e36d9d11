-- docs/RULES.md, dumpmap: what is printed for some inputs, as one table, computed from the definitions. Assumes nothing.
use Rattle.std.specs.Prelude.{◌≡◌, refl, List, [], ◌∷◌, ℕ}
use Rattle.digits.specs.Digits.{digit_of, is_delim}
use Rattle.value.specs.Value.{value_of}
use Rattle.vlq.specs.Vlq.{digits_from, vlq_of}
use Rattle.segment.specs.Segment.{fields_from, wide_from}
use Rattle.sums.specs.Sums.{reduced_of, sum_of, id_of, name_sum_of}
use Rattle.apply.specs.Apply.{columned, mapped, named, four, five, counted, applied}
use Rattle.step.specs.Step.{offset_of, segment_step, step_from}
use Rattle.decode.specs.Mapping.{step_then, run}
use Rattle.decimal.specs.Decimal.{figures_in}
use Rattle.first_line.specs.Reading.{is_figure, ended_at, number_from}
use Rattle.lines.specs.Lines.{line, id_text, token_line, token_lines, count_line, end_line}
use Rattle.dump.specs.Rendered.{report, rendered}

-- an input, and what is printed for it
pub record Row : Type 0 where
  pub input : List ℕ
  pub printed : List ℕ

abbrev row : List ℕ → List ℕ → Row
row input printed = record { input = input; printed = printed }

abbrev pub worked : List Row
worked =
    -- `1 0`, `AAEG;C`: `tokens 2`, `0 0 2 3 0 -`, `1 1 2 3 - -`, `end 0`
    row (49 ∷ 32 ∷ 48 ∷ 10 ∷ 65 ∷ 65 ∷ 69 ∷ 71 ∷ 59 ∷ 67 ∷ []) (116 ∷ 111 ∷ 107 ∷ 101 ∷ 110 ∷ 115 ∷ 32 ∷ 50 ∷ 10 ∷ 48 ∷ 32 ∷ 48 ∷ 32 ∷ 50 ∷ 32 ∷ 51 ∷ 32 ∷ 48 ∷ 32 ∷ 45 ∷ 10 ∷ 49 ∷ 32 ∷ 49 ∷ 32 ∷ 50 ∷ 32 ∷ 51 ∷ 32 ∷ 45 ∷ 32 ∷ 45 ∷ 10 ∷ 101 ∷ 110 ∷ 100 ∷ 32 ∷ 48 ∷ 10 ∷ []) ∷
    -- `1 0`, `AAA`: `tokens 0`, `end 3 3 at 0`
    row (49 ∷ 32 ∷ 48 ∷ 10 ∷ 65 ∷ 65 ∷ 65 ∷ []) (116 ∷ 111 ∷ 107 ∷ 101 ∷ 110 ∷ 115 ∷ 32 ∷ 48 ∷ 10 ∷ 101 ∷ 110 ∷ 100 ∷ 32 ∷ 51 ∷ 32 ∷ 51 ∷ 32 ∷ 97 ∷ 116 ∷ 32 ∷ 48 ∷ 10 ∷ []) ∷
    -- `0 0`, `A,g`, a value cut short: `tokens 1`, `0 0 0 0 - -`, `end 1 0 at 3`
    row (48 ∷ 32 ∷ 48 ∷ 10 ∷ 65 ∷ 44 ∷ 103 ∷ []) (116 ∷ 111 ∷ 107 ∷ 101 ∷ 110 ∷ 115 ∷ 32 ∷ 49 ∷ 10 ∷ 48 ∷ 32 ∷ 48 ∷ 32 ∷ 48 ∷ 32 ∷ 48 ∷ 32 ∷ 45 ∷ 32 ∷ 45 ∷ 10 ∷ 101 ∷ 110 ∷ 100 ∷ 32 ∷ 49 ∷ 32 ∷ 48 ∷ 32 ∷ 97 ∷ 116 ∷ 32 ∷ 51 ∷ 10 ∷ []) ∷
    -- `0 0`, `+/////H`, the largest column: `tokens 1`, `0 4294967295 0 0 - -`, `end 0`
    row (48 ∷ 32 ∷ 48 ∷ 10 ∷ 43 ∷ 47 ∷ 47 ∷ 47 ∷ 47 ∷ 47 ∷ 72 ∷ []) (116 ∷ 111 ∷ 107 ∷ 101 ∷ 110 ∷ 115 ∷ 32 ∷ 49 ∷ 10 ∷ 48 ∷ 32 ∷ 52 ∷ 50 ∷ 57 ∷ 52 ∷ 57 ∷ 54 ∷ 55 ∷ 50 ∷ 57 ∷ 53 ∷ 32 ∷ 48 ∷ 32 ∷ 48 ∷ 32 ∷ 45 ∷ 32 ∷ 45 ∷ 10 ∷ 101 ∷ 110 ∷ 100 ∷ 32 ∷ 48 ∷ 10 ∷ []) ∷
    -- `1`, one count only: `input`
    row (49 ∷ 10 ∷ []) (105 ∷ 110 ∷ 112 ∷ 117 ∷ 116 ∷ 10 ∷ []) ∷
    -- nothing: `input`
    row [] (105 ∷ 110 ∷ 112 ∷ 117 ∷ 116 ∷ 10 ∷ []) ∷
    []

-- the definitions give each row
abbrev pub Each : List Row → Type 0
Each [] = Unit {0}
Each (r ∷ rs) = (rendered r.input ≡ r.printed) × Each rs

pub worked_inputs : Each worked
unfolding digit_of is_delim value_of digits_from vlq_of fields_from wide_from reduced_of sum_of id_of name_sum_of columned mapped named four five counted applied offset_of segment_step step_from step_then run figures_in is_figure ended_at number_from line id_text token_line token_lines count_line end_line report rendered
worked_inputs = (refl, (refl, (refl, (refl, (refl, (refl, tt))))))
