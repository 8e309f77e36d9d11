-- The sums of two texts, computed. Assumes nothing.
use mathlib.Core.Path.{◌≡◌, refl}
use mathlib.Core.List.{[], ◌∷◌}
use Prim.Native.Nat.{ℕ}
use lib.IntN.{pos, negsuc}
use Rattle.digits.specs.Digits.{char_of}
use Rattle.token.specs.Table.{no_id}
use Rattle.value.specs.Standard.{terminal, goes_on, is_run, unsigned, too_wide, signed}
use Rattle.vlq.specs.Runs.{spell}
use Rattle.exact.specs.Text.{Value, one, four, five, Segment, comma, semicolon, Delimiter, Part, Text, spell_segment, spell_parts, spell_text, added, delimited, Numbers, numbers, token_of, parts_tokens, whole_tokens}

-- `+/////D`, `A`, `B`, `C`, `E`, `G`
largest : Value
unfolding is_run unsigned too_wide signed
largest =
    record { run = goes_on 62 (goes_on 63 (goes_on 63 (goes_on 63 (goes_on 63 (goes_on 63 (terminal 3)))))); digits = refl; number = pos 2147483647; says = refl }

none : Value
unfolding is_run unsigned too_wide signed
none = record { run = terminal 0; digits = refl; number = pos 0; says = refl }

minus_none : Value
unfolding is_run unsigned too_wide signed
minus_none = record { run = terminal 1; digits = refl; number = negsuc 2147483647; says = refl }

plus_one : Value
unfolding is_run unsigned too_wide signed
plus_one = record { run = terminal 2; digits = refl; number = pos 1; says = refl }

plus_two : Value
unfolding is_run unsigned too_wide signed
plus_two = record { run = terminal 4; digits = refl; number = pos 2; says = refl }

plus_three : Value
unfolding is_run unsigned too_wide signed
plus_three = record { run = terminal 6; digits = refl; number = pos 3; says = refl }

abbrev part : Delimiter → Segment → Part
part d g = record { delimiter = d; segment = g }

abbrev row : ℕ → ℕ → ℕ → ℕ → ℕ → ℕ → Numbers
row line column source_line src_column source name = numbers line (pos column) (pos source_line) (pos src_column) (pos source) (pos name)

-- a text that goes up to 2^31 and back
abbrev there_and_back : Text
there_and_back = record { first = one largest; parts = part comma (one plus_one) ∷ part comma (one minus_none) ∷ [] }

there_and_back_spelled : spell_text there_and_back ≡ 43 ∷ 47 ∷ 47 ∷ 47 ∷ 47 ∷ 47 ∷ 68 ∷ 44 ∷ 67 ∷ 44 ∷ 66 ∷ []
unfolding spell_segment spell_parts spell char_of largest plus_one minus_none
there_and_back_spelled = refl

there_and_back_sums : whole_tokens there_and_back ≡ row 0 2147483647 0 0 no_id no_id ∷ row 0 2147483648 0 0 no_id no_id ∷ row 0 0 0 0 no_id no_id ∷ []
unfolding added delimited token_of parts_tokens largest plus_one minus_none
there_and_back_sums = refl

-- `AAEG;CCCCA`: the column restarts, the others go on
abbrev two_lines : Text
two_lines = record { first = four none none plus_two plus_three; parts = part semicolon (five plus_one plus_one plus_one plus_one none) ∷ [] }

two_lines_spelled : spell_text two_lines ≡ 65 ∷ 65 ∷ 69 ∷ 71 ∷ 59 ∷ 67 ∷ 67 ∷ 67 ∷ 67 ∷ 65 ∷ []
unfolding spell_segment spell_parts spell char_of none plus_one plus_two plus_three
two_lines_spelled = refl

two_lines_sums : whole_tokens two_lines ≡ row 0 0 2 3 0 no_id ∷ row 1 1 3 4 1 0 ∷ []
unfolding added delimited token_of parts_tokens none plus_one plus_two plus_three
two_lines_sums = refl
