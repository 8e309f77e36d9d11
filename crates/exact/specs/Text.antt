-- ECMA-426: the parts of a text, and the running sums of their values as whole numbers. No mode, no remainder and no refusal stands here.
-- Assumes nothing.
use Rattle.std.specs.Prelude.{◌≡◌, true, List, [], ◌∷◌, ◌++◌, ℕ, ◌+◌, ℤ, pos, ◌+ℤ◌, Some}
use Rattle.value.specs.Standard.{Run, is_run, unsigned, signed}
use Rattle.vlq.specs.Runs.{spell}
use Rattle.token.specs.Table.{no_id}

-- ---- the parts

-- a value: a run of the standard's digits, and the whole number that they say; too wide it is not
pub record Value : Type 0 where
  pub run : Run
  pub digits : is_run run ≡ true
  pub number : ℤ
  pub says : signed (unsigned run) ≡ Some number

-- a segment: one, four or five values, or nothing, as between two delimiters
pub data Segment : Type 0 where
  nothing : Segment
  one : Value → Segment
  four : Value → Value → Value → Value → Segment
  five : Value → Value → Value → Value → Value → Segment

pub data Delimiter : Type 0 where
  comma : Delimiter
  semicolon : Delimiter

-- a delimiter, and the segment behind it
pub record Part : Type 0 where
  pub delimiter : Delimiter
  pub segment : Segment

-- a text: a segment, and then as often as there are delimiters a delimiter and a segment
pub record Text : Type 0 where
  pub first : Segment
  pub parts : List Part

-- ---- as characters

unfoldable pub spell_segment : Segment → List ℕ
spell_segment nothing = []
spell_segment (one a) = spell a.run
spell_segment (four a b c d) = spell a.run ++ (spell b.run ++ (spell c.run ++ spell d.run))
spell_segment (five a b c d e) = spell a.run ++ (spell b.run ++ (spell c.run ++ (spell d.run ++ spell e.run)))

abbrev pub character : Delimiter → ℕ
character comma = 44
character semicolon = 59

unfoldable pub spell_parts : List Part → List ℕ
spell_parts [] = []
spell_parts (p ∷ ps) = character p.delimiter ∷ (spell_segment p.segment ++ spell_parts ps)

abbrev pub spell_text : Text → List ℕ
spell_text t = spell_segment t.first ++ spell_parts t.parts

-- ---- as whole numbers

-- six numbers, of the running sums and of a token: the line counts, the others are whole
pub record Numbers : Type 0 where
  pub line : ℕ
  pub column : ℤ
  pub source_line : ℤ
  pub src_column : ℤ
  pub source : ℤ
  pub name : ℤ

abbrev pub numbers : ℕ → ℤ → ℤ → ℤ → ℤ → ℤ → Numbers
numbers line column source_line src_column source name =
    record { line = line; column = column; source_line = source_line; src_column = src_column; source = source; name = name }

abbrev pub begun : Numbers
begun = numbers 0 (pos 0) (pos 0) (pos 0) (pos 0) (pos 0)

-- each value is added to its sum
unfoldable pub added : Numbers → Segment → Numbers
added s nothing = s
added s (one a) = numbers s.line (s.column +ℤ a.number) s.source_line s.src_column s.source s.name
added s (four a b c d) =
    numbers s.line (s.column +ℤ a.number) (s.source_line +ℤ c.number) (s.src_column +ℤ d.number) (s.source +ℤ b.number) s.name
added s (five a b c d e) =
    numbers s.line (s.column +ℤ a.number) (s.source_line +ℤ c.number) (s.src_column +ℤ d.number) (s.source +ℤ b.number) (s.name +ℤ e.number)

-- a semicolon: the next line, from column 0
unfoldable pub delimited : Numbers → Delimiter → Numbers
delimited s comma = s
delimited s semicolon = numbers (s.line + 1) (pos 0) s.source_line s.src_column s.source s.name

-- the token that shows the sums with these ids
abbrev pub shown : Numbers → ℤ → ℤ → Numbers
shown s source name = numbers s.line s.column s.source_line s.src_column source name

-- the token of a segment whose values are added: nothing gives none; without a source, or without a name, the id is none
unfoldable pub token_of : Numbers → Segment → List Numbers
token_of s nothing = []
token_of s (one a) = shown s (pos no_id) (pos no_id) ∷ []
token_of s (four a b c d) = shown s s.source (pos no_id) ∷ []
token_of s (five a b c d e) = shown s s.source s.name ∷ []

unfoldable pub parts_tokens : Numbers → List Part → List Numbers
parts_tokens s [] = []
parts_tokens s (p ∷ ps) =
    token_of (added (delimited s p.delimiter) p.segment) p.segment ++ parts_tokens (added (delimited s p.delimiter) p.segment) ps

abbrev pub whole_tokens : Text → List Numbers
whole_tokens t = token_of (added begun t.first) t.first ++ parts_tokens (added begun t.first) t.parts
