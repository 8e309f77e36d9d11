-- docs/RULES.md, dumpmap: what is printed for an input. Assumes nothing.
use Rattle.std.specs.Prelude.{◌≡◌, List, ◌++◌, ℕ, ◌≤◌, ltb, length, drop, Option, Some, None}
use Rattle.list.specs.Memory.{onto}
use Rattle.list.specs.Pick.{pick}
use Rattle.value.specs.declared.Mode.{Mode}
use Rattle.decode.specs.Mapping.{Out, decoded}
use Rattle.first_line.specs.Reading.{first_line}
use Rattle.first_line.specs.declared.FirstLine.{FirstLine}
use Rattle.lines.specs.Lines.{token_lines, count_line, end_line, input_line}

-- how many tokens, one line a token, and how it ended
unfoldable pub report : Out → List ℕ
report o = count_line (length o.tokens) ++ (token_lines o.tokens ++ end_line o.end o.offset)

-- the rest after the first line is the text; room for 1,024 tokens, lenient; a bad first line prints `input`
abbrev pub rendered_by : List ℕ → Option FirstLine → List ℕ
rendered_by input (Some line) = report (decoded Mode.Lenient line.sources line.names (drop line.text input) 1024)
rendered_by input None = input_line

-- at most 16,384 bytes: a longer input prints `input`
unfoldable pub rendered : List ℕ → List ℕ
rendered input = pick (ltb 16384 (length input)) input_line (rendered_by input (first_line input))

-- the count, and what the lent bytes hold then: what is printed, of which nothing is cut off, and past it what they held before
pub record Renders (input out : List ℕ) (r : ℕ) (out' : List ℕ) : Type 0 where
  pub says : r ≡ length (rendered input)
  pub wrote : out' ≡ onto (rendered input) out
  pub whole : length (rendered input) ≤ length out
