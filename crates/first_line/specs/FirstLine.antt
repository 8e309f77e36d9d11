-- docs/RULES.md, dumpmap: the first line of an input. Assumes nothing.
use Rattle.std.specs.Prelude.{◌≡◌, List, [], ◌∷◌, ◌++◌, ℕ, ◌≤◌, length, Option, Some, None}
use Rattle.decimal.specs.Decimal.{Figures, decimal}
use Rattle.first_line.specs.declared.FirstLine.{FirstLine}

-- a decimal count: 1 to 10 figures, at most 4,294,967,295
pub record Count (ds : List ℕ) (n : ℕ) : Type 0 where
  pub figures : Figures ds
  pub some : 1 ≤ length ds
  pub few : length ds ≤ 10
  pub value : decimal ds ≡ n
  pub fits : n ≤ 4294967295

-- two counts, one space between, a newline
abbrev pub counts_line : List ℕ → List ℕ → List ℕ
counts_line ds es = ds ++ (32 ∷ (es ++ (10 ∷ [])))

-- the input begins with such a line, and the rest, which is the text, begins at `at`
pub record Stated (input : List ℕ) (sources names at : ℕ) : Type 0 where
  pub ds : List ℕ
  pub es : List ℕ
  pub rest : List ℕ
  pub whole : input ≡ counts_line ds es ++ rest
  pub first : Count ds sources
  pub second : Count es names
  pub begins : at ≡ length (counts_line ds es)

-- what each answer says of the input
abbrev pub Reads : List ℕ → Option FirstLine → Type 0
Reads input (Some l) = Stated input l.sources l.names l.text
Reads input None = (sources names at : ℕ) → Stated input sources names at → ⊥
