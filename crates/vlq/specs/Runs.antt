-- docs/RULES.md, Values: a run of ECMA-426's digits in a text, and that checked mode reads it as the standard does, said; proofs/Runs.antt
-- proves it. Assumes nothing.
use Rattle.std.specs.Prelude.{◌≡◌, true, List, [], ◌∷◌, ◌++◌, ℕ, ◌+◌, ◌/◌, ◌%◌, ◌^◌, ◌≤◌, length, Some, Ok}
use Rattle.digits.specs.Digits.{char_of}
use Rattle.value.specs.Standard.{Run, terminal, goes_on, is_run, unsigned, signed}
use Rattle.value.specs.Value.{value_of}
use Rattle.value.specs.declared.Mode.{Mode}
use Rattle.vlq.specs.Vlq.{vlq_of}

-- its characters
unfoldable pub spell : Run → List ℕ
spell (terminal d) = char_of d ∷ []
spell (goes_on d r) = char_of d ∷ spell r

-- what stands at the place `at` is the run's number, and its value in checked mode is the standard's
pub record Reads (r : Run) (rest : List ℕ) (at : ℕ) : Type 0 where
  pub number : vlq_of at (spell r ++ rest) ≡ Ok (Some (unsigned r % 2 ^ 64, unsigned r / 2 ^ 64, at + length (spell r)))
  pub value : value_of Mode.Checked (unsigned r % 2 ^ 64) (unsigned r / 2 ^ 64) ≡ signed (unsigned r)

-- so it is of every run of up to 13 digits
abbrev pub ByTheStandard : Type 0
ByTheStandard = (r : Run) (rest : List ℕ) (at : ℕ) → is_run r ≡ true → length (spell r) ≤ 13 → Reads r rest at
