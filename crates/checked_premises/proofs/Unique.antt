-- The contract of the test leaves one answer. Assumes nothing.
use mathlib.Core.Path.{◌≡◌, sym, ◌∙◌}
use mathlib.Core.Bool.{Bool}
use mathlib.Core.List.{List}
use Prim.Native.Nat.{ℕ}
use Rattle.checked_premises.specs.Checked.{DecidesChecked}

pub one_answer : (table : List ℕ) (sources names : ℕ) (a b : Bool) → DecidesChecked table sources names a → DecidesChecked table sources names b → a ≡ b
one_answer table sources names a b e f = e.says ∙ sym f.says
