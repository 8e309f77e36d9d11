-- docs/RULES.md, Demands: what demand 3 asks of the values in checked mode, as a test that computes, and both premises together.
-- Assumes nothing.
use Rattle.std.specs.Prelude.{◌≡◌, Bool, true, not, List, [], ◌∷◌, ℕ}
use Rattle.list.specs.Pick.{both}
use Rattle.token.specs.Table.{tokens_of}
use Rattle.token.specs.declared.Token.{Token}
use Rattle.token.specs.declared.TokenChunk.{TokenChunk}
use Rattle.value.specs.Standard.{too_wide}
use Rattle.value.specs.declared.Mode.{Mode}
use Rattle.value.specs.declared.Mode.TheVariants.{Lenient, Checked}
use Rattle.chunk.specs.Chunk.{fresh, fields_of, after}
use Rattle.premises.specs.Premises.{decides, SoundTable}

-- the mode takes a value that is written for what it is: lenient mode every one, checked mode those within the standard's limit
unfoldable pub takes : Mode → ℕ → Bool
takes Lenient n = true
takes Checked n = not (too_wide n)

unfoldable pub takes_each : Mode → List ℕ → Bool
takes_each mode [] = true
takes_each mode (v ∷ vs) = both (takes mode v) (takes_each mode vs)

-- and every value of the tokens after a state
unfoldable pub takes_from : Mode → TokenChunk → List Token → Bool
takes_from mode p [] = true
takes_from mode p (t ∷ ts) = both (takes_each mode (fields_of p t)) (takes_from mode (after p t) ts)

abbrev pub takes_all : Mode → List Token → Bool
takes_all mode ts = takes_from mode (fresh 0 0) ts

-- the test's answer: the premises of demand 3, and the one on values
unfoldable pub decides_checked : List ℕ → ℕ → ℕ → Bool
decides_checked table sources names = both (decides table sources names) (takes_all Checked (tokens_of table))

-- the test's answer, and what a yes is good for
pub record DecidesChecked (table : List ℕ) (sources names : ℕ) (r : Bool) : Type 0 where
  pub says : r ≡ decides_checked table sources names
  pub sound : r ≡ true → SoundTable sources names table
  pub taken : r ≡ true → takes_all Checked (tokens_of table) ≡ true
