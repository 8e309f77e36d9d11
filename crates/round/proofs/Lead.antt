-- The bytes before a token's fields take the decoder to the token's line, and end the segment before. Assumes nothing.
use mathlib.Core.Path.{◌≡◌, refl, ◌∙◌}
use mathlib.Core.Bool.{Bool, true, false}
use mathlib.Core.List.{List, [], ◌∷◌, ◌++◌}
use Prim.Native.Nat.{ℕ, zero, suc, ◌+◌, ◌-◌, ◌^◌, ◌≤◌, ◌<◌}
use native.Mathlib.Omega.{arith}
use native.Mathlib.Nat.{mod-eq_of_lt, add-zero}
use lib.Dec.{eqb}
use lib.ListN.{length, replicate, length-replicate}
use borrow.Author.Tests.{eqb-true, eqb-false}
use Rattle.list.specs.Pick.{pick}
use Rattle.digits.specs.Digits.{is_delim}
use Rattle.value.specs.declared.Mode.{Mode}
use Rattle.step.specs.Step.{step_from, Step}
use Rattle.chunk.specs.Chunk.{lead}
use Rattle.round.proofs.Fields.{Ends}
use Rattle.apply.specs.Apply.{state}

module _ (mode : Mode) (sources names source_line source_col source name : ℕ) where
  -- the steps from line, col and place on
  abbrev from : ℕ → ℕ → ℕ → List ℕ → Step
  from line col at l = step_from mode sources names (state line col source_line source_col source name at) l

  comma : (line col at : ℕ) (rest : List ℕ) → from line col at (44 ∷ rest) ≡ from line col (at + 1) rest
  unfolding step_from
  comma line col at rest = refl

  semi : (line col at : ℕ) (rest : List ℕ) → line + 1 < 2 ^ 32 → from line col at (59 ∷ rest) ≡ from (line + 1) 0 (at + 1) rest
  unfolding step_from
  semi line col at rest h = rw (mod-eq_of_lt h)

  semis : (k line col at : ℕ) (rest : List ℕ) → line + suc k < 2 ^ 32
      → from line col at (replicate (suc k) 59 ++ rest) ≡ from (line + suc k) 0 (at + suc k) rest
  semis zero line col at rest h = semi line col at rest h
  semis (suc k) line col at rest h =
      let a : line + 1 + suc k ≡ line + suc (suc k) = omega arith in
      let b : at + 1 + suc k ≡ at + suc (suc k) = omega arith in
      semi line col at (replicate (suc k) 59 ++ rest) (omega arith) ∙ semis k (line + 1) 0 (at + 1) rest (omega arith) ∙ rw (a, b)

  module _ (first : Bool) (line to col at : ℕ) (rest : List ℕ) (forth : line ≤ to) (wide : to < 2 ^ 32) where
    same_line : (f : Bool) → line ≡ to
        → from line col at (pick f [] (44 ∷ []) ++ rest) ≡ from to col (at + length {A = ℕ} (pick f [] (44 ∷ []))) rest
    same_line true e = rw (e, add-zero)
    same_line false e = rw e (comma to col at rest)

    later_line : (k : ℕ) → (line ≡ to → ⊥) → to - line ≡ k
        → from line col at (replicate k 59 ++ rest) ≡ from to 0 (at + length {A = ℕ} (replicate k 59)) rest
    later_line zero n z = absurd (n (omega arith))
    later_line (suc k) n z =
        let a : line + suc k ≡ to = omega arith in
        semis k line col at rest (omega arith) ∙ rw (a, length-replicate)

    led_by : (b : Bool) → eqb line to ≡ b
        → from line col at (pick b (pick first [] (44 ∷ [])) (replicate (to - line) 59) ++ rest)
        ≡ from to (pick b col 0) (at + length {A = ℕ} (pick b (pick first [] (44 ∷ [])) (replicate (to - line) 59))) rest
    led_by true e = same_line first (eqb-true line to e)
    led_by false e = later_line (to - line) (eqb-false line to e) refl

    pub led : from line col at (lead first line to ++ rest) ≡ from to (pick (eqb line to) col 0) (at + length (lead first line to)) rest
    unfolding lead
    led = led_by (eqb line to) refl

-- ---- a token that is not the first begins with a delimiter
ends_later : (k : ℕ) (rest : List ℕ) → 0 < k → Ends (replicate k 59 ++ rest)
unfolding is_delim
ends_later zero rest h = absurd (omega arith)
ends_later (suc k) rest h = refl

ends_by : (b : Bool) (line to : ℕ) (rest : List ℕ) → eqb line to ≡ b → line ≤ to → Ends (pick b (44 ∷ []) (replicate (to - line) 59) ++ rest)
unfolding is_delim
ends_by true line to rest e h = refl
ends_by false line to rest e h = let n = eqb-false line to e in ends_later (to - line) rest (omega arith)

pub lead_ends : (line to : ℕ) (rest : List ℕ) → line ≤ to → Ends (lead false line to ++ rest)
unfolding lead
lead_ends line to rest h = ends_by (eqb line to) line to rest refl h
