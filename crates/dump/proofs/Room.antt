-- A decode writes no more tokens than the table has places for. Assumes nothing.
use mathlib.Core.Path.{◌≡◌, ap, ◌∙◌}
use mathlib.Core.List.{List}
use Prim.Native.Nat.{ℕ, ◌≤◌}
use native.Mathlib.Omega.{arith}
use lib.ListN.{length}
use Rattle.token.specs.Table.{places}
use Rattle.token.proofs.Laws.{length_over}
use Rattle.value.specs.declared.Mode.{Mode}
use Rattle.apply.specs.declared.State.{State}
use Rattle.step.specs.Step.{start}
use Rattle.decode.specs.Mapping.{run, decoded, Decodes}
use Rattle.decode.proofs.Runs.{run_by}
use Rattle.decode.specs.declared.Decoded.{Decoded}

module _ (mode : Mode) (sources names : ℕ) (text : List ℕ) where
  run_few : (index left : ℕ) (s : State) → length (run mode sources names text index left s).tokens ≤ left
  run_few =
      run_by mode sources names text (λ index left s o. length o.tokens ≤ left)
      (λ index left s e. omega arith)
      (λ index left s code offset e. omega arith)
      (λ index left s t begin s' e l. omega arith)
      (λ index s t begin s' e l. omega arith)
      (λ index left s t begin s' o e l h. omega (arith, h))

  module _ (table : List ℕ) (r : Decoded) (table' : List ℕ) (d : Decodes mode sources names text table r table') where
    pub same_room : length table' ≡ length table
    same_room = ap length d.wrote ∙ length_over (decoded mode sources names text (places (length table))).tokens table (run_few 0 (places (length table)) start)

    pub written_fit : r.tokens ≤ places (length table')
    written_fit = rw same_room (omega (arith, ap (λ (q : Decoded). q.tokens) d.says, run_few 0 (places (length table)) start))
