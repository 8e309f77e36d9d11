-- A value of a segment, as the code hands it on, and the steps of a segment one after the other. Assumes nothing.
use mathlib.Core.Path.{◌≡◌, sym, subst}
use Prim.Native.Nat.{ℕ, ◌≤◌, ◌^◌}
use lib.IntN.{nat_abs}
use mir.Syntax.{w64}
use mir.Val.{to_z, of_z}
use mir.Facts.{to_z-of_z}
use borrow.Author.Tests.{eq-eqb}
use Rattle.value.proofs.Range.{small_fits}
use Rattle.std.specs.Prelude.{Option, None, Result, Ok, Err}
use Rattle.code.specs.declared.Code.{Code}
use Rattle.token.specs.Table.{no_id}
use Rattle.token.specs.declared.Token.{Token}
use Rattle.value.specs.declared.Mode.{Mode}
use Rattle.segment.specs.declared.Segment.{Segment}
use Rattle.apply.specs.declared.State.{State}
use Rattle.apply.specs.declared.About.{About}
use Rattle.apply.specs.Apply.{Applied, num, refusal, columned, shown, onward, counted, unless_wide, applied}
use Rattle.apply.specs.Small.{Small}

module _ (g : Segment) (p : Small g) (field : ℕ) where
  pub held : to_z w64 (of_z w64 (num field g)) ≡ num field g
  held = to_z-of_z (small_fits (num field g) (p.small field))

  pub few : nat_abs (to_z w64 (of_z w64 (num field g))) ≤ 2 ^ 62
  few = rw held (p.small field)

-- ---- one step after the other: e is what the step's function said
module _ (mode : Mode) (sources names : ℕ) (s : State) (g : Segment) where
  pub count_one : g.count ≡ 1 → (t : Token) → t ≡ shown s no_id no_id → Ok (t, s) ≡ counted mode sources names s g
  unfolding counted
  count_one n t et = rw (eq-eqb g.count 1 n, et)

  pub took_column : g.wide ≡ None → (r : State) (a : Applied) → Ok r ≡ columned mode s g → a ≡ counted mode sources names r g → a ≡ applied mode sources names s g
  unfolding applied
  took_column w r a e f = subst (λ x. a ≡ unless_wide x (onward (columned mode s g) (λ q. counted mode sources names q g))) (sym w) (rw (← e) f)

  pub no_column : g.wide ≡ None → (code : Code) (about : About) → Err (refusal code about) ≡ columned mode s g → Err (refusal code about) ≡ applied mode sources names s g
  unfolding applied
  no_column w code about e =
      subst (λ x. Err (refusal code about) ≡ unless_wide x (onward (columned mode s g) (λ q. counted mode sources names q g))) (sym w) (rw (← e))
