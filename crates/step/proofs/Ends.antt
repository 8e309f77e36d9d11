-- Where a step that gives a token ends: at a delimiter, or at the end of the text. Assumes nothing.
use Rattle.std.specs.Prelude.{Some, None, Ok, Err}
use mathlib.Core.Path.{◌≡◌, refl, sym, subst}
use mathlib.Core.Bool.{Bool, true, false}
use mathlib.Core.List.{List, [], ◌∷◌}
use Prim.Native.Nat.{ℕ, suc, ◌+◌, ◌-◌, ◌≤◌}
use native.Mathlib.Omega.{arith}
use lib.Dec.{eqb}
use lib.ListN.{drop}
use lib.Seq.{drop-cons, drop-drop}
use Rattle.list.specs.Pick.{pick}
use Rattle.token.specs.declared.Token.{Token}
use Rattle.value.specs.declared.Mode.{Mode}
use Rattle.segment.specs.Segment.{Fields, whole, leftover, overflow, starts, fields_from, gathered}
use Rattle.segment.proofs.Border.{Border, Ends, ends}
use Rattle.apply.specs.Apply.{applied, Applied}
use Rattle.apply.specs.declared.State.{State}
use Rattle.apply.proofs.Lands.{Lands, lands}
use Rattle.step.specs.Step.{commaed, lined, stepped, segment_step, step_from, step_at, Step}
use Rattle.step.specs.Ways.{Closes}

module _ (mode : Mode) (sources names : ℕ) where
  -- the bytes stand at the state's place
  abbrev At : State → List ℕ → Step → Type 0
  At s bs (Ok (Some (t, begin, s'))) = (s.at ≤ s'.at) × Border (drop (s'.at - s.at) bs)
  At s bs (Err r) = Unit {0}
  At s bs (Ok None) = Unit {0}

  later : (s s₁ : State) (b : ℕ) (bs : List ℕ) (r : Step) → s₁.at ≡ s.at + 1 → At s₁ bs r → At s (b ∷ bs) r
  later s s₁ b bs (Ok (Some (t, begin, s'))) e h =
      let n : s'.at - s.at ≡ suc (s'.at - s₁.at) = omega (arith, h.0) in
      (omega (arith, h.0), rw n h.1)
  later s s₁ b bs (Err r) e h = tt
  later s s₁ b bs (Ok None) e h = tt

  segment_here : (s : State) (bs : List ℕ) (f : Fields) → fields_from mode 0 s.at bs ≡ f → At s bs (segment_step mode sources names s f)
  unfolding segment_step
  segment_here s bs (leftover place) e = tt
  segment_here s bs (overflow place) e = tt
  segment_here s bs (whole fs next) e =
      by (applied mode sources names s (gathered fs next)) (lands mode sources names (gathered fs next) s)
    where
      border : Ends s.at bs (whole fs next)
      border = subst (Ends s.at bs) e (ends mode 0 s.at bs)

      by : (a : Applied) → Lands next a → At s bs (stepped s.at (starts fs) a)
      by (Ok (t, s')) l = rw l border
      by (Err r) l = tt

  everywhere : (s : State) (bs : List ℕ) → At s bs (step_from mode sources names s bs)
  unfolding step_from
  everywhere s [] = tt
  everywhere s (b ∷ bs) = by (eqb b 44) (eqb b 59) (everywhere (commaed s) bs) (everywhere (lined s) bs)
    where
      by : (x y : Bool) → At (commaed s) bs (step_from mode sources names (commaed s) bs) → At (lined s) bs (step_from mode sources names (lined s) bs)
          → At s (b ∷ bs)
          (pick x (step_from mode sources names (commaed s) bs)
          (pick y (step_from mode sources names (lined s) bs)
          (segment_step mode sources names s (fields_from mode 0 s.at (b ∷ bs)))))
      by true y u v = later s (commaed s) b bs (step_from mode sources names (commaed s) bs) refl u
      by false true u v = later s (lined s) b bs (step_from mode sources names (lined s) bs) refl v
      by false false u v = segment_here s (b ∷ bs) (fields_from mode 0 s.at (b ∷ bs)) refl

  pub closes : (text : List ℕ) (s : State) (t : Token) (begin : ℕ) (s' : State) → Ok (Some (t, begin, s')) ≡ step_at mode sources names text s → Closes text s'
  closes text s t begin s' e l =
      let h : At s (drop s.at text) (Ok (Some (t, begin, s'))) = subst (At s (drop s.at text)) (sym e) (everywhere s (drop s.at text)) in
      let n : s.at + (s'.at - s.at) ≡ s'.at = omega (arith, h.0) in
      let b : Border (drop s'.at text) = rw (drop-drop (s'.at - s.at) s.at text, n) at h.1 in
      rw (drop-cons text s'.at 0 l) at b
