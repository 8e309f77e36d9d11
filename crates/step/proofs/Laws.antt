-- A segment in general, and the loop over delimiters, on the definitions alone. Assumes nothing.
use Rattle.std.specs.Prelude.{None, Ok, Err}
use mathlib.Core.Path.{◌≡◌, refl, sym, ◌∙◌, ap, subst}
use mathlib.Core.Bool.{Bool, true, false}
use mathlib.Core.List.{List, [], ◌∷◌}
use Prim.Native.Nat.{ℕ, zero, suc, ◌+◌, ◌-◌, ◌<◌, ◌≤◌}
use native.Mathlib.Numerals.{add-one}
use native.Mathlib.Omega.{arith}
use lib.Dec.{T, eqb}
use lib.ListN.{length, drop, get_or, drop_of_length-le}
use lib.Seq.{drop-cons}
use borrow.Author.Tests.{ne_eqb, eqb-true}
use Rattle.list.specs.Pick.{pick}
use Rattle.digits.specs.Digits.{is_delim}
use Rattle.value.specs.declared.Mode.{Mode}
use Rattle.segment.specs.Segment.{Field, Fields, whole, leftover, overflow, starts, fields_from, segment_of, segment_at, gathered}
use Rattle.segment.specs.Fields.{place_from}
use Rattle.segment.specs.declared.Segment.{Segment}
use Rattle.segment.proofs.Range.{nums_small}
use Rattle.segment.proofs.Places.{own}
use Rattle.apply.specs.Apply.{applied, Applied}
use Rattle.apply.specs.Small.{Small}
use Rattle.apply.specs.declared.State.{State}
use Rattle.apply.specs.declared.About.{About}
use Rattle.apply.proofs.Points.{Pointed, Points, points}
use Rattle.segment.proofs.TooWide.{wide_has}
use Rattle.step.specs.Step.{commaed, lined, offset_of, stepped, segment_step, step_from, step_at, refused, Step}
use Rattle.step.specs.Ways.{told, segmented_at, offset_in, stepped_in, taken, taken_at, Passed}

-- ---- where the fault of a whole segment lies: the place that is looked for is the field's own
module _ (mode : Mode) (text : List ℕ) (begin next : ℕ) (fs : List Field) (e : fields_from mode 0 begin (drop begin text) ≡ whole fs next) where
  place_by : (field : ℕ) → (0 < field → field < length fs) → (fs' : List Field) → fs ≡ fs' → place_from field begin (drop begin text) ≡ get_or (starts fs) field begin
  unfolding place_from
  place_by zero h [] q = rw q
  place_by zero h (f ∷ gs) q = own mode 0 begin (drop begin text) fs next begin e (omega (arith, ap length q))
  place_by (suc field) h fs' q = own mode (suc field) begin (drop begin text) fs next begin e (h (omega arith))

  place_is : (about : About) → Pointed (length fs) about → offset_in text begin about ≡ offset_of begin (starts fs) about
  unfolding offset_of
  place_is About.Whole p = refl
  place_is (About.Field field) p = place_by field p fs refl
  place_is (About.Place place) p = absurd p

  pub step_is : (a : Applied) → Points (length fs) a → stepped_in text begin a ≡ stepped begin (starts fs) a
  step_is (Ok (t, s)) p = refl
  step_is (Err r) p = ap (λ (o : ℕ). Err (refused r.code o)) (place_is r.about p)

zero_one : {A : Type 0} → ◌≡◌ {A = ℕ} 0 1 → A
zero_one z = absurd (omega arith)

-- ---- a segment: read and taken, it is the definition's
pub small : (mode : Mode) (text : List ℕ) (st : State) (g : Segment) → segment_at mode text st.at ≡ Ok g → Small g
small mode text st g e = record { small = nums_small mode text st.at g e }

module _ (mode : Mode) (sources names : ℕ) (text : List ℕ) (st : State) where
  by_fields : (f : Fields) → fields_from mode 0 st.at (drop st.at text) ≡ f
      → stepped_in text st.at (taken mode sources names st (segment_of f)) ≡ segment_step mode sources names st f
  unfolding segment_step offset_of
  by_fields (whole fs next) q =
      step_is mode text st.at next fs q (applied mode sources names st (gathered fs next))
      (points mode sources names (gathered fs next) (λ m e. omega (arith, (wide_has fs 0 m e).1)) st)
  by_fields (leftover place) q = refl
  by_fields (overflow place) q = refl

  pub general : told (stepped_in text st.at (taken_at mode sources names text st)) ≡ told (segmented_at mode sources names text st)
  unfolding segment_at
  general = ap told (by_fields (fields_from mode 0 st.at (drop st.at text)) refl)

-- ---- the two delimiters
yes_no : false ≡ true → ⊥
yes_no e = subst T (sym e) tt

neither_by : (t u : Bool) → pick t true u ≡ false → (t ≡ false) × (u ≡ false)
neither_by true u q = absurd (yes_no (sym q))
neither_by false u q = (refl, q)

neither : (b : ℕ) → is_delim b ≡ false → (eqb b 44 ≡ false) × (eqb b 59 ≡ false)
unfolding is_delim
neither b q = neither_by (eqb b 44) (eqb b 59) q

not_both : (b : ℕ) → eqb b 44 ≡ true → eqb b 59 ≡ true → ⊥
not_both b p q = let x = eqb-true b 44 p in let y = eqb-true b 59 q in omega arith

-- both delimiters are below 60
pub above : (b : ℕ) → 60 ≤ b → false ≡ is_delim b
unfolding is_delim
above b h = sym (rw (ne_eqb b 44 (λ e. omega arith), ne_eqb b 59 (λ e. omega arith)))

-- ---- the loop: what is left from st on is what was left at the start
pub record Coming (text : List ℕ) (from st : State) : Type 0 where
  pub is : (mode : Mode) (sources names : ℕ) → step_at mode sources names text from ≡ step_at mode sources names text st

pub begins : (text : List ℕ) (from : State) → Coming text from from
begins text from = record { is = λ mode sources names. refl }

pub over : (mode : Mode) (sources names : ℕ) (text : List ℕ) (st : State) → length text ≤ st.at → Ok None ≡ told (step_at mode sources names text st)
unfolding step_from
over mode sources names text st h = sym (rw (drop_of_length-le text h))

pub ends : (text : List ℕ) (from st : State) → Coming text from st → length text ≤ st.at → Passed text from st
ends text from st c h = record { same = c.is; opens = λ l. absurd (omega arith) }

pub stands : (text : List ℕ) (from st : State) → Coming text from st → (b : ℕ) → b ≡ get_or text st.at 0 → is_delim b ≡ false → Passed text from st
stands text from st c b eb d = record { same = c.is; opens = λ h. rw (← eb) d }

-- b is the byte at the place
module _ (text : List ℕ) (st : State) (h : st.at < length text) (b : ℕ) (eb : b ≡ get_or text st.at 0) where
  headed : drop st.at text ≡ b ∷ drop (st.at + 1) text
  headed = rw (eb, add-one st.at) (drop-cons text st.at 0 h)

  pub segment_here : is_delim b ≡ false → (mode : Mode) (sources names : ℕ) (r : Step) → r ≡ told (segmented_at mode sources names text st)
      → r ≡ told (step_at mode sources names text st)
  unfolding step_from segment_at
  segment_here l mode sources names r er =
      let n = neither b l in
      er ∙ ap told (sym (stands_at n.0 n.1))
    where
      stands_at : eqb b 44 ≡ false → eqb b 59 ≡ false → step_at mode sources names text st ≡ segmented_at mode sources names text st
      stands_at p q = rw (headed, p, q)

  crossed_by : (t u : Bool) → eqb b 44 ≡ t → eqb b 59 ≡ u → pick t true u ≡ true → (r : State) → r ≡ pick u (lined st) (commaed st)
      → (mode : Mode) (sources names : ℕ) → step_at mode sources names text st ≡ step_at mode sources names text r
  unfolding step_from
  crossed_by true true p q w r er mode sources names = absurd (not_both b p q)
  crossed_by true false p q w r er mode sources names = rw (headed, p, er)
  crossed_by false true p q w r er mode sources names = rw (headed, p, q, er)
  crossed_by false false p q w r er mode sources names = absurd (yes_no w)

  pub crosses : is_delim b ≡ true → (r : State) → r ≡ pick (eqb b 59) (lined st) (commaed st) → Coming text st r
  unfolding is_delim
  crosses l r er = record { is = crossed_by (eqb b 44) (eqb b 59) refl refl l r er }

  pub less : (r : State) → r ≡ pick (eqb b 59) (lined st) (commaed st) → length text - r.at < length text - st.at
  less r er = omega (arith, moved_on (eqb b 59) r er)
    where
      moved_on : (t : Bool) (r : State) → r ≡ pick t (lined st) (commaed st) → r.at ≡ st.at + 1
      moved_on true r q = rw q
      moved_on false r q = rw q

-- one after the other
pub on : (text : List ℕ) (from st r : State) → Coming text from st → Coming text st r → Coming text from r
on text from st r c d = record { is = λ mode sources names. c.is mode sources names ∙ d.is mode sources names }

pub passed_on : (text : List ℕ) (from st r : State) → Coming text from st → Passed text st r → Passed text from r
passed_on text from st r c p = record { same = λ mode sources names. c.is mode sources names ∙ p.same mode sources names; opens = p.opens }
