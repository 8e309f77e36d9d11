-- A table with a place for each segment is never full. Assumes nothing.
use Rattle.std.specs.Prelude.{Some, None, Result, Ok, Err, ⊤}
use Rattle.code.specs.declared.Code.{Code}
use mathlib.Core.Path.{◌≡◌, refl, sym, ◌∙◌, subst}
use mathlib.Core.Bool.{Bool, true, false}
use mathlib.Core.List.{List, [], ◌∷◌}
use Prim.Native.Nat.{ℕ, zero, suc, ◌+◌, ◌-◌, ◌*◌, ◌^◌, ◌<◌, ◌≤◌}
use native.Mathlib.Omega.{arith}
use lib.Dec.{T, eqb, ltb}
use lib.ListN.{length, drop}
use lib.Seq.{drop-drop}
use Rattle.list.specs.Pick.{pick}
use Rattle.token.specs.Table.{width, places}
use Rattle.token.specs.declared.Token.{Token}
use Rattle.digits.specs.Digits.{is_delim}
use Rattle.value.specs.declared.Mode.{Mode}
use Rattle.segment.specs.Segment.{Fields, whole, leftover, overflow, starts, fields_from, gathered}
use Rattle.segment.proofs.Border.{Border, Ends, ends}
use Rattle.apply.specs.declared.State.{State}
use Rattle.apply.specs.Apply.{applied, Applied}
use Rattle.apply.proofs.Lands.{Plain, Lands, lands}
use Rattle.step.specs.Step.{start, commaed, lined, stepped, segment_step, step_from, step_at, Step}
use Rattle.decode.specs.Mapping.{Out, run, decoded}
use Rattle.decode.proofs.Runs.{run_by}
use Rattle.table_size.specs.Size.{segments_from, table_size, NeverFull}

-- ---- segments
-- what stands before makes one segment fewer at the most
inside_less : (bs : List ℕ) → segments_from true bs ≤ segments_from false bs
unfolding segments_from
inside_less [] = omega arith
inside_less (b ∷ bs) = by (is_delim b)
  where
    by : (t : Bool) → pick t (segments_from false bs) (segments_from true bs) ≤ pick t (segments_from false bs) (suc (segments_from true bs))
    by true = omega arith
    by false = omega arith

drop_less : (k : ℕ) (bs : List ℕ) → segments_from true (drop k bs) ≤ segments_from true bs
unfolding segments_from
drop_less zero bs = omega arith
drop_less (suc k) [] = omega arith
drop_less (suc k) (b ∷ bs) = by (is_delim b) (drop_less k bs)
  where
    by : (t : Bool) → segments_from true (drop k bs) ≤ segments_from true bs → segments_from true (drop k bs) ≤ pick t (segments_from false bs) (segments_from true bs)
    by true h = omega (arith, inside_less bs)
    by false h = h

-- at a border it plays no part
border_same : (bs : List ℕ) → Border bs → segments_from false bs ≡ segments_from true bs
unfolding segments_from
border_same [] h = refl
border_same (b ∷ bs) h = rw h

yes_no : {A : Type 0} → true ≡ false → A
yes_no e = absurd (subst T e tt)

-- a byte that is no delimiter begins one
begins_one : (b : ℕ) (bs : List ℕ) → is_delim b ≡ false → segments_from false (b ∷ bs) ≡ suc (segments_from true bs)
unfolding segments_from
begins_one b bs d = rw d

-- past a segment there is one fewer
past : (at next b : ℕ) (bs : List ℕ) → is_delim b ≡ false → at ≤ next → Border (drop (next - at) (b ∷ bs))
    → (at < next) × (segments_from false (drop (next - at) (b ∷ bs)) < segments_from false (b ∷ bs))
past at next b bs d l h = by (next - at) refl h
  where
    by : (k : ℕ) → next - at ≡ k → Border (drop k (b ∷ bs)) → (at < next) × (segments_from false (drop (next - at) (b ∷ bs)) < segments_from false (b ∷ bs))
    by zero e w = yes_no (sym w ∙ d)
    by (suc k) e w = (omega (arith, e), rw (e, begins_one b bs d, border_same (drop k bs) w) (omega (arith, drop_less k bs)))

-- the end is not that the table is full
abbrev Unfilled : Result ⊤ Code → Type 0
Unfilled (Ok done) = Unit {0}
Unfilled (Err code) = Plain code

-- ---- a step that gives a token
module _ (mode : Mode) (sources names : ℕ) where
  -- the bytes stand at the state's place: there are fewer segments behind a token, and a refusal does not speak of the table
  abbrev Fewer : State → List ℕ → Step → Type 0
  Fewer s bs (Ok (Some (t, begin, s'))) = (s.at < s'.at) × (segments_from false (drop (s'.at - s.at) bs) < segments_from false bs)
  Fewer s bs (Err r) = Plain r.code
  Fewer s bs (Ok None) = Unit {0}

  later : (s s₁ : State) (b : ℕ) (bs : List ℕ) (r : Step) → s₁.at ≡ s.at + 1 → is_delim b ≡ true → Fewer s₁ bs r → Fewer s (b ∷ bs) r
  unfolding segments_from
  later s s₁ b bs (Ok (Some (t, begin, s'))) e d h =
      let n : s'.at - s.at ≡ suc (s'.at - s₁.at) = omega (arith, h.0) in
      (omega (arith, h.0), rw (n, d) h.1)
  later s s₁ b bs (Err r) e d h = h
  later s s₁ b bs (Ok None) e d h = tt

  step_fewer : (s : State) (b : ℕ) (bs : List ℕ) → is_delim b ≡ false → (f : Fields) → fields_from mode 0 s.at (b ∷ bs) ≡ f
      → Fewer s (b ∷ bs) (segment_step mode sources names s f)
  unfolding segment_step
  step_fewer s b bs d (leftover place) e = λ q. omega arith
  step_fewer s b bs d (overflow place) e = λ q. omega arith
  step_fewer s b bs d (whole fs next) e =
      by (applied mode sources names s (gathered fs next)) (lands mode sources names (gathered fs next) s)
    where
      border : Ends s.at (b ∷ bs) (whole fs next)
      border = subst (Ends s.at (b ∷ bs)) e (ends mode 0 s.at (b ∷ bs))

      by : (a : Applied) → Lands next a → Fewer s (b ∷ bs) (stepped s.at (starts fs) a)
      by (Ok (t, s')) l = rw l (past s.at next b bs d border.0 border.1)
      by (Err r) l = l

  fewer : (s : State) (bs : List ℕ) → Fewer s bs (step_from mode sources names s bs)
  unfolding step_from is_delim
  fewer s [] = tt
  fewer s (b ∷ bs) = by (eqb b 44) (eqb b 59) refl refl (fewer (commaed s) bs) (fewer (lined s) bs)
    where
      by : (x y : Bool) → eqb b 44 ≡ x → eqb b 59 ≡ y → Fewer (commaed s) bs (step_from mode sources names (commaed s) bs)
          → Fewer (lined s) bs (step_from mode sources names (lined s) bs)
          → Fewer s (b ∷ bs)
          (pick x (step_from mode sources names (commaed s) bs)
          (pick y (step_from mode sources names (lined s) bs)
          (segment_step mode sources names s (fields_from mode 0 s.at (b ∷ bs)))))
      by true y p q u v = later s (commaed s) b bs (step_from mode sources names (commaed s) bs) refl (rw p) u
      by false true p q u v = later s (lined s) b bs (step_from mode sources names (lined s) bs) refl (rw (p, q)) v
      by false false p q u v = step_fewer s b bs (rw (p, q)) (fields_from mode 0 s.at (b ∷ bs)) refl

  -- ---- the whole text
  module _ (text : List ℕ) where
    -- a step of the text leaves fewer segments
    puts : (s : State) (t : Token) (begin : ℕ) (s' : State) → step_at mode sources names text s ≡ Ok (Some (t, begin, s'))
        → segments_from false (drop s'.at text) < segments_from false (drop s.at text)
    puts s t begin s' e =
        let h : Fewer s (drop s.at text) (Ok (Some (t, begin, s'))) = subst (Fewer s (drop s.at text)) e (fewer s (drop s.at text)) in
        let n : s.at + (s'.at - s.at) ≡ s'.at = omega (arith, h.0) in
        rw (drop-drop (s'.at - s.at) s.at text, n) at h.1

    abbrev NotFull : ℕ → ℕ → State → Out → Type 0
    NotFull index left s o = segments_from false (drop s.at text) ≤ left → Unfilled o.end

    never_full : (index left : ℕ) (s : State) → NotFull index left s (run mode sources names text index left s)
    never_full =
        run_by mode sources names text NotFull
        (λ index left s e h. tt)
        (λ index left s code offset e h. subst (Fewer s (drop s.at text)) e (fewer s (drop s.at text)))
        (λ index left s t begin s' e l h. λ q. omega arith)
        (λ index s t begin s' e l h. absurd (omega (arith, puts s t begin s' e)))
        (λ index left s t begin s' o e l ih h. ih (omega (arith, puts s t begin s' e)))

    pub enough : (room : ℕ) → segments_from false text ≤ room → Unfilled (decoded mode sources names text room).end
    enough room h = never_full 0 room start h

-- the size in numbers
size_by : (t : Bool) (n m l : ℕ) → ltb m n ≡ t → pick t m n ≤ l → l < m → n ≤ l
size_by true n m l e h k = absurd (omega arith)
size_by false n m l e h k = h

pub never : NeverFull
unfolding table_size
never mode sources names text table d table' h k w =
    let n : width * segments_from false text ≤ length table = size_by (ltb (2 ^ 64 - 1) (width * segments_from false text)) _ (2 ^ 64 - 1) (length table) refl h (omega arith) in
    let e : Unfilled d.end = rw w.says (enough mode sources names text (places (length table)) (omega arith)) in
    λ q. subst Unfilled q e refl
