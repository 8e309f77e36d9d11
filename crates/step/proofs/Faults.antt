-- Where a step lies: past delimiters a segment begins, and a fault of it lies in it or right behind it. And what stands behind a
-- segment plays no part in its step. Assumes nothing.
use Rattle.std.specs.Prelude.{Some, None, Ok, Err}
use mathlib.Core.Path.{◌≡◌, refl, sym, ◌∙◌, ap, subst}
use mathlib.Core.Bool.{Bool, true, false}
use mathlib.Core.List.{List, [], ◌∷◌}
use Prim.Native.Nat.{ℕ, zero, suc, ◌+◌, ◌-◌, ◌<◌, ◌≤◌}
use native.Mathlib.Omega.{arith}
use lib.Dec.{T, eqb}
use lib.ListN.{length, take, drop, get_or}
use Rattle.list.specs.Pick.{pick}
use Rattle.digits.specs.Digits.{is_delim}
use Rattle.token.specs.declared.Token.{Token}
use Rattle.value.specs.declared.Mode.{Mode}
use Rattle.segment.specs.Segment.{Field, Fields, whole, leftover, overflow, starts, fields_from, gathered}
use Rattle.segment.proofs.Border.{Border, Ends, ends}
use Rattle.segment.proofs.Within.{Each, Clear, Between, Lies, lies, fewer_clear, fields_take}
use Rattle.apply.specs.Apply.{applied, Applied}
use Rattle.apply.specs.declared.State.{State}
use Rattle.apply.specs.declared.About.{About}
use Rattle.apply.proofs.Lands.{Lands, lands}
use Rattle.apply.proofs.Points.{Pointed, Points, points}
use Rattle.segment.proofs.TooWide.{wide_has}
use Rattle.step.specs.Step.{commaed, lined, offset_of, stepped, segment_step, step_from, Step}

zero_one : {A : Type 0} → ◌≡◌ {A = ℕ} 0 1 → A
zero_one z = absurd (omega arith)

-- of the bytes that stand at a place: behind `skip` delimiters a segment begins, and no delimiter stands between its beginning and the offset,
-- which of a token is where its segment ends
pub record Fault (at : ℕ) (bs : List ℕ) (begin offset : ℕ) : Type 0 where
  pub skip : ℕ
  pub begin_is : begin ≡ at + skip
  pub delims : Each true skip bs
  pub opens : Clear 1 (drop skip bs)
  pub from : begin ≤ offset
  pub clear : Clear (offset - begin) (drop skip bs)

-- the same of the beginning
pub at_begin : (at : ℕ) (bs : List ℕ) (begin offset : ℕ) → Fault at bs begin offset → Fault at bs begin begin
at_begin at bs begin offset f =
    let n : begin - begin ≡ 0 = omega arith in
    record { skip = f.skip; begin_is = f.begin_is; delims = f.delims; opens = f.opens; from = omega arith; clear = rw n tt }

-- ---- a field's place
field_between : (at next : ℕ) (fs : List Field) (field : ℕ) → at ≤ next → Between at next fs → (at ≤ get_or (starts fs) field at) × (get_or (starts fs) field at ≤ next)
field_between at next [] field l h = (omega arith, l)
field_between at next (f ∷ fs) zero l h = h.0
field_between at next (f ∷ fs) (suc field) l h = field_between at next fs field l h.1

place_between : (at next count : ℕ) (fs : List Field) (about : About) → at ≤ next → Between at next fs → Pointed count about
    → (at ≤ offset_of at (starts fs) about) × (offset_of at (starts fs) about ≤ next)
unfolding offset_of
place_between at next count fs About.Whole l h p = (omega arith, l)
place_between at next count fs (About.Field field) l h p = field_between at next fs field l h
place_between at next count fs (About.Place place) l h p = absurd p

yes_no : {A : Type 0} → true ≡ false → A
yes_no e = absurd (subst T e tt)

module _ (mode : Mode) (sources names : ℕ) where
  -- ---- where it lies
  abbrev pub Lying : State → List ℕ → Step → Type 0
  Lying s bs (Ok (Some (t, begin, s'))) = Fault s.at bs begin s'.at
  Lying s bs (Err r) = (begin : ℕ) × Fault s.at bs begin r.offset
  Lying s bs (Ok None) = Unit {0}

  fault_later : (at b : ℕ) (bs : List ℕ) (begin offset : ℕ) → is_delim b ≡ true → Fault (at + 1) bs begin offset → Fault at (b ∷ bs) begin offset
  fault_later at b bs begin offset d f =
      record { skip = suc f.skip; begin_is = omega (arith, f.begin_is); delims = (d, f.delims); opens = f.opens; from = f.from; clear = f.clear }

  later : (s s₁ : State) (b : ℕ) (bs : List ℕ) (r : Step) → s₁.at ≡ s.at + 1 → is_delim b ≡ true → Lying s₁ bs r → Lying s (b ∷ bs) r
  later s s₁ b bs (Ok (Some (t, begin, s'))) e d h = fault_later s.at b bs begin s'.at d (rw (← e) h)
  later s s₁ b bs (Err r) e d h = (h.0, fault_later s.at b bs h.0 r.offset d (rw (← e) h.1))
  later s s₁ b bs (Ok None) e d h = tt

  here : (at b : ℕ) (bs : List ℕ) (offset : ℕ) → is_delim b ≡ false → at ≤ offset → Clear (offset - at) (b ∷ bs) → Fault at (b ∷ bs) at offset
  here at b bs offset d l h = record { skip = 0; begin_is = omega arith; delims = tt; opens = (d, tt); from = l; clear = h }

  segment_lies : (s : State) (b : ℕ) (bs : List ℕ) → is_delim b ≡ false → (f : Fields) → Lies s.at (b ∷ bs) f → Lying s (b ∷ bs) (segment_step mode sources names s f)
  unfolding segment_step offset_of
  segment_lies s b bs d (leftover place) h = (s.at, here s.at b bs place d h.0 h.1)
  segment_lies s b bs d (overflow place) h = (s.at, here s.at b bs place d h.0 h.1)
  segment_lies s b bs d (whole fs next) h =
      by (applied mode sources names s (gathered fs next)) (points mode sources names (gathered fs next) (λ m e. omega (arith, (wide_has fs 0 m e).1)) s)
      (lands mode sources names (gathered fs next) s)
    where
      by : (a : Applied) → Points (length fs) a → Lands next a → Lying s (b ∷ bs) (stepped s.at (starts fs) a)
      by (Ok (t, s')) p l = rw l (here s.at b bs next d h.0 h.1.0)
      by (Err r) p l =
          let w = place_between s.at next (length fs) fs r.about h.0 h.1.1 p in
          (s.at, here s.at b bs (offset_of s.at (starts fs) r.about) d w.0 (fewer_clear (offset_of s.at (starts fs) r.about - s.at) (next - s.at) (b ∷ bs) (omega (arith, w.0, w.1)) h.1.0))

  pub lying : (s : State) (bs : List ℕ) → Lying s bs (step_from mode sources names s bs)
  unfolding step_from is_delim
  lying s [] = tt
  lying s (b ∷ bs) = by (eqb b 44) (eqb b 59) refl refl (lying (commaed s) bs) (lying (lined s) bs)
    where
      by : (x y : Bool) → eqb b 44 ≡ x → eqb b 59 ≡ y → Lying (commaed s) bs (step_from mode sources names (commaed s) bs)
          → Lying (lined s) bs (step_from mode sources names (lined s) bs)
          → Lying s (b ∷ bs)
          (pick x (step_from mode sources names (commaed s) bs)
          (pick y (step_from mode sources names (lined s) bs)
          (segment_step mode sources names s (fields_from mode 0 s.at (b ∷ bs)))))
      by true y p q u v = later s (commaed s) b bs (step_from mode sources names (commaed s) bs) refl (rw p) u
      by false true p q u v = later s (lined s) b bs (step_from mode sources names (lined s) bs) refl (rw (p, q)) v
      by false false p q u v = segment_lies s b bs (rw (p, q)) (fields_from mode 0 s.at (b ∷ bs)) (lies mode 0 s.at (b ∷ bs) tt)

  -- ---- the first k bytes alone: only delimiters
  pub nothing_before : (k : ℕ) (s : State) (bs : List ℕ) → Each true k bs → step_from mode sources names s (take k bs) ≡ Ok None
  unfolding step_from is_delim
  nothing_before zero s [] h = refl
  nothing_before zero s (b ∷ bs) h = refl
  nothing_before (suc k) s [] h = absurd h
  nothing_before (suc k) s (b ∷ bs) h = by (eqb b 44) (eqb b 59) h.0 (nothing_before k (commaed s) bs h.1) (nothing_before k (lined s) bs h.1)
    where
      by : (x y : Bool) → pick x true y ≡ true → step_from mode sources names (commaed s) (take k bs) ≡ Ok None → step_from mode sources names (lined s) (take k bs) ≡ Ok None
          → pick x (step_from mode sources names (commaed s) (take k bs))
          (pick y (step_from mode sources names (lined s) (take k bs)) (segment_step mode sources names s (fields_from mode 0 s.at (b ∷ take k bs))))
          ≡ Ok None
      by true y e u v = u
      by false true e u v = v
      by false false e u v = yes_no (sym e)

  -- a segment that ends within them
  segment_take : (s : State) (k b : ℕ) (bs : List ℕ) → is_delim b ≡ false → (f : Fields) → fields_from mode 0 s.at (b ∷ bs) ≡ f
      → (t : Token) (begin : ℕ) (s' : State) → segment_step mode sources names s f ≡ Ok (Some (t, begin, s')) → s'.at ≤ s.at + k
      → (s.at < s'.at) × (fields_from mode 0 s.at (take k (b ∷ bs)) ≡ f)
  unfolding segment_step
  segment_take s k b bs d (leftover place) e t begin s' w l = zero_one cc
  segment_take s k b bs d (overflow place) e t begin s' w l = zero_one cc
  segment_take s k b bs d (whole fs next) e t begin s' w l =
      by (applied mode sources names s (gathered fs next)) (lands mode sources names (gathered fs next) s) w
    where
      border : Ends s.at (b ∷ bs) (whole fs next)
      border = subst (Ends s.at (b ∷ bs)) e (ends mode 0 s.at (b ∷ bs))

      past : (j : ℕ) → next - s.at ≡ j → Border (drop j (b ∷ bs)) → s.at < next
      past zero q h = yes_no (sym h ∙ d)
      past (suc j) q h = omega (arith, q)

      by : (a : Applied) → Lands next a → stepped s.at (starts fs) a ≡ Ok (Some (t, begin, s'))
          → (s.at < s'.at) × (fields_from mode 0 s.at (take k (b ∷ bs)) ≡ whole fs next)
      by (Ok (t₁, s₁)) n q =
          let q' : ◌≡◌ {A = Token × ℕ × State} (t₁, s.at, s₁) (t, begin, s') = cc in
          let x : s₁ ≡ s' = ap (λ (w : Token × ℕ × State). w.2) q' in
          let m : next ≡ s'.at = sym n ∙ ap (λ (y : State). y.at) x in
          (rw (← m) (past (next - s.at) refl border.1), fields_take mode 0 s.at k (b ∷ bs) fs next e (omega (arith, m, l)))
      by (Err r) n q = zero_one cc

  pub put_take : (k : ℕ) (s : State) (bs : List ℕ) (t : Token) (begin : ℕ) (s' : State) → step_from mode sources names s bs ≡ Ok (Some (t, begin, s')) → s'.at ≤ s.at + k
      → (s.at < s'.at) × (step_from mode sources names s (take k bs) ≡ Ok (Some (t, begin, s')))
  unfolding step_from is_delim
  put_take k s [] t begin s' e l = zero_one cc
  put_take k s (b ∷ bs) t begin s' e l =
      by k l (eqb b 44) (eqb b 59) refl refl (λ j. put_take j (commaed s) bs t begin s') (λ j. put_take j (lined s) bs t begin s') e
    where
      by : (k : ℕ) → s'.at ≤ s.at + k → (x y : Bool) → eqb b 44 ≡ x → eqb b 59 ≡ y
          → ((j : ℕ) → step_from mode sources names (commaed s) bs ≡ Ok (Some (t, begin, s')) → s'.at ≤ s.at + 1 + j
          → (s.at + 1 < s'.at) × (step_from mode sources names (commaed s) (take j bs) ≡ Ok (Some (t, begin, s'))))
          → ((j : ℕ) → step_from mode sources names (lined s) bs ≡ Ok (Some (t, begin, s')) → s'.at ≤ s.at + 1 + j
          → (s.at + 1 < s'.at) × (step_from mode sources names (lined s) (take j bs) ≡ Ok (Some (t, begin, s'))))
          → pick x (step_from mode sources names (commaed s) bs)
          (pick y (step_from mode sources names (lined s) bs) (segment_step mode sources names s (fields_from mode 0 s.at (b ∷ bs))))
          ≡ Ok (Some (t, begin, s'))
          → (s.at < s'.at) × (step_from mode sources names s (take k (b ∷ bs)) ≡ Ok (Some (t, begin, s')))
      by zero l true y p q u v w = absurd (omega (arith, (u 0 w (omega arith)).0, l))
      by zero l false true p q u v w = absurd (omega (arith, (v 0 w (omega arith)).0, l))
      by zero l false false p q u v w =
          let z = segment_take s zero b bs (rw (p, q)) (fields_from mode 0 s.at (b ∷ bs)) refl t begin s' w l in
          absurd (omega (arith, z.0, l))
      by (suc k) l true y p q u v w = let z = u k w (omega arith) in (omega (arith, z.0), rw p z.1)
      by (suc k) l false true p q u v w = let z = v k w (omega arith) in (omega (arith, z.0), rw (p, q) z.1)
      by (suc k) l false false p q u v w =
          let z = segment_take s (suc k) b bs (rw (p, q)) (fields_from mode 0 s.at (b ∷ bs)) refl t begin s' w l in
          (z.0, rw (p, q) (ap (segment_step mode sources names s) z.1 ∙ w))
