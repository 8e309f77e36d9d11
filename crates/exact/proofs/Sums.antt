-- What checked mode keeps is the sum itself: a segment that it takes has one, four or five values, adds each, and shows the sums. Assumes
-- nothing.
use Rattle.std.specs.Prelude.{Option, Some, None, Result, Ok, Err}
use mathlib.Core.Path.{◌≡◌, refl, sym, ◌∙◌, ap}
use mathlib.Core.Bool.{Bool, true, false}
use mathlib.Core.List.{List, [], ◌∷◌, ◌++◌, append-nil}
use Prim.Native.Nat.{ℕ, ◌+◌, ◌%◌, ◌^◌, ◌<◌, ◌≤◌}
use native.Mathlib.Nat.{mod-eq_of_lt}
use native.Mathlib.Omega.{arith}
use lib.Dec.{ltb}
use lib.IntN.{ℤ, pos, negsuc, ◌+ℤ◌}
use lib.ListN.{length}
use borrow.Author.Tests.{lt-ltb, ne_eqb}
use Rattle.list.specs.Pick.{pick, both}
use Rattle.list.proofs.Pick.{pick_ind}
use Rattle.code.specs.declared.Code.{Code}
use Rattle.token.specs.Table.{no_id}
use Rattle.token.specs.declared.Token.{Token}
use Rattle.value.specs.Value.{number_of, is_wide}
use Rattle.vlq.specs.Runs.{spell}
use Rattle.segment.specs.Segment.{Field, wide_from, gathered}
use Rattle.segment.specs.declared.Segment as read
use Rattle.sums.specs.Sums.{reduced_of, sum_of, id_of, name_sum_of}
use Rattle.apply.specs.declared.State.{State}
use Rattle.apply.specs.declared.About.{About}
use Rattle.apply.specs.Apply as apply
use Rattle.apply.specs.Apply.{with_column, with_source, with_name, kept, num, columned, sourced, mapped, named, onward, counted, unless_wide, applied, refusal, Moved, Applied}
use Rattle.exact.specs.Text.{Value, Segment, one, four, five, spell_segment, Numbers, added, shown, token_of}
use Rattle.exact.specs.Exact as exact
use Rattle.exact.specs.Exact.{mode}
use Rattle.exact.proofs.Fields.{Known, fields_of, spell_all}
use Rattle.sums.specs.declared.Unkept.{Unkept}

-- ---- what is kept
abbrev Keeps : ℤ → (Result ℕ Unkept) → Type 0
Keeps z (Err Unkept.Negative) = Unit {0}
Keeps z (Err Unkept.Wide) = Unit {0}
Keeps z (Ok n) = pos n ≡ z

sum_is : (z : ℤ) → Keeps z (sum_of mode z)
unfolding sum_of reduced_of
sum_is (pos n) = pick_ind (Keeps (pos n)) (ltb n (2 ^ 32)) (λ _. refl) (λ _. tt)
sum_is (negsuc n) = tt

name_is : (z : ℤ) → Keeps z (name_sum_of mode z)
unfolding name_sum_of reduced_of
name_is (pos n) = pick_ind (Keeps (pos n)) (ltb n (2 ^ 32)) (λ _. refl) (λ _. tt)
name_is (negsuc n) = tt

abbrev Points : ℤ → (Option ℕ) → Type 0
Points z None = Unit {0}
Points z (Some n) = pos n ≡ z

id_is : (count : ℕ) (z : ℤ) → Points z (id_of count z)
unfolding id_of
id_is count (pos n) = pick_ind (Points (pos n)) (ltb n count) (λ _. refl) (λ _. tt)
id_is count (negsuc n) = tt

pub other : {A : Type 0} → ◌≡◌ {A = ℕ} 0 1 → A
other z = absurd (omega arith)

-- ---- what follows of a segment that is taken, step by step; of one that is refused, only that it is
module _ (P : Applied → Type 0) (no : (code : Code) (about : About) → P (Err (refusal code about))) where
  kept_by : (z : ℤ) (k : Result ℕ Unkept) → Keeps z k → (field : ℕ) (go : ℕ → Moved) (on : State → Applied) → ((n : ℕ) → pos n ≡ z → P (onward (go n) on)) → P (onward (kept k field go) on)
  kept_by z (Err Unkept.Negative) e field go on h = no _ _
  kept_by z (Err Unkept.Wide) e field go on h = no _ _
  kept_by z (Ok n) e field go on h = h n e

  source_by : (s : State) (z : ℤ) (i : Option ℕ) → Points z i → (go : ℕ → Moved) (on : State → Applied) → ((n : ℕ) → pos n ≡ z → P (onward (go n) on)) → P (onward (sourced s i go) on)
  source_by s z None e go on h = no _ _
  source_by s z (Some n) e go on h = h n e

  columned_by : (s : State) (g : read.Segment) (on : State → Applied)
      → ((n : ℕ) → pos n ≡ pos s.dst_col +ℤ num 0 g → P (on (with_column s n g.next))) → P (onward (columned mode s g) on)
  unfolding columned
  columned_by s g on h = kept_by _ (sum_of mode (pos s.dst_col +ℤ num 0 g)) (sum_is _) 0 (λ n. Ok (with_column s n g.next)) on h

  mapped_by : (sources : ℕ) (s : State) (g : read.Segment) (on : State → Applied)
      → ((i l c : ℕ) → pos i ≡ pos s.source_id +ℤ num 1 g → pos l ≡ pos s.src_line +ℤ num 2 g → pos c ≡ pos s.src_col +ℤ num 3 g → P (on (with_source s i l c)))
      → P (onward (mapped mode sources s g) on)
  unfolding mapped
  mapped_by sources s g on h =
      source_by s _ (id_of sources (pos s.source_id +ℤ num 1 g)) (id_is sources _) _ on λ i ei.
      kept_by _ (sum_of mode (pos s.src_line +ℤ num 2 g)) (sum_is _) 2 _ on λ l el.
      kept_by _ (sum_of mode (pos s.src_col +ℤ num 3 g)) (sum_is _) 3 _ on λ c ec. h i l c ei el ec

  named_by : (names : ℕ) (s : State) (g : read.Segment) (on : State → Applied)
      → ((n : ℕ) → pos n ≡ pos s.name_id +ℤ num 4 g → P (on (with_name s n))) → P (onward (named mode names s g) on)
  unfolding named
  named_by names s g on h =
      kept_by _ (name_sum_of mode (pos s.name_id +ℤ num 4 g)) (name_is _) 4 _ on λ n e.
      pick_ind (λ (m : Moved). P (onward m on)) (ltb n names) (λ _. h n e) (λ _. no _ _)

-- ---- a field that is not too wide is a value
is_number : (j : Option ℤ) → is_wide j ≡ false → j ≡ Some (number_of j)
is_number (Some z) e = refl
is_number None e = absurd (omega (arith, no e))
  where
    no : true ≡ false → ◌≡◌ {A = ℕ} 0 1
    no z = cc

abbrev value_of : (k : Known) → is_wide k.field.value ≡ false → Value
value_of k n = record { run = k.run; digits = k.digits; number = number_of k.field.value; says = sym k.value ∙ is_number k.field.value n }

narrow : (i : ℕ) (f : Field) (fs : List Field) → i < 5 → wide_from i (f ∷ fs) ≡ None → (is_wide f.value ≡ false) × (wide_from (i + 1) fs ≡ None)
unfolding wide_from
narrow i f fs l n = by (is_wide f.value) refl (rw (lt-ltb i 5 l) at n)
  where
    by : (t : Bool) → is_wide f.value ≡ t → pick (both t true) (Some i) (wide_from (i + 1) fs) ≡ None → (is_wide f.value ≡ false) × (wide_from (i + 1) fs ≡ None)
    by true e q = other cc
    by false e q = (e, q)

-- ---- the state's numbers are these sums, and there are no more lines than bytes before its place
pub record Tracks (s : State) (w : Numbers) : Type 0 where
  pub line : s.dst_line ≡ w.line % 2 ^ 32
  pub few : w.line ≤ s.at
  pub column : pos s.dst_col ≡ w.column
  pub source_line : pos s.src_line ≡ w.source_line
  pub src_column : pos s.src_col ≡ w.src_column
  pub source : pos s.source_id ≡ w.source
  pub name : pos s.name_id ≡ w.name

shows : (s : State) (w : Numbers) → Tracks s w → w.line < 2 ^ 32 → (source name : ℕ) (i j : ℤ) → pos source ≡ i → pos name ≡ j
    → shown w i j ≡ exact.whole (apply.shown s source name)
shows s w h l source name i j p q =
    let e : s.dst_line ≡ w.line = h.line ∙ mod-eq_of_lt l in
    rw (e, h.column, h.source_line, h.src_column, p, q)

-- a segment of these runs, taken
pub record Taken (ks : List Known) (s : State) (t : Token) (s' : State) : Type 0 where
  pub segment : Segment
  pub spelled : spell_all ks ≡ spell_segment segment
  pub tracks : (w : Numbers) → Tracks s w → Tracks s' (added w segment)
  pub shown : (w : Numbers) → Tracks s w → s.at < 2 ^ 32 → token_of (added w segment) segment ≡ exact.whole t ∷ []

abbrev pub Takes : List Known → State → Applied → Type 0
Takes ks s (Ok (t, s')) = Taken ks s t s'
Takes ks s (Err r) = Unit {0}

-- ---- by the number of fields
module _ (sources names : ℕ) (s : State) (next : ℕ) (forth : s.at ≤ next) where
  no : (ks : List Known) (code : Code) (about : About) → Takes ks s (Err (refusal code about))
  no ks code about = tt

  abbrev segment : List Known → read.Segment
  segment ks = gathered (fields_of ks) next

  -- past the test for a value that is too wide
  abbrev steps : List Known → Applied
  steps ks = onward (columned mode s (segment ks)) λ q. counted mode sources names q (segment ks)

  module _ (k₀ : Known) (n₀ : is_wide k₀.field.value ≡ false) where
    abbrev a : Value
    a = value_of k₀ n₀

    with_one : Takes (k₀ ∷ []) s (steps (k₀ ∷ []))
    unfolding counted spell_segment added token_of
    with_one =
        columned_by (Takes ks s) (no ks) s (segment ks) _ λ n e.
        let tracks : (w : Numbers) → Tracks s w → Tracks (with_column s n next) (added w (one a)) =
        λ w h.
        record { line = h.line; few = omega (arith, h.few, forth); column = rw (← h.column) e; source_line = h.source_line; src_column = h.src_column; source = h.source; name = h.name }
        in
        record {
          segment = one a;
          spelled = append-nil (spell k₀.run);
          tracks = tracks;
          shown = λ w h u. ap (λ (x : Numbers). x ∷ []) (shows (with_column s n next) (added w (one a)) (tracks w h) (omega (arith, h.few, u)) no_id no_id _ _ refl refl);
        }
      where
        ks : List Known
        ks = k₀ ∷ []

    module _ (k₁ k₂ k₃ : Known) (n₁ : is_wide k₁.field.value ≡ false) (n₂ : is_wide k₂.field.value ≡ false) (n₃ : is_wide k₃.field.value ≡ false) where
      abbrev b : Value
      b = value_of k₁ n₁

      abbrev c : Value
      c = value_of k₂ n₂

      abbrev d : Value
      d = value_of k₃ n₃

      with_four : Takes (k₀ ∷ k₁ ∷ k₂ ∷ k₃ ∷ []) s (steps (k₀ ∷ k₁ ∷ k₂ ∷ k₃ ∷ []))
      unfolding counted apply.four spell_segment added token_of
      with_four =
          columned_by (Takes ks s) (no ks) s (segment ks) _ λ n e.
          mapped_by (Takes ks s) (no ks) sources (with_column s n next) (segment ks) _ λ i l m ei el em.
          let tracks : (w : Numbers) → Tracks s w → Tracks (with_source (with_column s n next) i l m) (added w (four a b c d)) =
          λ w h.
          record {
            line = h.line;
            few = omega (arith, h.few, forth);
            column = rw (← h.column) e;
            source_line = rw (← h.source_line) el;
            src_column = rw (← h.src_column) em;
            source = rw (← h.source) ei;
            name = h.name;
          }
          in
          record {
            segment = four a b c d;
            spelled = ap (λ (x : List ℕ). spell k₀.run ++ (spell k₁.run ++ (spell k₂.run ++ x))) (append-nil (spell k₃.run));
            tracks = tracks;
            shown =
                λ w h u.
                ap (λ (x : Numbers). x ∷ [])
                (shows (with_source (with_column s n next) i l m) (added w (four a b c d)) (tracks w h) (omega (arith, h.few, u)) i no_id _ _ (tracks w h).source refl);
          }
        where
          ks : List Known
          ks = k₀ ∷ k₁ ∷ k₂ ∷ k₃ ∷ []

      with_five : (k₄ : Known) → is_wide k₄.field.value ≡ false → Takes (k₀ ∷ k₁ ∷ k₂ ∷ k₃ ∷ k₄ ∷ []) s (steps (k₀ ∷ k₁ ∷ k₂ ∷ k₃ ∷ k₄ ∷ []))
      unfolding counted apply.five spell_segment added token_of
      with_five k₄ n₄ =
          columned_by (Takes ks s) (no ks) s (segment ks) _ λ n e.
          mapped_by (Takes ks s) (no ks) sources (with_column s n next) (segment ks) _ λ i l m ei el em.
          named_by (Takes ks s) (no ks) names (with_source (with_column s n next) i l m) (segment ks) _ λ j ej.
          let tracks : (w : Numbers) → Tracks s w → Tracks (with_name (with_source (with_column s n next) i l m) j) (added w (five a b c d (value_of k₄ n₄))) =
          λ w h.
          record {
            line = h.line;
            few = omega (arith, h.few, forth);
            column = rw (← h.column) e;
            source_line = rw (← h.source_line) el;
            src_column = rw (← h.src_column) em;
            source = rw (← h.source) ei;
            name = rw (← h.name) ej;
          }
          in
          record {
            segment = five a b c d (value_of k₄ n₄);
            spelled = ap (λ (x : List ℕ). spell k₀.run ++ (spell k₁.run ++ (spell k₂.run ++ (spell k₃.run ++ x)))) (append-nil (spell k₄.run));
            tracks = tracks;
            shown =
                λ w h u.
                ap (λ (x : Numbers). x ∷ [])
                (shows (with_name (with_source (with_column s n next) i l m) j) (added w (five a b c d (value_of k₄ n₄))) (tracks w h) (omega (arith, h.few, u)) i j _ _ (tracks w h).source (tracks w h).name);
          }
        where
          ks : List Known
          ks = k₀ ∷ k₁ ∷ k₂ ∷ k₃ ∷ k₄ ∷ []

  -- any other number is refused
  not_taken : (ks : List Known) → (length (fields_of ks) ≡ 1 → ⊥) → (length (fields_of ks) ≡ 4 → ⊥) → (length (fields_of ks) ≡ 5 → ⊥) → Takes ks s (steps ks)
  unfolding counted
  not_taken ks p q r =
      columned_by (Takes ks s) (no ks) s (segment ks) _ λ n e.
      rw (ne_eqb (length (fields_of ks)) 1 p, ne_eqb (length (fields_of ks)) 4 q, ne_eqb (length (fields_of ks)) 5 r) tt

  -- the first field is not too wide, nor is one of the four behind it
  abbrev Narrow : ℕ → List Known → Type 0
  Narrow i ks = wide_from i (fields_of ks) ≡ None

  by_count : (ks : List Known) → Narrow 0 ks → Takes ks s (steps ks)
  by_count [] h = not_taken [] (λ e. omega arith) (λ e. omega arith) (λ e. omega arith)
  by_count (k₀ ∷ []) h = with_one k₀ (narrow 0 k₀.field [] (omega arith) h).0
  by_count (k₀ ∷ k₁ ∷ []) h = not_taken (k₀ ∷ k₁ ∷ []) (λ e. omega arith) (λ e. omega arith) (λ e. omega arith)
  by_count (k₀ ∷ k₁ ∷ k₂ ∷ []) h = not_taken (k₀ ∷ k₁ ∷ k₂ ∷ []) (λ e. omega arith) (λ e. omega arith) (λ e. omega arith)
  by_count (k₀ ∷ k₁ ∷ k₂ ∷ k₃ ∷ []) h =
      let h₀ = narrow 0 k₀.field (fields_of (k₁ ∷ k₂ ∷ k₃ ∷ [])) (omega arith) h in
      let h₁ = narrow 1 k₁.field (fields_of (k₂ ∷ k₃ ∷ [])) (omega arith) h₀.1 in
      let h₂ = narrow 2 k₂.field (fields_of (k₃ ∷ [])) (omega arith) h₁.1 in
      with_four k₀ h₀.0 k₁ k₂ k₃ h₁.0 h₂.0 (narrow 3 k₃.field [] (omega arith) h₂.1).0
  by_count (k₀ ∷ k₁ ∷ k₂ ∷ k₃ ∷ k₄ ∷ []) h =
      let h₀ = narrow 0 k₀.field (fields_of (k₁ ∷ k₂ ∷ k₃ ∷ k₄ ∷ [])) (omega arith) h in
      let h₁ = narrow 1 k₁.field (fields_of (k₂ ∷ k₃ ∷ k₄ ∷ [])) (omega arith) h₀.1 in
      let h₂ = narrow 2 k₂.field (fields_of (k₃ ∷ k₄ ∷ [])) (omega arith) h₁.1 in
      let h₃ = narrow 3 k₃.field (fields_of (k₄ ∷ [])) (omega arith) h₂.1 in
      with_five k₀ h₀.0 k₁ k₂ k₃ h₁.0 h₂.0 h₃.0 k₄ (narrow 4 k₄.field [] (omega arith) h₃.1).0
  by_count (k₀ ∷ k₁ ∷ k₂ ∷ k₃ ∷ k₄ ∷ k₅ ∷ ks) h =
      not_taken (k₀ ∷ k₁ ∷ k₂ ∷ k₃ ∷ k₄ ∷ k₅ ∷ ks) (λ e. omega arith) (λ e. omega arith) (λ e. omega arith)

  pub takes : (ks : List Known) → Takes ks s (applied mode sources names s (segment ks))
  unfolding applied
  takes ks = by (wide_from 0 (fields_of ks)) refl
    where
      by : (o : Option ℕ) → wide_from 0 (fields_of ks) ≡ o → Takes ks s (unless_wide o (steps ks))
      by (Some field) e = tt
      by None e = by_count ks e
