-- The first line that is computed is the one that is stated, and there is one. Assumes nothing.
use mathlib.Core.Path.{◌≡◌, refl, ap, sym, ◌∙◌}
use mathlib.Core.Bool.{Bool, true, false}
use mathlib.Core.List.{List, [], ◌∷◌, ◌++◌, append_assoc}
use Prim.Native.Nat.{ℕ, suc, ◌+◌, ◌-◌, ◌*◌, ◌≤◌, ◌<◌}
use native.Mathlib.Omega.{arith}
use native.Mathlib.Nat.{add-zero}
use lib.Dec.{eqb, ltb}
use Rattle.std.proofs.Common.{Option, Some, None}
use lib.ListN.{length, drop, length-append}
use lib.Seq.{drop-append-add}
use borrow.Author.Tests.{eqb-true, eqb-false, ltb-false}
use Rattle.list.specs.Pick.{pick}
use Rattle.decimal.specs.Decimal.{Figures, decimal_from}
use Rattle.first_line.specs.FirstLine.{counts_line, Stated, Reads}
use Rattle.first_line.specs.Reading.{is_figure, ended_at, number_from, number_at, second, first, first_line}
use Rattle.first_line.specs.declared.FirstLine.{FirstLine}
use Rattle.first_line.specs.declared.Number.{Number}
use Rattle.first_line.proofs.Count.{counted, counted_is, figure, figured, a_count, from_stop, from_figure}

-- the two counts, and where the text begins
abbrev counts : ℕ → ℕ → ℕ → Option FirstLine
counts sources names text = Some (record { sources = sources; names = names; text = text })

counts_are : (a b at a' b' at' : ℕ) → counts a b at ≡ counts a' b' at' → (a ≡ a') × ((b ≡ b') × (at ≡ at'))
counts_are a b at a' b' at' e =
    let z : ◌≡◌ {A = FirstLine} (record { sources = a; names = b; text = at }) (record { sources = a'; names = b'; text = at' }) = cc in
    (ap (λ (l : FirstLine). l.sources) z, (ap (λ (l : FirstLine). l.names) z, ap (λ (l : FirstLine). l.text) z))

-- after so many figures with the value n, the list l begins with the rest of a count of value v and the stop byte
pub record Read (stop figures n i : ℕ) (l : List ℕ) (v next : ℕ) : Type 0 where
  pub ds : List ℕ
  pub rest : List ℕ
  pub whole : l ≡ ds ++ (stop ∷ rest)
  pub all : Figures ds
  pub some : 1 ≤ figures + length ds
  pub few : figures + length ds ≤ 10
  pub value : decimal_from n ds ≡ v
  pub fits : v ≤ 4294967295
  pub past : next ≡ i + length ds + 1

-- ---- what is computed is there

ended_if : (figures n k v next : ℕ) (x y : Bool) → eqb figures 0 ≡ x → ltb 4294967295 n ≡ y
    → pick x None (pick y None (counted n k)) ≡ counted v next
    → ((1 ≤ figures) × (n ≤ 4294967295)) × ((n ≡ v) × (k ≡ next))
ended_if figures n k v next true y ex ey e = let z : ◌≡◌ {A = ℕ} 0 1 = cc in absurd (omega arith)
ended_if figures n k v next false true ex ey e = let z : ◌≡◌ {A = ℕ} 0 1 = cc in absurd (omega arith)
ended_if figures n k v next false false ex ey e =
    let ne = eqb-false figures 0 ex in
    ((omega arith, ltb-false 4294967295 n ey), counted_is n k v next e)

ended : (figures n k v next : ℕ) → ended_at figures n k ≡ counted v next → ((1 ≤ figures) × (n ≤ 4294967295)) × ((n ≡ v) × (k ≡ next))
unfolding ended_at
ended figures n k v next e = ended_if figures n k v next (eqb figures 0) (ltb 4294967295 n) refl refl e

module _ (stop : ℕ) where
  -- by the tests of one byte; ih is what reading on gives
  byte_if : (b : ℕ) (bs : List ℕ) (figures n i v next : ℕ) → figures ≤ 10
      → (ih : (figures n i : ℕ) → figures ≤ 10 → number_from stop figures n i bs ≡ counted v next → Read stop figures n i bs v next)
      → (x y z : Bool) → eqb b stop ≡ x → is_figure b ≡ y → eqb figures 10 ≡ z
      → pick x (ended_at figures n (i + 1)) (pick y (pick z None (number_from stop (figures + 1) (10 * n + (b - 48)) (i + 1) bs)) None) ≡ counted v next
      → Read stop figures n i (b ∷ bs) v next
  unfolding decimal_from
  byte_if b bs figures n i v next h ih true y z ex ey ez e =
      let g = ended figures n (i + 1) v next e in
      record {
        ds = [];
        rest = bs;
        whole = ap (λ (k : ℕ). k ∷ bs) (eqb-true b stop ex);
        all = tt;
        some = omega (arith, g.0.0);
        few = omega arith;
        value = g.1.0;
        fits = omega (arith, g.0.1, g.1.0);
        past = omega (arith, g.1.1);
      }
  byte_if b bs figures n i v next h ih false true false ex ey ez e =
      let r = ih (figures + 1) (10 * n + (b - 48)) (i + 1) (let ne = eqb-false figures 10 ez in omega arith) e in
      record {
        ds = b ∷ r.ds;
        rest = r.rest;
        whole = ap (λ (l : List ℕ). b ∷ l) r.whole;
        all = (figured b ey, r.all);
        some = omega (arith, r.some);
        few = omega (arith, r.few);
        value = r.value;
        fits = r.fits;
        past = omega (arith, r.past);
      }
  byte_if b bs figures n i v next h ih false true true ex ey ez e = let z : ◌≡◌ {A = ℕ} 0 1 = cc in absurd (omega arith)
  byte_if b bs figures n i v next h ih false false z ex ey ez e = let z : ◌≡◌ {A = ℕ} 0 1 = cc in absurd (omega arith)

  pub found : (l : List ℕ) (figures n i v next : ℕ) → figures ≤ 10 → number_from stop figures n i l ≡ counted v next → Read stop figures n i l v next
  unfolding number_from
  found [] figures n i v next h e = let z : ◌≡◌ {A = ℕ} 0 1 = cc in absurd (omega arith)
  found (b ∷ bs) figures n i v next h e =
      byte_if b bs figures n i v next h (λ f m j g q. found bs f m j v next g q) (eqb b stop) (is_figure b) (eqb figures 10) refl refl refl e

-- ---- what is there is computed, where the stop byte is no figure

module _ (stop : ℕ) (below : stop < 48) where
  pub finds : (ds rest : List ℕ) (figures n i : ℕ) → Figures ds → 1 ≤ figures + length ds → figures + length ds ≤ 10
      → decimal_from n ds ≤ 4294967295
      → number_from stop figures n i (ds ++ (stop ∷ rest)) ≡ counted (decimal_from n ds) (i + length ds + 1)
  unfolding decimal_from
  finds [] rest figures n i a s f h =
      from_stop stop figures n i stop rest refl ∙ a_count figures n (i + 1) (λ e. omega arith) h ∙ rw add-zero
  finds (b ∷ ds) rest figures n i a s f h =
      let e : i + 1 + length ds + 1 ≡ i + suc (length ds) + 1 = omega arith in
      from_figure stop figures n i b (ds ++ (stop ∷ rest)) (λ q. omega (arith, a.0.0)) (figure b a.0) (λ q. omega arith)
      ∙ finds ds rest (figures + 1) (10 * n + (b - 48)) (i + 1) a.1 (omega arith) (omega arith) h
      ∙ ap (counted (decimal_from (10 * n + (b - 48)) ds)) e

-- ---- the line

module _ (ds es rest : List ℕ) where
  parts : counts_line ds es ++ rest ≡ ds ++ (32 ∷ (es ++ (10 ∷ rest)))
  parts = append_assoc ds (32 ∷ (es ++ (10 ∷ []))) rest ∙ ap (λ (l : List ℕ). ds ++ (32 ∷ l)) (append_assoc es (10 ∷ []) rest)

  length_line : length (counts_line ds es) ≡ length ds + 1 + length es + 1
  length_line = length-append ds (32 ∷ (es ++ (10 ∷ []))) ∙ omega (arith, length-append es (10 ∷ []))

module _ (input : List ℕ) where
  -- what follows the first count and its space
  after : (ds r : List ℕ) (at : ℕ) → input ≡ ds ++ (32 ∷ r) → at ≡ 0 + length ds + 1 → drop at input ≡ r
  after ds r at e ea =
      let q : at ≡ length ds + 1 = omega arith in
      rw (q, e) (drop-append-add ds (32 ∷ r) 1)

  pub finds_line : (sources names at : ℕ) → Stated input sources names at → first_line input ≡ counts sources names at
  finds_line sources names at t =
      let ds = t.ds in
      let es = t.es in
      let r : List ℕ = es ++ (10 ∷ t.rest) in
      let w : input ≡ ds ++ (32 ∷ r) = t.whole ∙ parts ds es t.rest in
      let k : ℕ = 0 + length ds + 1 in
      let n₁ : number_at input 0 32 ≡ counted sources k =
      ap (number_from 32 0 0 0) w
      ∙ finds 32 (omega arith) ds r 0 0 0 t.first.figures (omega (arith, t.first.some)) (omega (arith, t.first.few)) (omega (arith, t.first.value, t.first.fits))
      ∙ ap (λ (v : ℕ). counted v k) t.first.value in
      let n₂ : number_at input k 10 ≡ counted names (k + length es + 1) =
      ap (number_from 10 0 0 k) (after ds r k w refl)
      ∙ finds 10 (omega arith) es t.rest 0 0 k t.second.figures (omega (arith, t.second.some)) (omega (arith, t.second.few)) (omega (arith, t.second.value, t.second.fits))
      ∙ ap (λ (v : ℕ). counted v (k + length es + 1)) t.second.value in
      let p : k + length es + 1 ≡ at = omega (arith, t.begins, length_line ds es t.rest) in
      ap (first input) n₁ ∙ ap (second sources) n₂ ∙ ap (counts sources names) p

  -- the second count, after a first one
  found_second : (sources k : ℕ) → Read 32 0 0 0 input sources k → (m : Option Number) → number_at input k 10 ≡ m
      → (a b at : ℕ) → second sources m ≡ counts a b at → Stated input a b at
  found_second sources k f None e a b at q = let z : ◌≡◌ {A = ℕ} 0 1 = cc in absurd (omega arith)
  found_second sources k f (Some m) e a b at q =
      let g = found 10 (drop k input) 0 0 k m.value m.next (omega arith) e in
      let same = counts_are sources m.value m.next a b at q in
      let ea : sources ≡ a = same.0 in
      let eb : m.value ≡ b = same.1.0 in
      let en : m.next ≡ at = same.1.1 in
      let r : f.rest ≡ g.ds ++ (10 ∷ g.rest) = sym (after f.ds f.rest k f.whole f.past) ∙ g.whole in
      record {
        ds = f.ds;
        es = g.ds;
        rest = g.rest;
        whole = f.whole ∙ ap (λ (l : List ℕ). f.ds ++ (32 ∷ l)) r ∙ sym (parts f.ds g.ds g.rest);
        first =
            record {
              figures = f.all;
              some = omega (arith, f.some);
              few = omega (arith, f.few);
              value = f.value ∙ ea;
              fits = omega (arith, f.fits);
            };
        second =
            record {
              figures = g.all;
              some = omega (arith, g.some);
              few = omega (arith, g.few);
              value = g.value ∙ eb;
              fits = omega (arith, g.fits);
            };
        begins = omega (arith, f.past, g.past, length_line f.ds g.ds g.rest);
      }

  found_first : (m : Option Number) → number_at input 0 32 ≡ m → (a b at : ℕ) → first input m ≡ counts a b at → Stated input a b at
  found_first None e a b at q = let z : ◌≡◌ {A = ℕ} 0 1 = cc in absurd (omega arith)
  found_first (Some m) e a b at q =
      found_second m.value m.next (found 32 input 0 0 0 m.value m.next (omega arith) e) (number_at input m.next 10) refl a b at q

  pub found_line : (sources names at : ℕ) → first_line input ≡ counts sources names at → Stated input sources names at
  found_line sources names at e = found_first (number_at input 0 32) refl sources names at e

  -- the computed answer is one
  pub reads : (r : Option FirstLine) → r ≡ first_line input → Reads input r
  reads (Some l) e = found_line l.sources l.names l.text (sym e)
  reads None e = λ sources names at t. let q = finds_line sources names at t in let z : ◌≡◌ {A = ℕ} 0 1 = cc in omega arith

  pub no_first : None ≡ number_at input 0 32 → Reads input None
  no_first e = reads None (ap (first input) e)

  module _ (m : Number) (e : Some m ≡ number_at input 0 32) where
    pub no_second : None ≡ number_at input m.next 10 → Reads input None
    no_second f = reads None (ap (second m.value) f ∙ ap (first input) e)

    pub both_counts : (n : Number) → Some n ≡ number_at input m.next 10 → Reads input (counts m.value n.value n.next)
    both_counts n f = reads (counts m.value n.value n.next) (ap (second m.value) f ∙ ap (first input) e)

  -- there is one first line, and one answer
  pub one_line : (a b at a' b' at' : ℕ) → Stated input a b at → Stated input a' b' at' → (a ≡ a') × ((b ≡ b') × (at ≡ at'))
  one_line a b at a' b' at' t t' =
      counts_are a b at a' b' at' (sym (finds_line a b at t) ∙ finds_line a' b' at' t')

  pub one_answer : (r r' : Option FirstLine) → Reads input r → Reads input r' → r ≡ r'
  one_answer (Some l) (Some k) t t' = sym (finds_line l.sources l.names l.text t) ∙ finds_line k.sources k.names k.text t'
  one_answer (Some l) None t n = absurd (n l.sources l.names l.text t)
  one_answer None (Some l) n t = absurd (n l.sources l.names l.text t)
  one_answer None None n n' = refl

  -- the computed first line is the one answer
  pub computed_reads : Reads input (first_line input)
  computed_reads = reads (first_line input) refl

  pub reads_computed : (r : Option FirstLine) → Reads input r → r ≡ first_line input
  reads_computed r h = one_answer r (first_line input) h computed_reads

  -- the text begins within the input
  pub begins_within : (l : FirstLine) → Reads input (Some l) → l.text ≤ length input
  begins_within l t = omega (arith, t.begins, ap length t.whole, length-append (counts_line t.ds t.es) t.rest)
