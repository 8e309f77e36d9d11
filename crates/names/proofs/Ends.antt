-- The ends of a name list: testing them, and the bounds of each name. Assumes nothing.
use mathlib.Core.Path.{◌≡◌, refl, ◌∙◌}
use mathlib.Core.Bool.{true, false}
use mathlib.Core.List.{List, [], ◌∷◌}
use Prim.Native.Nat.{ℕ, zero, suc, ◌+◌, ◌-◌, ◌≤◌, ◌<◌}
use native.Mathlib.Omega.{arith}
use native.Mathlib.Nat.{le_refl}
use native.Mathlib.Numerals.{add-one}
use lib.Dec.{leb}
use lib.ListN.{length, take, drop, get_or}
use lib.Seq.{drop-cons, drop-length}
use borrow.Author.Tests.{leb-true, le-leb, lt-leb}
use Rattle.list.proofs.Pick.{both_true}
use Rattle.list.specs.Pick.{both}
use Rattle.names.specs.Names.{NameList, count, begin_of, rises, sound, name_at}

-- ---- the test of a list, end after end
pub record Rising (text ends : List ℕ) (from i : ℕ) : Type 0 where
  pub most : length ends ≤ 2147483647
  pub within : i ≤ length ends
  pub begun : from ≡ begin_of ends i
  pub is : rises 0 ends ≡ rises from (drop i ends)

module _ (text ends : List ℕ) where
  abbrev list : NameList
  list = record { text = text; ends = ends }

  pub too_many : 2147483647 < length ends → false ≡ sound list
  unfolding sound
  too_many h = rw (lt-leb (length ends) 2147483647 h)

  pub start : length ends ≤ 2147483647 → Rising text ends 0 0
  start h = record { most = h; within = omega arith; begun = refl; is = refl }

  module _ (from i : ℕ) (l : Rising text ends from i) where
    pub falls : i < length ends → get_or ends i 0 < from → false ≡ sound list
    unfolding sound rises
    falls h f = rw (le-leb (length ends) 2147483647 l.most, l.is, drop-cons ends i 0 h, lt-leb from (get_or ends i 0) f)

    pub goes_on : i < length ends → from ≤ get_or ends i 0 → Rising text ends (get_or ends i 0) (i + 1)
    unfolding rises
    goes_on h f =
        record {
          most = l.most;
          within = omega arith;
          begun = rw (add-one i);
          is = l.is ∙ rw (add-one i, drop-cons ends i 0 h, le-leb from (get_or ends i 0) f);
        }

    pub ended : length ends ≤ i → leb from (length text) ≡ sound list
    unfolding sound rises
    ended h =
        let e : i ≡ length ends = omega (arith, l.within) in
        rw (le-leb (length ends) 2147483647 l.most, l.is, e, drop-length ends, l.begun, e)

-- ---- the bounds of a name
-- the name before place k ends here, the list's start taken as `from`
abbrev end_before : ℕ → List ℕ → ℕ → ℕ
end_before from es zero = from
end_before from es (suc k) = get_or es k 0

before_begin : (ends : List ℕ) (k : ℕ) → end_before 0 ends k ≡ begin_of ends k
before_begin ends zero = refl
before_begin ends (suc k) = refl

before_tail : (e from : ℕ) (es : List ℕ) (k : ℕ) → end_before e es k ≡ end_before from (e ∷ es) (suc k)
before_tail e from es zero = refl
before_tail e from es (suc k) = refl

rises_step : (from : ℕ) (es : List ℕ) (k : ℕ) → rises from es ≡ true → k < length es → end_before from es k ≤ get_or es k 0
unfolding rises
rises_step from [] k r h = absurd (omega arith)
rises_step from (e ∷ es) zero r h = leb-true from e (both_true (leb from e) (rises e es) r).0
rises_step from (e ∷ es) (suc k) r h =
    rw (before_tail e from es k) at (rises_step e es k (both_true (leb from e) (rises e es) r).1 (omega arith))

rises_last : (from : ℕ) (es : List ℕ) (k : ℕ) → rises from es ≡ true → k ≤ length es → end_before from es k ≤ end_before from es (length es)
unfolding rises
rises_last from [] zero r h = le_refl from
rises_last from [] (suc k) r h = absurd (omega arith)
rises_last from (e ∷ es) zero r h =
    let b = both_true (leb from e) (rises e es) r in
    let q = rises_last e es zero b.1 (omega arith) in
    omega (arith, leb-true from e b.0, q, before_tail e from es (length es))
rises_last from (e ∷ es) (suc k) r h =
    let q = rises_last e es k (both_true (leb from e) (rises e es) r).1 (omega arith) in
    omega (arith, q, before_tail e from es k, before_tail e from es (length es))

-- a name of a sound list stands within the text
pub record Within (l : NameList) (k : ℕ) : Type 0 where
  pub low : begin_of l.ends k ≤ get_or l.ends k 0
  pub high : get_or l.ends k 0 ≤ length l.text

pub few : (l : NameList) → sound l ≡ true → count l ≤ 2147483647
unfolding sound
few l s = leb-true (count l) 2147483647 (both_true (leb (count l) 2147483647) (both (rises 0 l.ends) (leb (begin_of l.ends (count l)) (length l.text))) s).0

pub name_within : (l : NameList) (k : ℕ) → sound l ≡ true → k < count l → Within l k
unfolding sound
name_within l k s h =
    let b = (both_true (leb (count l) 2147483647) (both (rises 0 l.ends) (leb (begin_of l.ends (count l)) (length l.text))) s).1 in
    let d = both_true (rises 0 l.ends) (leb (begin_of l.ends (count l)) (length l.text)) b in
    let t = leb-true (begin_of l.ends (count l)) (length l.text) d.1 in
    let m = rises_last 0 l.ends (suc k) d.0 (omega arith) in
    record {
      low = rw (before_begin l.ends k) at (rises_step 0 l.ends k d.0 h);
      high = omega (arith, t, m, before_begin l.ends (count l));
    }

-- a name that the code takes from the text, from where it found it to begin
module _ (l : NameList) (k b : ℕ) (eb : b ≡ begin_of l.ends k) where
  pub part_low : sound l ≡ true → k < count l → b ≤ get_or l.ends k 0
  part_low s h = rw eb (name_within l k s h).low

  pub part_is : take (get_or l.ends k 0 - b) (drop b l.text) ≡ name_at l k
  unfolding name_at
  part_is = rw eb
