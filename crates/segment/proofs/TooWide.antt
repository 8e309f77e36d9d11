-- The first field that is too wide, as the fields grow; and where none is. Assumes nothing.
use Rattle.std.proofs.Common.{◌≡◌, ℕ, ◌+◌, ◌<◌, Bool, true, false, ltb, List, [], ◌∷◌, ◌++◌, length, refl, ap, ◌∙◌, arith, ltb-true}
use Rattle.std.specs.Prelude.{Option, Some}
use Rattle.list.specs.Pick.{pick, both}
use Rattle.value.specs.Value.{is_wide}
use Rattle.segment.specs.Segment.{Field, wide_from}
use Rattle.segment.specs.Fields.{widened}

-- a field that is not too wide changes nothing
pub wide_same : (fs : List Field) (f : Field) (i : ℕ) → is_wide f.value ≡ false → wide_from i (fs ++ (f ∷ [])) ≡ wide_from i fs
unfolding wide_from
wide_same [] f i e = rw e
wide_same (g ∷ fs) f i e = ap (pick (both (is_wide g.value) (ltb i 5)) (Some i)) (wide_same fs f (i + 1) e)

-- one that is: it is the first, where none stands before it and its index is below 5
pub wide_new : (fs : List Field) (f : Field) (i : ℕ) → is_wide f.value ≡ true → wide_from i (fs ++ (f ∷ [])) ≡ widened (wide_from i fs) (i + length fs)
unfolding wide_from
wide_new [] f i e = let z : i + 0 ≡ i = omega arith in rw (e, z)
wide_new (g ∷ fs) f i e = by (is_wide g.value) (ltb i 5) (wide_new fs f (i + 1) e ∙ ap (widened (wide_from (i + 1) fs)) next)
  where
    next : i + 1 + length fs ≡ i + length (g ∷ fs)
    next = omega arith

    by : (w t : Bool) → wide_from (i + 1) (fs ++ (f ∷ [])) ≡ widened (wide_from (i + 1) fs) (i + length (g ∷ fs))
        → pick (both w t) (Some i) (wide_from (i + 1) (fs ++ (f ∷ []))) ≡ widened (pick (both w t) (Some i) (wide_from (i + 1) fs)) (i + length (g ∷ fs))
    by true true h = refl
    by true false h = h
    by false true h = h
    by false false h = h

-- it is one of them
has_by : (w t : Bool) (i k m : ℕ) (o : Option ℕ) → ltb i 5 ≡ t → ((n : ℕ) → o ≡ Some n → (n < 5) × (n < i + 1 + k)) → pick (both w t) (Some i) o ≡ Some m
    → (m < 5) × (m < i + (k + 1))
has_by true true i k m o p h e = let q : i ≡ m = cc in (omega (arith, ltb-true i 5 p, q), omega (arith, q))
has_by true false i k m o p h e = let q = h m e in (q.0, omega (arith, q.1))
has_by false true i k m o p h e = let q = h m e in (q.0, omega (arith, q.1))
has_by false false i k m o p h e = let q = h m e in (q.0, omega (arith, q.1))

pub wide_has : (fs : List Field) (i m : ℕ) → wide_from i fs ≡ Some m → (m < 5) × (m < i + length fs)
unfolding wide_from
wide_has [] i m e = let z : ◌≡◌ {A = ℕ} 0 1 = cc in absurd (omega arith)
wide_has (f ∷ fs) i m e =
    let h = has_by (is_wide f.value) (ltb i 5) i (length fs) m (wide_from (i + 1) fs) refl (wide_has fs (i + 1)) e in (h.0, omega (arith, h.1))
