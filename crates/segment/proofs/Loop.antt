-- The segment's loop, as laws of the definitions. Assumes nothing.
use Rattle.std.specs.Prelude.{Option, Some, None, Ok, Err}
use Rattle.std.proofs.Common.{◌≡◌, ℕ, ◌+◌, ◌-◌, ◌<◌, ◌≤◌, List, [], ◌∷◌, ◌++◌, length, take, drop, set, ℤ, pos, sym, refl, ap, ◌∙◌, ap₂, append_assoc, append-nil, arith, length-append, w64, to_z, of_z}
use mir.ValLaws.{to_z-of_z}
use Rattle.value.specs.Value.{value_of, number_of, is_wide}
use Rattle.value.specs.declared.Mode.{Mode}
use Rattle.value.proofs.Range.{small_fits}
use Rattle.vlq.specs.Vlq.{vlq_at, Vlq}
use Rattle.vlq.proofs.Values.{Read, value}
use Rattle.segment.specs.Segment.{Field, Fields, whole, leftover, overflow, before, field_then, fields_from, values, wide_from, zeros, segment_of, segment_at}
use Rattle.segment.specs.Fields.{widened}
use Rattle.segment.proofs.Five.{keeps, passes, fills}
use Rattle.segment.proofs.Reach.{answered, past}
use Rattle.segment.proofs.TooWide.{wide_same, wide_new}
use Rattle.vlq.specs.declared.Broken.{Broken}

-- fields before others
abbrev onto : List Field → Fields → Fields
onto fs (whole gs next) = whole (fs ++ gs) next
onto fs (leftover at) = leftover at
onto fs (overflow at) = overflow at

onto_none : (t : Fields) → t ≡ onto [] t
onto_none (whole gs next) = refl
onto_none (leftover at) = refl
onto_none (overflow at) = refl

onto_before : (fs : List Field) (f : Field) (t : Fields) → onto fs (before f t) ≡ onto (fs ++ (f ∷ [])) t
onto_before fs f (whole gs next) = ap (λ (l : List Field). whole l next) (sym (append_assoc fs (f ∷ []) gs))
onto_before fs f (leftover at) = refl
onto_before fs f (overflow at) = refl

values_more : (fs : List Field) (f : Field) → values (fs ++ (f ∷ [])) ≡ values fs ++ (number_of f.value ∷ [])
values_more [] f = refl
values_more (g ∷ fs) f = ap (λ (l : List ℤ). number_of g.value ∷ l) (values_more fs f)

length_values : (fs : List Field) → length (values fs) ≡ length fs
length_values [] = refl
length_values (f ∷ fs) = omega (arith, length_values fs)

-- fields fs are read, up to i
pub record Parsing (mode : Mode) (s : List ℕ) (at : ℕ) (nums : List ℤ) (wide : Option ℕ) (count i : ℕ) : Type 0 where
  pub fs : List Field
  pub counted : length fs ≡ count
  pub kept : nums ≡ take 5 (values fs ++ zeros)
  pub judged : wide ≡ wide_from 0 fs
  pub moved : at + count ≤ i
  pub few : count ≤ length s
  pub is : fields_from mode 0 at (drop at s) ≡ onto fs (fields_from mode 0 i (drop i s))

pub start : (mode : Mode) (s : List ℕ) (at : ℕ) → Parsing mode s at zeros None 0 at
unfolding wide_from
start mode s at =
    record {
      fs = [];
      counted = refl;
      kept = refl;
      judged = refl;
      moved = omega arith;
      few = omega arith;
      is = onto_none (fields_from mode 0 at (drop at s));
    }

-- the loop has read one more, up to i'
pub record Turn (mode : Mode) (s : List ℕ) (at count i : ℕ) (nums' : List ℤ) (wide' : Option ℕ) (i' : ℕ) : Type 0 where
  pub again : Parsing mode s at nums' wide' (count + 1) i'
  pub less : length s - i' < length s - i
  pub fits : count + 1 ≤ length s

module _ (mode : Mode) (s : List ℕ) (at : ℕ) (nums : List ℤ) (wide : Option ℕ) (count i : ℕ) (p : Parsing mode s at nums wide count i) where
  step : (r : Vlq) → r ≡ vlq_at s i
      → fields_from mode 0 at (drop at s) ≡ onto p.fs (field_then mode i r (λ next. fields_from mode (next - (i + 1)) (i + 1) (drop 1 (drop i s))))
  step r e = p.is ∙ ap (onto p.fs) (answered mode s i r (sym e))

  pub ends : Ok None ≡ vlq_at s i → Ok (record { nums = nums; wide = wide; count = count; next = i }) ≡ segment_at mode s at
  unfolding segment_at
  ends e = sym (ap segment_of (step (Ok None) e) ∙ rw (append-nil p.fs, ← p.kept, ← p.judged, p.counted))

  pub breaks : (b : Broken) → Err b ≡ vlq_at s i → Err b ≡ segment_at mode s at
  unfolding segment_at
  breaks (Broken.Leftover place) e = sym (ap segment_of (step (Err (Broken.Leftover place)) e))
  breaks (Broken.Overflow place) e = sym (ap segment_of (step (Err (Broken.Overflow place)) e))

  module _ (bits lost next : ℕ) (e : Ok (Some (bits, lost, next)) ≡ vlq_at s i) where
    r : Read s i bits lost next
    r = value s i bits lost next (sym e)

    f : Field
    f = record { value = value_of mode bits lost; start = i }

    turn : (nums' : List ℤ) (wide' : Option ℕ) → nums' ≡ take 5 ((values p.fs ++ (number_of (value_of mode bits lost) ∷ [])) ++ zeros)
        → wide' ≡ wide_from 0 (p.fs ++ (f ∷ [])) → Turn mode s at count i nums' wide' next
    unfolding f
    turn nums' wide' k w =
        record {
          again =
              record {
                fs = p.fs ++ (f ∷ []);
                counted = length-append p.fs (f ∷ []) ∙ omega (arith, p.counted);
                kept = k ∙ ap (λ (l : List ℤ). take 5 (l ++ zeros)) (sym (values_more p.fs f));
                judged = w;
                moved = omega (arith, r.past, p.moved);
                few = omega (arith, r.past, r.within, p.moved);
                is =
                    step (Ok (Some (bits, lost, next))) e
                    ∙ ap (λ (t : Fields). onto p.fs (before f t)) (past mode s i next r.past r.within)
                    ∙ onto_before p.fs f (fields_from mode 0 next (drop next s));
              };
          less = omega (arith, r.past, r.within);
          fits = omega (arith, r.past, r.within, p.moved);
        }

    -- the code has found the number x, and reads it back from its bits
    module _ (x : ℤ) (ex : Some x ≡ value_of mode bits lost) where
      back : to_z w64 (of_z w64 x) ≡ number_of (value_of mode bits lost)
      back = ap (λ (y : Option ℤ). to_z w64 (of_z w64 (number_of y))) ex ∙ to_z-of_z w64 (number_of (value_of mode bits lost)) (small_fits (number_of (value_of mode bits lost)) (r.small mode))

      narrow : wide ≡ wide_from 0 (p.fs ++ (f ∷ []))
      unfolding f
      narrow = p.judged ∙ sym (wide_same p.fs f 0 (ap is_wide (sym ex)))

      pub stores : count < 5 → Turn mode s at count i (set nums count (to_z w64 (of_z w64 x))) wide next
      stores h =
          turn (set nums count (to_z w64 (of_z w64 x))) wide
          (ap₂ (λ (l : List ℤ) (y : ℤ). set l count y) p.kept back
          ∙ keeps (pos 0) (number_of (value_of mode bits lost)) (values p.fs) count (length_values p.fs ∙ p.counted) h)
          narrow

      pub counts : 5 ≤ count → Turn mode s at count i nums wide next
      counts h =
          turn nums wide
          (p.kept ∙ passes (pos 0) (number_of (value_of mode bits lost)) (values p.fs) count (length_values p.fs ∙ p.counted) h)
          narrow

    -- that it is too wide, which makes w of the index
    pub widens : None ≡ value_of mode bits lost → (w : Option ℕ) → w ≡ widened wide count → Turn mode s at count i nums w next
    unfolding f
    widens ex w ew =
        let n : count ≡ 0 + length p.fs = omega (arith, p.counted) in
        turn nums w
        (p.kept ∙ fills (pos 0) (values p.fs) ∙ ap (λ (y : ℤ). take 5 ((values p.fs ++ (y ∷ [])) ++ zeros)) (ap number_of ex))
        (ew ∙ ap₂ widened p.judged n ∙ sym (wide_new p.fs f 0 (ap is_wide (sym ex))))
