-- The fields of a segment that is read stand in the text as runs, one behind the other. Assumes nothing.
use Rattle.std.specs.Prelude.{Some, None, Ok, Err}
use mathlib.Core.Path.{◌≡◌, refl, sym, ◌∙◌, ap}
use mathlib.Core.Bool.{true}
use mathlib.Core.List.{List, [], ◌∷◌, ◌++◌, append_assoc}
use Prim.Native.Nat.{ℕ, zero, suc, ◌+◌, ◌-◌, ◌≤◌}
use native.Mathlib.Omega.{arith}
use lib.ListN.{drop}
use Rattle.value.specs.Standard.{Run, is_run, unsigned, signed}
use Rattle.value.specs.Value.{value_of}
use Rattle.vlq.specs.Runs.{spell}
use Rattle.vlq.specs.Vlq.{vlq_of, Vlq}
use Rattle.segment.specs.Segment.{Field, Fields, whole, leftover, overflow, before, field_then, fields_from}
use Rattle.exact.specs.Exact.{mode, as_read}
use Rattle.exact.proofs.Runs.{Stands, Standing, standing}
use Rattle.vlq.specs.declared.Broken.{Broken}

-- a field, and the run that it stands as
pub record Known : Type 0 where
  pub field : Field
  pub run : Run
  pub digits : is_run run ≡ true
  pub value : field.value ≡ signed (unsigned run)

abbrev pub fields_of : List Known → List Field
fields_of [] = []
fields_of (k ∷ ks) = k.field ∷ fields_of ks

abbrev pub spell_all : List Known → List ℕ
spell_all [] = []
spell_all (k ∷ ks) = spell k.run ++ spell_all ks

-- of the bytes past the first `skip`, which stand at the place `at`
pub record Parts (skip at : ℕ) (bs : List ℕ) (fs : List Field) (next : ℕ) : Type 0 where
  pub known : List Known
  pub fields : fs ≡ fields_of known
  pub from : at ≤ next
  pub spelled : as_read (drop skip bs) ≡ spell_all known ++ as_read (drop (next - at) bs)

abbrev pub Parted : ℕ → ℕ → List ℕ → Fields → Type 0
Parted skip at bs (whole fs next) = Parts skip at bs fs next
Parted skip at bs (leftover place) = Unit {0}
Parted skip at bs (overflow place) = Unit {0}

none_here : (skip at : ℕ) (bs : List ℕ) → as_read (drop skip bs) ≡ as_read bs → Parts skip at bs [] at
none_here skip at bs e =
    let m : at - at ≡ 0 = omega arith in
    record { known = []; fields = refl; from = omega arith; spelled = rw m e }

-- a byte more before them
later : (skip at b : ℕ) (bs : List ℕ) (r : Fields) → Parted skip (at + 1) bs r → Parted (suc skip) at (b ∷ bs) r
later skip at b bs (whole fs next) h =
    let m : next - at ≡ suc (next - (at + 1)) = omega (arith, h.from) in
    record { known = h.known; fields = h.fields; from = omega (arith, h.from); spelled = rw m h.spelled }
later skip at b bs (leftover place) h = tt
later skip at b bs (overflow place) h = tt

-- a value, and the fields behind it
value_then : (at b : ℕ) (bs : List ℕ) (bits lost next : ℕ) (f : Field) → f.value ≡ value_of mode bits lost → Stands at (b ∷ bs) bits lost next → (r : Fields)
    → Parted (next - (at + 1)) (at + 1) bs r → Parted 0 at (b ∷ bs) (before f r)
value_then at b bs bits lost next f e v (leftover place) h = tt
value_then at b bs bits lost next f e v (overflow place) h = tt
value_then at b bs bits lost next f e v (whole fs end) h =
    let m : next - at ≡ suc (next - (at + 1)) = omega (arith, v.past) in
    let n : end - at ≡ suc (end - (at + 1)) = omega (arith, h.from) in
    let w : as_read (b ∷ bs) ≡ spell v.run ++ as_read (drop (next - (at + 1)) bs) = rw m at v.spelled in
    record {
      known = record { field = f; run = v.run; digits = v.digits; value = e ∙ v.value } ∷ h.known;
      fields = ap (λ (x : List Field). f ∷ x) h.fields;
      from = omega (arith, h.from);
      spelled = rw n (w ∙ ap (λ (x : List ℕ). spell v.run ++ x) h.spelled ∙ sym (append_assoc (spell v.run) (spell_all h.known) (as_read (drop (end - (at + 1)) bs))));
    }

pub parted : (skip at : ℕ) (bs : List ℕ) → Parted skip at bs (fields_from mode skip at bs)
unfolding fields_from as_read
parted zero at [] = none_here 0 at [] refl
parted (suc skip) at [] = none_here (suc skip) at [] refl
parted (suc skip) at (b ∷ bs) = later skip at b bs (fields_from mode skip (at + 1) bs) (parted skip (at + 1) bs)
parted zero at (b ∷ bs) = by (vlq_of at (b ∷ bs)) (standing at (b ∷ bs)) (λ next. parted (next - (at + 1)) (at + 1) bs)
  where
    by : (r : Vlq) → Standing at (b ∷ bs) r → ((next : ℕ) → Parted (next - (at + 1)) (at + 1) bs (fields_from mode (next - (at + 1)) (at + 1) bs))
        → Parted 0 at (b ∷ bs) (field_then mode at r (λ next. fields_from mode (next - (at + 1)) (at + 1) bs))
    by (Ok None) v ih = none_here 0 at (b ∷ bs) refl
    by (Ok (Some (bits, lost, next))) v ih =
        value_then at b bs bits lost next _ refl v (fields_from mode (next - (at + 1)) (at + 1) bs) (ih next)
    by (Err (Broken.Leftover place)) v ih = tt
    by (Err (Broken.Overflow place)) v ih = tt
