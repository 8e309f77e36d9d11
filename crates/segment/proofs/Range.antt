-- Every value of a segment lies from -2^62 to 2^62. Assumes nothing.
use Rattle.std.specs.Prelude.{Some, None, Ok, Err}
use Rattle.std.proofs.Common.{◌≡◌, ℕ, zero, suc, ◌+◌, ◌-◌, ◌^◌, ◌≤◌, List, [], ◌∷◌, ◌++◌, get_or, take, drop, ℤ, pos, nat_abs, refl, arith}
use Rattle.value.specs.Value.{value_of, number_of}
use Rattle.value.specs.declared.Mode.{Mode}
use Rattle.value.proofs.Range.{value_range}
use Rattle.vlq.specs.Vlq.{vlq_of, Vlq}
use Rattle.vlq.proofs.Values.{value_bits}
use Rattle.segment.specs.Segment.{Field, Fields, whole, leftover, overflow, before, field_then, fields_from, values, zeros, gathered, segment_of, segment_at}
use Rattle.segment.specs.declared.Segment.{Segment}
use Rattle.vlq.specs.declared.Broken.{Broken}

abbrev All : List ℤ → Type 0
All [] = Unit {0}
All (v ∷ vs) = (nat_abs v ≤ 2 ^ 62) × All vs

all_append : (a b : List ℤ) → All a → All b → All (a ++ b)
all_append [] b p q = q
all_append (v ∷ a) b p q = (p.0, all_append a b p.1 q)

all_take : (n : ℕ) (a : List ℤ) → All a → All (take n a)
all_take zero a p = tt
all_take (suc n) [] p = tt
all_take (suc n) (v ∷ a) p = (p.0, all_take n a p.1)

all_get : (a : List ℤ) (i : ℕ) → All a → nat_abs (get_or a i (pos 0)) ≤ 2 ^ 62
all_get [] i p = omega arith
all_get (v ∷ a) zero p = p.0
all_get (v ∷ a) (suc i) p = all_get a i p.1

abbrev Fine : Fields → Type 0
Fine (whole fs next) = All (values fs)
Fine (leftover at) = Unit {0}
Fine (overflow at) = Unit {0}

before_fine : (f : Field) (t : Fields) → nat_abs (number_of f.value) ≤ 2 ^ 62 → Fine t → Fine (before f t)
before_fine f (whole fs next) p q = (p, q)
before_fine f (leftover at) p q = tt
before_fine f (overflow at) p q = tt

after_fine : (mode : Mode) (at : ℕ) (l : List ℕ) (r : Vlq) (go : ℕ → Fields) → vlq_of at l ≡ r → ((next : ℕ) → Fine (go next)) → Fine (field_then mode at r go)
after_fine mode at l (Ok None) go e h = tt
after_fine mode at l (Ok (Some (bits, lost, next))) go e h =
    before_fine (record { value = value_of mode bits lost; start = at }) (go next) (value_range mode bits lost (value_bits at l bits lost next e)) (h next)
after_fine mode at l (Err (Broken.Leftover place)) go e h = tt
after_fine mode at l (Err (Broken.Overflow place)) go e h = tt

fields_fine : (mode : Mode) (skip at : ℕ) (bs : List ℕ) → Fine (fields_from mode skip at bs)
unfolding fields_from
fields_fine mode zero at [] = tt
fields_fine mode (suc skip) at [] = tt
fields_fine mode zero at (b ∷ bs) =
    after_fine mode at (b ∷ bs) (vlq_of at (b ∷ bs)) (λ next. fields_from mode (next - (at + 1)) (at + 1) bs) refl
    (λ next. fields_fine mode (next - (at + 1)) (at + 1) bs)
fields_fine mode (suc skip) at (b ∷ bs) = fields_fine mode skip (at + 1) bs

segment_fine : (t : Fields) → Fine t → (g : Segment) → segment_of t ≡ Ok g → (i : ℕ) → nat_abs (get_or g.nums i (pos 0)) ≤ 2 ^ 62
segment_fine (whole fs next) p g e i =
    let q : gathered fs next ≡ g = cc in
    rw (← q) (all_get (take 5 (values fs ++ zeros)) i (all_take 5 (values fs ++ zeros) (all_append (values fs) zeros p none)))
  where
    none : All zeros
    none = (omega arith, (omega arith, (omega arith, (omega arith, (omega arith, tt)))))
segment_fine (leftover at) p g e i = let z : ◌≡◌ {A = ℕ} 0 1 = cc in absurd (omega arith)
segment_fine (overflow at) p g e i = let z : ◌≡◌ {A = ℕ} 0 1 = cc in absurd (omega arith)

pub nums_small : (mode : Mode) (text : List ℕ) (at : ℕ) (g : Segment) → segment_at mode text at ≡ Ok g → (i : ℕ) → nat_abs (get_or g.nums i (pos 0)) ≤ 2 ^ 62
unfolding segment_at
nums_small mode text at = segment_fine (fields_from mode 0 at (drop at text)) (fields_fine mode 0 at (drop at text))
