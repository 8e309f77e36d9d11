-- Which fields of a segment that is written are too wide: in each mode, those that it does not take. Assumes nothing.
use Rattle.std.specs.Prelude.{Some, None}
use mathlib.Core.Path.{◌≡◌, refl, ◌∙◌, ap}
use mathlib.Core.Bool.{Bool, true, false, not}
use mathlib.Core.List.{List, [], ◌∷◌}
use Prim.Native.Nat.{ℕ, ◌+◌, ◌*◌, ◌^◌, ◌<◌, ◌≤◌}
use native.Mathlib.Omega.{arith}
use lib.Dec.{ltb}
use lib.ListN.{length}
use borrow.Author.Tests.{lt-ltb}
use Rattle.list.specs.Pick.{pick, both}
use Rattle.value.specs.Standard.{too_wide, signed}
use Rattle.value.specs.Value.{value_of, is_wide}
use Rattle.value.specs.declared.Mode.{Mode}
use Rattle.value.specs.declared.Mode.TheVariants.{Lenient, Checked}
use Rattle.value.proofs.Standard.{wide_is}
use Rattle.vlq_write.specs.Write.{write_of}
use Rattle.segment.specs.Segment.{wide_from}
use Rattle.checked_premises.specs.Checked.{takes, takes_each}
use Rattle.round.specs.Terms.{first_off}
use Rattle.round.proofs.Fields.{fields_at}

twice : (b : Bool) → b ≡ not (not b)
twice true = refl
twice false = refl

off_is : (mode : Mode) (v : ℕ) → is_wide (value_of mode v 0) ≡ not (takes mode v)
unfolding value_of takes
off_is Lenient v = refl
off_is Checked v =
    let z : v + 2 ^ 64 * 0 ≡ v = omega arith in
    ap (λ (u : ℕ). is_wide (signed u)) z ∙ wide_is v ∙ twice (too_wide v)

pub none_off : (mode : Mode) (vs : List ℕ) (i at : ℕ) → takes_each mode vs ≡ true → wide_from i (fields_at mode at vs) ≡ None
unfolding wide_from takes_each
none_off mode [] i at k = refl
none_off mode (v ∷ vs) i at k = by (takes mode v) refl (none_off mode vs (i + 1) (at + length (write_of v))) k
  where
    by : (b : Bool) → takes mode v ≡ b → (takes_each mode vs ≡ true → wide_from (i + 1) (fields_at mode (at + length (write_of v)) vs) ≡ None)
        → both b (takes_each mode vs) ≡ true
        → pick (both (is_wide (value_of mode v 0)) (ltb i 5)) (Some i) (wide_from (i + 1) (fields_at mode (at + length (write_of v)) vs)) ≡ None
    by true e ih k = rw (off_is mode v, e) (ih k)
    by false e ih k = let z : ◌≡◌ {A = ℕ} 0 1 = cc in absurd (omega (arith, z))

-- the first that checked mode does not take is one of them
pub off_less : (vs : List ℕ) → takes_each Checked vs ≡ false → first_off vs < length vs
unfolding takes_each first_off
off_less [] k = let z : ◌≡◌ {A = ℕ} 0 1 = cc in absurd (omega (arith, z))
off_less (v ∷ vs) k = by (takes Checked v) (off_less vs) k
  where
    by : (b : Bool) → (takes_each Checked vs ≡ false → first_off vs < length vs) → both b (takes_each Checked vs) ≡ false
        → pick b (first_off vs + 1) 0 < length (v ∷ vs)
    by true ih k = omega (arith, ih k)
    by false ih k = omega arith

first_off_from : (vs : List ℕ) (i at : ℕ) → takes_each Checked vs ≡ false → i + length vs ≤ 5 → wide_from i (fields_at Checked at vs) ≡ Some (i + first_off vs)
unfolding wide_from takes_each first_off
first_off_from [] i at k l = let z : ◌≡◌ {A = ℕ} 0 1 = cc in absurd (omega (arith, z))
first_off_from (v ∷ vs) i at k l = by (takes Checked v) refl (λ q. first_off_from vs (i + 1) (at + length (write_of v)) q (omega arith)) k
  where
    by : (b : Bool) → takes Checked v ≡ b
        → (takes_each Checked vs ≡ false → wide_from (i + 1) (fields_at Checked (at + length (write_of v)) vs) ≡ Some (i + 1 + first_off vs))
        → both b (takes_each Checked vs) ≡ false
        → pick (both (is_wide (value_of Checked v 0)) (ltb i 5)) (Some i) (wide_from (i + 1) (fields_at Checked (at + length (write_of v)) vs)) ≡ Some (i + pick b (first_off vs + 1) 0)
    by true e ih k = rw (off_is Checked v, e) (ih k ∙ ap Some (omega arith))
    by false e ih k = rw (off_is Checked v, e, lt-ltb i 5 (omega arith)) (ap Some (omega arith))

-- so it is the segment's first field that is too wide
pub is_off : (vs : List ℕ) (at : ℕ) → takes_each Checked vs ≡ false → length vs ≤ 5 → wide_from 0 (fields_at Checked at vs) ≡ Some (first_off vs)
is_off vs at k l = first_off_from vs 0 at k (omega arith) ∙ ap Some (omega arith)
