-- The slot of a name: its loop, and that it is one of the slots. Assumes nothing.
use mathlib.Core.Path.{◌≡◌, refl, ap, sym, ◌∙◌}
use mathlib.Core.Bool.{true}
use mathlib.Core.List.{List, [], ◌∷◌}
use Prim.Native.Nat.{ℕ, ◌+◌, ◌*◌, ◌/◌, ◌%◌, ◌^◌, ◌≤◌, ◌<◌}
use native.Mathlib.Omega.{arith}
use native.Mathlib.Nat.{mod-lt, mul-le-mul, mul-lt-mul_of_pos_right, div-lt_iff_lt-mul, mul_comm}
use native.Mathlib.Numerals.{add-one}
use lib.ListN.{length, drop, get_or}
use lib.Seq.{drop-cons, drop-length}
use Rattle.names.specs.Names.{NameList, sound}
use Rattle.names.proofs.Ends.{few}
use Rattle.name_index.specs.Index.{hash_from, slot_of, slots_for}

hash_small : (h : ℕ) (name : List ℕ) → h < 4294967296 → hash_from h name < 4294967296
unfolding hash_from
hash_small h [] l = l
hash_small h (b ∷ bs) l =
    hash_small ((h + b) * 2654435761 % 4294967296) bs (mod-lt ((h + b) * 2654435761) {m = 4294967296} (omega arith))

-- ---- the loop: h is the number of the first i bytes
pub record Hashing (name : List ℕ) (h i : ℕ) : Type 0 where
  pub within : i ≤ length name
  pub small : h < 4294967296
  pub is : hash_from 0 name ≡ hash_from h (drop i name)

pub start : (name : List ℕ) → Hashing name 0 0
start name = record { within = omega arith; small = omega arith; is = refl }

module _ (name : List ℕ) (h i : ℕ) (l : Hashing name h i) where
  pub step : i < length name → Hashing name ((h + get_or name i 0) * 2654435761 % 4294967296) (i + 1)
  unfolding hash_from
  step k =
      record {
        within = omega arith;
        small = mod-lt ((h + get_or name i 0) * 2654435761) {m = 4294967296} (omega arith);
        is = l.is ∙ rw (drop-cons name i 0 k, add-one i);
      }

  pub ended : length name ≤ i → h ≡ hash_from 0 name
  unfolding hash_from
  ended k =
      let e : i ≡ length name = omega (arith, l.within) in
      let d : drop i name ≡ [] = ap (λ (j : ℕ). drop j name) e ∙ drop-length name in
      sym (l.is ∙ ap (hash_from h) d)

-- ---- the slot
pub product_fits : (h slots : ℕ) (name : List ℕ) → h ≡ hash_from 0 name → slots ≤ 4294967294 → h * slots < 2 ^ 64
product_fits h slots name e k =
    let s : h ≤ 4294967295 = omega (arith, hash_small 0 name (omega arith)) in
    let m : h * slots ≤ 4294967295 * 4294967294 = mul-le-mul s k in
    omega arith

pub is_slot : (h slots : ℕ) (name : List ℕ) → h ≡ hash_from 0 name → h * slots / 4294967296 ≡ slot_of slots name
unfolding slot_of
is_slot h slots name e = rw e

pub slot_small : (slots : ℕ) (name : List ℕ) → 0 < slots → slot_of slots name < slots
unfolding slot_of
slot_small slots name z =
    let m : hash_from 0 name * slots < 4294967296 * slots = mul-lt-mul_of_pos_right (hash_small 0 name (omega arith)) z in
    (div-lt_iff_lt-mul {k = 4294967296} {x = hash_from 0 name * slots} {y = slots} (omega arith)).1 (rw (mul_comm slots 4294967296) m)

-- so many entries fit 32 bits
pub few_slots : (inner outer : NameList) → sound inner ≡ true → sound outer ≡ true → slots_for inner outer ≤ 4294967294
few_slots inner outer a b = omega (arith, few inner a, few outer b)
