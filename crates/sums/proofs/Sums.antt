-- What each mode makes of a sum, from its bits. Assumes nothing.
use Rattle.std.specs.Prelude.{Some, None, Ok, Err}
use Rattle.std.proofs.Common.{◌≡◌, ℕ, suc, ◌-◌, ◌%◌, ◌^◌, ◌<◌, ◌≤◌, ℤ, pos, negsuc, ◌+ℤ◌, sym, refl, ap, ◌∙◌, arith, w64, SFits, le-ltb, lt-ltb}
use mir.ValLaws.{to_z-of_z}
use Rattle.value.specs.declared.Mode.{Mode}
use Rattle.value.specs.declared.Mode.TheVariants.{Lenient, Checked}
use Rattle.value.specs.Value.{as_signed}
use Rattle.value.proofs.Signed.{as_signed_low, as_signed_high}
use Rattle.sums.specs.Sums.{reduced_of, sum_of, id_of, name_sum_of, widest_of}
use Rattle.sums.specs.declared.Unkept.{Unkept}
use Rattle.sums.proofs.Bits.{halves, held}

-- each mode keeps 32 bits at the least, and nothing below 0
record Widest (mode : Mode) : Type 0 where
  least : 2 ^ 32 ≤ suc (widest_of mode)
  most : widest_of mode < 2 ^ 63

bounds : (mode : Mode) → Widest mode
unfolding widest_of
bounds Lenient = record { least = omega arith; most = omega arith }
bounds Checked = record { least = omega arith; most = omega arith }

within : (mode : Mode) (n : ℕ) → n ≤ widest_of mode → Ok (n % 2 ^ 32) ≡ reduced_of mode n
unfolding reduced_of widest_of
within Lenient n h = refl
within Checked n h =
    let s : n % 2 ^ 32 ≡ n = omega arith in
    rw (lt-ltb n 4294967296 (omega arith)) (ap Ok s)

beyond : (mode : Mode) (n : ℕ) → widest_of mode < n → n < 2 ^ 63 → (Err Unkept.Wide) ≡ reduced_of mode n
unfolding reduced_of widest_of
beyond Lenient n h l = absurd (omega arith)
beyond Checked n h l = rw (le-ltb n 4294967296 (omega arith))

-- n are the bits of the sum, as `sum_of` says, whose argument the code reads back
module _ (b : ℕ) (v : ℤ) (f : SFits w64 v) (n : ℕ) (hn : n < 2 ^ 64) (is : as_signed n ≡ pos b +ℤ held v) where
  abbrev z : ℤ
  z = pos b +ℤ v

  sum_is : z ≡ as_signed n
  sum_is = sym (rw (to_z-of_z w64 v f) at is)

  up : n < 2 ^ 63 → z ≡ pos n
  up h = sum_is ∙ as_signed_low n h

  down : 2 ^ 63 ≤ n → z ≡ negsuc (2 ^ 64 - suc n)
  down h = sum_is ∙ as_signed_high n h

  -- ---- `advance`
  pub negative : (mode : Mode) → 2 ^ 63 ≤ n → (Err Unkept.Negative) ≡ sum_of mode z
  unfolding sum_of
  negative mode h = rw (down h)

  module _ (mode : Mode) (w : ℕ) (ew : w ≡ widest_of mode) where
    pub kept : n ≤ w → Ok (n % 2 ^ 32) ≡ sum_of mode z
    unfolding sum_of
    kept h = rw (up (omega (arith, (bounds mode).most))) (within mode n (omega arith))

    pub wide : w < n → n < 2 ^ 63 → (Err Unkept.Wide) ≡ sum_of mode z
    unfolding sum_of
    wide h l = rw (up l) (beyond mode n (omega arith) l)

  -- ---- `source_after`
  pub inside : (count : ℕ) → count < 2 ^ 32 → n < count → Some n ≡ id_of count z
  unfolding id_of
  inside count l h = rw (up (omega arith), lt-ltb n count h)

  pub outside : (count : ℕ) → count ≤ n → None ≡ id_of count z
  unfolding id_of
  outside count h = halves n (λ l. rw (up l, le-ltb n count h)) (λ l. rw (down l))

  -- ---- `name_after`
  pub name_kept : (mode : Mode) → n < 2 ^ 32 → Ok n ≡ name_sum_of mode z
  unfolding name_sum_of
  name_kept mode h =
      let s : n ≡ n % 2 ^ 32 = omega arith in
      rw (up (omega arith)) (ap Ok s ∙ within mode n (omega (arith, (bounds mode).least)))

  -- the low 32 bits are the sum modulo 2^32, of a negative one too
  pub name_reduced : Ok (n % 2 ^ 32) ≡ name_sum_of Lenient z
  unfolding name_sum_of reduced_of
  name_reduced = halves n (λ l. rw (up l)) (λ l. rw (down l) (ap Ok (omega arith)))

  pub name_wide : 2 ^ 32 ≤ n → (Err Unkept.Wide) ≡ name_sum_of Checked z
  unfolding name_sum_of reduced_of
  name_wide h = halves n (λ l. rw (up l, le-ltb n 4294967296 h)) (λ l. rw (down l))
