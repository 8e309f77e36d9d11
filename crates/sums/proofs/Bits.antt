-- The bits of the sum of a running number and a signed 64-bit number. Assumes nothing.
use Rattle.std.proofs.Common.{◌≡◌, ℕ, suc, ◌+◌, ◌-◌, ◌%◌, ◌^◌, ◌<◌, ◌≤◌, Bool, true, false, cond, ltb, ℤ, pos, negsuc, ◌+ℤ◌, nat_abs, sym, refl, ap, ◌∙◌, lt_of_not-le, arith, w64, to_z, of_z, ltb-false, ltb-true}
use native.Mathlib.Decide.{dec_le}
use Rattle.value.specs.Value.{as_signed}
use Rattle.value.proofs.Signed.{as_signed_low, as_signed_high}

-- the lower half of the bits, or the upper
pub halves : {A : Type 0} (n : ℕ) → (n < 2 ^ 63 → A) → (2 ^ 63 ≤ n → A) → A
halves n low high = elim (dec_le (2 ^ 63) n) [ yes h ↦ high h | no h ↦ low (lt_of_not-le h) ]

-- what a signed local holds, read back
abbrev pub held : ℤ → ℤ
held z = to_z w64 (of_z w64 z)

-- b, and the bits x of a value v: their sum modulo 2^64 has the bits of b + v
module _ (b x : ℕ) (hb : b < 2 ^ 32) (hx : x < 2 ^ 64) where
  of_up : x ≤ 2 ^ 62 → as_signed ((b + x) % 2 ^ 64) ≡ pos (b + x)
  of_up few = let s : (b + x) % 2 ^ 64 ≡ b + x = omega arith in rw s (as_signed_low (b + x) (omega arith))

  -- below 0, and from there to 0 or above
  of_down : (n : ℕ) → x + suc n ≡ 2 ^ 64 → suc n ≤ 2 ^ 62 → as_signed ((b + x) % 2 ^ 64) ≡ pos b +ℤ negsuc n
  of_down n e few = go (ltb b (suc n)) refl
    where
      go : (t : Bool) → ltb b (suc n) ≡ t → as_signed ((b + x) % 2 ^ 64) ≡ cond t (negsuc (suc n - suc b)) (pos (b - suc n))
      go true q =
          let h : b < suc n = ltb-true b (suc n) q in
          let s : (b + x) % 2 ^ 64 ≡ b + x = omega arith in
          let m : 2 ^ 64 - suc (b + x) ≡ suc n - suc b = omega arith in
          rw s (as_signed_high (b + x) (omega arith) ∙ ap negsuc m)
      go false q =
          let h : suc n ≤ b = ltb-false b (suc n) q in
          let s : (b + x) % 2 ^ 64 ≡ b - suc n = omega arith in
          rw s (as_signed_low (b - suc n) (omega arith))

  pub sum_bits : (v : ℤ) → as_signed x ≡ v → nat_abs v ≤ 2 ^ 62 → as_signed ((b + x) % 2 ^ 64) ≡ pos b +ℤ v
  sum_bits v e few =
      halves
      x
      (λ h. let i : pos x ≡ v = sym (as_signed_low x h) ∙ e in rw (← i) (of_up (rw (← i) at few)))
      (λ h.
      let i : negsuc (2 ^ 64 - suc x) ≡ v = sym (as_signed_high x h) ∙ e in
      rw (← i) (of_down (2 ^ 64 - suc x) (omega arith) (rw (← i) at few)))
