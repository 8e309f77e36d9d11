-- A number that ends within four bytes, as the code makes it of them. Assumes nothing.
use Rattle.std.specs.Prelude.{Some, Ok}
use mathlib.Core.Path.{◌≡◌, refl, sym, ◌∙◌, ap}
use mathlib.Core.Bool.{Bool, true, false}
use mathlib.Core.List.{List}
use mathlib.Core.Logic.{◌⊎◌, inl, inr}
use Prim.Native.Nat.{ℕ, zero, suc, ◌+◌, ◌-◌, ◌*◌, ◌/◌, ◌%◌, ◌^◌, ◌<◌, ◌≤◌}
use native.Mathlib.Nat.{pow-suc, mul_assoc}
use native.Mathlib.Omega.{arith}
use lib.Bits.{bit_and, bit_xor, and_mask, xor_block, xor_self}
use lib.Count.{count_trailing_zeros}
use lib.Dec.{T, ltb, eqb, eqb→eq}
use lib.ListN.{length, get_or}
use borrow.Author.Tests.{ltb-true, ltb-false, eqb-true, eq-eqb}
use Rattle.list.specs.Pick.{pick}
use Rattle.digits.specs.Digits.{digit_of, is_delim}
use Rattle.digits.specs.Tables.{word}
use Rattle.digits.proofs.Below as below
use Rattle.digits.proofs.Tables.{agree, agree_eq}
use Rattle.digits.proofs.Words.{first, second, third, fourth, zeros}
use Rattle.vlq.specs.Vlq.{vlq_at}
use Rattle.vlq.specs.Several.{each, end_of, high_of, low_of, bad_of, five_of, bits_of, count_of, FewIn}
use Rattle.vlq.proofs.Places.{put_exact}
use Rattle.vlq.proofs.Steps.{Reading, start, gives, turns}
use Rattle.vlq.proofs.Lanes.{Under, under, Lanes}

-- ---- one digit after another

-- five is the low five bits of the digit b
record Digit (b five : ℕ) : Type 0 where
  pub delim : is_delim b ≡ false
  pub is : five ≡ digit_of b % 32

module _ (s : List ℕ) (at cur k i five : ℕ) (r : Reading s at cur k i) (h : i < length s) (g : Digit (get_or s i 0) five) (few : k < 12) where
  whole : cur + five * 2 ^ (5 * k) ≡ (cur + digit_of (get_or s i 0) % 32 * 2 ^ (5 * k)) % 2 ^ 64
  whole =
      ap (λ (x : ℕ). cur + x * 2 ^ (5 * k)) g.is
      ∙ sym (put_exact cur k (digit_of (get_or s i 0) % 32) few (r.low (omega arith)) (omega arith))

  goes_on : 32 ≤ digit_of (get_or s i 0) → (next j : ℕ) → next ≡ cur + five * 2 ^ (5 * k) → j ≡ i + 1 → Reading s at next (k + 1) j
  goes_on q next j e p = rw (e, p, whole) (turns s at cur k i r h g.delim (omega arith) q)

  ends_here : digit_of (get_or s i 0) < 32 → (next j : ℕ) → next ≡ cur + five * 2 ^ (5 * k) → j ≡ i + 1 → 0 ≡ pick (eqb k 12) (digit_of (get_or s i 0) % 32 / 16) 0 → vlq_at s at ≡ Ok (Some (next, 0, j))
  ends_here q next j e p z =
      gives s at cur k i r h g.delim (omega arith) q next 0 (e ∙ whole) z ∙ ap (λ (m : ℕ). Ok (Some (next, 0, m))) (sym p)

module _ (s : List ℕ) (at x y z t : ℕ) (h : at + 4 ≤ length s) (ga : Digit (get_or s at 0) x) where
  one : digit_of (get_or s at 0) < 32 → vlq_at s at ≡ Ok (Some (x, 0, at + 1))
  one q = ends_here s at 0 0 at x (start s at (omega arith) ga.delim) (omega arith) ga (omega arith) q x (at + 1) (omega arith) refl refl

  module _ (qa : 32 ≤ digit_of (get_or s at 0)) (gb : Digit (get_or s (at + 1) 0) y) where
    after_one : Reading s at x 1 (at + 1)
    after_one = goes_on s at 0 0 at x (start s at (omega arith) ga.delim) (omega arith) ga (omega arith) qa x (at + 1) (omega arith) refl

    two : digit_of (get_or s (at + 1) 0) < 32 → vlq_at s at ≡ Ok (Some (x + y * 32, 0, at + 2))
    two q = ends_here s at x 1 (at + 1) y after_one (omega arith) gb (omega arith) q (x + y * 32) (at + 2) (omega arith) (omega arith) refl

    module _ (qb : 32 ≤ digit_of (get_or s (at + 1) 0)) (gc : Digit (get_or s (at + 2) 0) z) where
      after_two : Reading s at (x + y * 32) 2 (at + 2)
      after_two = goes_on s at x 1 (at + 1) y after_one (omega arith) gb (omega arith) qb (x + y * 32) (at + 2) (omega arith) (omega arith)

      three : digit_of (get_or s (at + 2) 0) < 32 → vlq_at s at ≡ Ok (Some (x + y * 32 + z * 1024, 0, at + 3))
      three q = ends_here s at (x + y * 32) 2 (at + 2) z after_two (omega arith) gc (omega arith) q (x + y * 32 + z * 1024) (at + 3) (omega arith) (omega arith) refl

      module _ (qc : 32 ≤ digit_of (get_or s (at + 2) 0)) (gd : Digit (get_or s (at + 3) 0) t) where
        after_three : Reading s at (x + y * 32 + z * 1024) 3 (at + 3)
        after_three = goes_on s at (x + y * 32) 2 (at + 2) z after_two (omega arith) gc (omega arith) qc (x + y * 32 + z * 1024) (at + 3) (omega arith) (omega arith)

        four : digit_of (get_or s (at + 3) 0) < 32 → vlq_at s at ≡ Ok (Some (x + y * 32 + z * 1024 + t * 32768, 0, at + 4))
        four q = ends_here s at (x + y * 32 + z * 1024) 3 (at + 3) t after_three (omega arith) gd (omega arith) q (x + y * 32 + z * 1024 + t * 32768) (at + 4) (omega arith) (omega arith) refl

-- ---- one byte below 128, by tests that antt computes
abbrev yields : Bool → Bool → Bool
yields true u = u
yields false u = true

yields_of : (t u : Bool) → T (yields t u) → t ≡ true → T u
yields_of true u h e = h
yields_of false u h e = let z : ◌≡◌ {A = ℕ} 0 1 = ap (λ (v : Bool). pick v 1 0) e in absurd (omega arith)

-- a test that each byte passes that is not bad
where_good : (f : ℕ → Bool) → T (below.below (λ n. yields (eqb (bad_of n) 0) (f n)) 128) → (n : ℕ) → n < 128 → bad_of n ≡ 0 → T (f n)
where_good f t n p z =
    yields_of (eqb (bad_of n) 0) (f n) (below.at (λ n. yields (eqb (bad_of n) 0) (f n)) 128 t n p) (eq-eqb (bad_of n) 0 z)

five_lt : Under five_of
unfolding five_of high_of low_of
five_lt = under five_of tt

bad_lt : Under bad_of
unfolding bad_of high_of low_of
bad_lt = under bad_of tt

module _ (n : ℕ) (p : n < 128) where
  end_cases : (end_of n ≡ 0) ⊎ (end_of n ≡ 128)
  unfolding end_of
  end_cases = by (eqb (end_of n) 0) refl (below.at (λ n. pick (eqb (end_of n) 0) true (eqb (end_of n) 128)) 128 tt n p)
    where
      by : (t : Bool) → eqb (end_of n) 0 ≡ t → T (pick t true (eqb (end_of n) 128)) → (end_of n ≡ 0) ⊎ (end_of n ≡ 128)
      by true e h = inl (eqb-true (end_of n) 0 e)
      by false e h = inr (eqb→eq (end_of n) 128 h)

  -- a byte that is not bad is a digit
  module _ (z : bad_of n ≡ 0) (b : ℕ) (e : b ≡ n) where
    good : Digit b (five_of n)
    unfolding bad_of five_of high_of low_of is_delim digit_of
    good =
        record {
          delim = ap is_delim e ∙ agree_eq (is_delim n) false (where_good (λ n. agree (is_delim n) false) tt n p z);
          is =
              eqb→eq (five_of n) (digit_of n % 32) (where_good (λ n. eqb (five_of n) (digit_of n % 32)) tt n p z)
              ∙ ap (λ (x : ℕ). digit_of x % 32) (sym e);
        }

    end_is : end_of n ≡ pick (ltb (digit_of n) 32) 128 0
    unfolding bad_of end_of high_of low_of digit_of
    end_is =
        eqb→eq (end_of n) (pick (ltb (digit_of n) 32) 128 0)
        (where_good (λ n. eqb (end_of n) (pick (ltb (digit_of n) 32) 128 0)) tt n p z)

    last : end_of n ≡ 128 → digit_of b < 32
    last q = rw e (by (ltb (digit_of n) 32) refl end_is)
      where
        by : (t : Bool) → ltb (digit_of n) 32 ≡ t → end_of n ≡ pick t 128 0 → digit_of n < 32
        by true u v = ltb-true (digit_of n) 32 u
        by false u v = absurd (omega arith)

    not_last : end_of n ≡ 0 → 32 ≤ digit_of b
    not_last q = rw e (by (ltb (digit_of n) 32) refl end_is)
      where
        by : (t : Bool) → ltb (digit_of n) 32 ≡ t → end_of n ≡ pick t 128 0 → 32 ≤ digit_of n
        by true u v = absurd (omega arith)
        by false u v = ltb-false (digit_of n) 32 u

-- ---- m is all bits up to the first byte that ends a value, and k counts the bytes
data Mask (a b c d m k : ℕ) : Type 0 where
  in_one : end_of a ≡ 128 → m ≡ 255 → k ≡ 1 → Mask a b c d m k
  in_two : end_of a ≡ 0 → end_of b ≡ 128 → m ≡ 65535 → k ≡ 2 → Mask a b c d m k
  in_three : end_of a ≡ 0 → end_of b ≡ 0 → end_of c ≡ 128 → m ≡ 16777215 → k ≡ 3 → Mask a b c d m k
  in_four : end_of a ≡ 0 → end_of b ≡ 0 → end_of c ≡ 0 → end_of d ≡ 128 → m ≡ 4294967295 → k ≡ 4 → Mask a b c d m k

ones : (k y r f : ℕ) → 0 < r → r < 2 ^ k → f ≡ y * 2 ^ k + r → bit_xor f (f - 1) ≡ bit_xor r (r - 1)
ones k y r f z h e =
    let q : f - 1 ≡ y * 2 ^ k + (r - 1) = omega arith in
    rw (q, e) (xor_block k y y r (r - 1) h (omega arith) ∙ ap (λ (x : ℕ). x * 2 ^ k + bit_xor r (r - 1)) (xor_self y) ∙ omega arith)

-- an odd number with i zeros after it
zeros_after : (d i m n : ℕ) → m % 2 ≡ 1 → i < d → n ≡ m * 2 ^ i → count_trailing_zeros d n ≡ i
unfolding count_trailing_zeros
zeros_after zero i m n o h e = absurd (omega arith)
zeros_after (suc d) zero m n o h e =
    let q : n % 2 ≡ 1 = omega arith in
    rw q
zeros_after (suc d) (suc i) m n o h e =
    let p : m * 2 ^ suc i ≡ m * 2 ^ i * 2 = ap (λ (x : ℕ). m * x) (pow-suc 2 i) ∙ sym (mul_assoc m (2 ^ i) 2) in
    let q : n % 2 ≡ 0 = omega arith in
    rw q (ap suc (zeros_after d i m (n / 2) o (omega arith) (omega arith)))

counts : (j y f : ℕ) → 8 * j + 7 < 32 → f ≡ (2 * y + 1) * 2 ^ (8 * j + 7) → count_of f ≡ j + 1
unfolding count_of
counts j y f h e = omega (arith, zeros_after 32 (8 * j + 7) (2 * y + 1) f (omega arith) h e)

module _ (a b c d f m : ℕ) (ef : f ≡ word (end_of a) (end_of b) (end_of c) (end_of d)) (nf : f ≡ 0 → ⊥) (em : m ≡ bit_xor f (f - 1)) where
  mask_by : (end_of a ≡ 0) ⊎ (end_of a ≡ 128) → (end_of b ≡ 0) ⊎ (end_of b ≡ 128) → (end_of c ≡ 0) ⊎ (end_of c ≡ 128) → (end_of d ≡ 0) ⊎ (end_of d ≡ 128)
      → Mask a b c d m (count_of f)
  mask_by (inr p) x y z =
      in_one p (em ∙ ones 8 ((end_of d * 256 + end_of c) * 256 + end_of b) 128 f (omega arith) (omega arith) (omega arith))
      (counts 0 ((end_of d * 256 + end_of c) * 256 + end_of b) f (omega arith) (omega arith))
  mask_by (inl p) (inr q) y z =
      in_two p q (em ∙ ones 16 (end_of d * 256 + end_of c) 32768 f (omega arith) (omega arith) (omega arith))
      (counts 1 (end_of d * 256 + end_of c) f (omega arith) (omega arith))
  mask_by (inl p) (inl q) (inr r) z =
      in_three p q r (em ∙ ones 24 (end_of d) 8388608 f (omega arith) (omega arith) (omega arith)) (counts 2 (end_of d) f (omega arith) (omega arith))
  mask_by (inl p) (inl q) (inl r) (inr t) =
      in_four p q r t (em ∙ ones 32 0 2147483648 f (omega arith) (omega arith) (omega arith)) (counts 3 0 f (omega arith) (omega arith))
  mask_by (inl p) (inl q) (inl r) (inl t) = absurd (nf (omega arith))

-- what the mask leaves of four bytes
module _ (v p q r t m : ℕ) (ev : v ≡ word p q r t) (hp : p < 256) (hq : q < 256) (hr : r < 256) (ht : t < 256) where
  left_one : m ≡ 255 → bit_and v m ≡ word p 0 0 0
  left_one e = rw e (and_mask v 8 ∙ omega arith)

  left_two : m ≡ 65535 → bit_and v m ≡ word p q 0 0
  left_two e = rw e (and_mask v 16 ∙ omega arith)

  left_three : m ≡ 16777215 → bit_and v m ≡ word p q r 0
  left_three e = rw e (and_mask v 24 ∙ omega arith)

  left_four : m ≡ 4294967295 → bit_and v m ≡ word p q r t
  left_four e = rw e (and_mask v 32 ∙ omega arith)

bits_word : (p q r t : ℕ) → p < 256 → q < 256 → r < 256 → bits_of (word p q r t) ≡ p + q * 32 + r * 1024 + t * 32768
bits_word p q r t hp hq hr = rw (first p q r t hp, second p q r t hp hq, third p q r t hp hq hr, fourth p q r t hp hq hr)

counted : (a b c d m k : ℕ) → Mask a b c d m k → k ≤ 4
counted a b c d m k (in_one p e n) = omega arith
counted a b c d m k (in_two p q e n) = omega arith
counted a b c d m k (in_three p q r e n) = omega arith
counted a b c d m k (in_four p q r t e n) = omega arith

-- ---- the number that the code makes is the one that stands there
module _ (a b c d : ℕ) (pa : a < 128) (pb : b < 128) (pc : c < 128) (pd : d < 128) (m bad five bits count : ℕ)
    (eb : bad ≡ word (bad_of a) (bad_of b) (bad_of c) (bad_of d)) (nb : bit_and bad m ≡ 0)
    (ef : five ≡ word (five_of a) (five_of b) (five_of c) (five_of d)) (ev : bits ≡ bits_of (bit_and five m))
    (s : List ℕ) (at : ℕ) (h : at + 4 ≤ length s)
    (sa : get_or s at 0 ≡ a) (sb : get_or s (at + 1) 0 ≡ b) (sc : get_or s (at + 2) 0 ≡ c) (sd : get_or s (at + 3) 0 ≡ d) where
  so : (v k : ℕ) → vlq_at s at ≡ Ok (Some (v, 0, at + k)) → v ≡ bits → k ≡ count → vlq_at s at ≡ Ok (Some (bits, 0, at + count))
  so v k e p q = e ∙ ap (λ (x : ℕ). Ok (Some (x, 0, at + k))) p ∙ ap (λ (x : ℕ). Ok (Some (bits, 0, at + x))) q

  value : Mask a b c d m count → vlq_at s at ≡ Ok (Some (bits, 0, at + count))
  value (in_one p e n) =
      let z = zeros (bad_of a) 0 0 0 (sym (left_one bad (bad_of a) (bad_of b) (bad_of c) (bad_of d) m eb (bad_lt a pa) (bad_lt b pb) (bad_lt c pc) (bad_lt d pd) e) ∙ nb) in
      let v : bits ≡ five_of a = ev ∙ ap bits_of (left_one five (five_of a) (five_of b) (five_of c) (five_of d) m ef (five_lt a pa) (five_lt b pb) (five_lt c pc) (five_lt d pd) e) ∙ bits_word (five_of a) 0 0 0 (five_lt a pa) (omega arith) (omega arith) ∙ omega arith in
      so (five_of a) 1
      (one s at (five_of a) (five_of b) (five_of c) (five_of d) h (good a pa z.0 (get_or s at 0) sa) (last a pa z.0 (get_or s at 0) sa p))
      (sym v) (sym n)
  value (in_two p q e n) =
      let z = zeros (bad_of a) (bad_of b) 0 0 (sym (left_two bad (bad_of a) (bad_of b) (bad_of c) (bad_of d) m eb (bad_lt a pa) (bad_lt b pb) (bad_lt c pc) (bad_lt d pd) e) ∙ nb) in
      let v : bits ≡ five_of a + five_of b * 32 = ev ∙ ap bits_of (left_two five (five_of a) (five_of b) (five_of c) (five_of d) m ef (five_lt a pa) (five_lt b pb) (five_lt c pc) (five_lt d pd) e) ∙ bits_word (five_of a) (five_of b) 0 0 (five_lt a pa) (five_lt b pb) (omega arith) ∙ omega arith in
      so (five_of a + five_of b * 32) 2
      (two s at (five_of a) (five_of b) (five_of c) (five_of d) h (good a pa z.0 (get_or s at 0) sa) (not_last a pa z.0 (get_or s at 0) sa p)
      (good b pb z.1.0 (get_or s (at + 1) 0) sb) (last b pb z.1.0 (get_or s (at + 1) 0) sb q))
      (sym v) (sym n)
  value (in_three p q r e n) =
      let z = zeros (bad_of a) (bad_of b) (bad_of c) 0 (sym (left_three bad (bad_of a) (bad_of b) (bad_of c) (bad_of d) m eb (bad_lt a pa) (bad_lt b pb) (bad_lt c pc) (bad_lt d pd) e) ∙ nb) in
      let v : bits ≡ five_of a + five_of b * 32 + five_of c * 1024 = ev ∙ ap bits_of (left_three five (five_of a) (five_of b) (five_of c) (five_of d) m ef (five_lt a pa) (five_lt b pb) (five_lt c pc) (five_lt d pd) e) ∙ bits_word (five_of a) (five_of b) (five_of c) 0 (five_lt a pa) (five_lt b pb) (five_lt c pc) ∙ omega arith in
      so (five_of a + five_of b * 32 + five_of c * 1024) 3
      (three s at (five_of a) (five_of b) (five_of c) (five_of d) h (good a pa z.0 (get_or s at 0) sa) (not_last a pa z.0 (get_or s at 0) sa p)
      (good b pb z.1.0 (get_or s (at + 1) 0) sb) (not_last b pb z.1.0 (get_or s (at + 1) 0) sb q)
      (good c pc z.1.1.0 (get_or s (at + 2) 0) sc) (last c pc z.1.1.0 (get_or s (at + 2) 0) sc r))
      (sym v) (sym n)
  value (in_four p q r t e n) =
      let z = zeros (bad_of a) (bad_of b) (bad_of c) (bad_of d) (sym (left_four bad (bad_of a) (bad_of b) (bad_of c) (bad_of d) m eb (bad_lt a pa) (bad_lt b pb) (bad_lt c pc) (bad_lt d pd) e) ∙ nb) in
      let v : bits ≡ five_of a + five_of b * 32 + five_of c * 1024 + five_of d * 32768 = ev ∙ ap bits_of (left_four five (five_of a) (five_of b) (five_of c) (five_of d) m ef (five_lt a pa) (five_lt b pb) (five_lt c pc) (five_lt d pd) e) ∙ bits_word (five_of a) (five_of b) (five_of c) (five_of d) (five_lt a pa) (five_lt b pb) (five_lt c pc) in
      so (five_of a + five_of b * 32 + five_of c * 1024 + five_of d * 32768) 4
      (four s at (five_of a) (five_of b) (five_of c) (five_of d) h (good a pa z.0 (get_or s at 0) sa) (not_last a pa z.0 (get_or s at 0) sa p)
      (good b pb z.1.0 (get_or s (at + 1) 0) sb) (not_last b pb z.1.0 (get_or s (at + 1) 0) sb q)
      (good c pc z.1.1.0 (get_or s (at + 2) 0) sc) (not_last c pc z.1.1.0 (get_or s (at + 2) 0) sc r)
      (good d pd z.1.1.1 (get_or s (at + 3) 0) sd) (last d pd z.1.1.1 (get_or s (at + 3) 0) sd t))
      (sym v) (sym n)

module _ (w : ℕ) (l : Lanes w) (f m bad five bits count : ℕ) (ee : f ≡ each end_of w) (nf : f ≡ 0 → ⊥) (em : m ≡ bit_xor f (f - 1))
    (eb : bad ≡ each bad_of w) (nb : bit_and bad m ≡ 0) (ef : five ≡ each five_of w) (ev : bits ≡ bits_of (bit_and five m)) (ec : count ≡ count_of f) where
  mask : Mask (w % 256) (w / 256 % 256) (w / 65536 % 256) (w / 16777216) m count
  mask =
      rw ec
      (mask_by (w % 256) (w / 256 % 256) (w / 65536 % 256) (w / 16777216) f m ee nf em
      (end_cases (w % 256) l.first) (end_cases (w / 256 % 256) l.second) (end_cases (w / 65536 % 256) l.third) (end_cases (w / 16777216) l.fourth))

  pub few : FewIn w (record { bits = bits; count = count })
  few = λ s at h small is. record {
    short = counted (w % 256) (w / 256 % 256) (w / 65536 % 256) (w / 16777216) m count mask;
    reads =
        value (w % 256) (w / 256 % 256) (w / 65536 % 256) (w / 16777216) l.first l.second l.third l.fourth
        m bad five bits count eb nb ef ev s at h
        (sym (ap (λ (x : ℕ). x % 256) is ∙ first (get_or s at 0) (get_or s (at + 1) 0) (get_or s (at + 2) 0) (get_or s (at + 3) 0) (small at)))
        (sym (ap (λ (x : ℕ). x / 256 % 256) is ∙ second (get_or s at 0) (get_or s (at + 1) 0) (get_or s (at + 2) 0) (get_or s (at + 3) 0) (small at) (small (at + 1))))
        (sym (ap (λ (x : ℕ). x / 65536 % 256) is ∙ third (get_or s at 0) (get_or s (at + 1) 0) (get_or s (at + 2) 0) (get_or s (at + 3) 0) (small at) (small (at + 1)) (small (at + 2))))
        (sym (ap (λ (x : ℕ). x / 16777216) is ∙ fourth (get_or s at 0) (get_or s (at + 1) 0) (get_or s (at + 2) 0) (get_or s (at + 3) 0) (small at) (small (at + 1)) (small (at + 2))))
        mask;
  }
