-- Four bytes at once: what the tests of their bits say of each, and what is made of it. A fact of one byte is computed at all of
-- them. Assumes nothing.
use Rattle.std.proofs.Common.{◌≡◌, ℕ, ◌+◌, ◌-◌, ◌*◌, ◌/◌, ◌%◌, ◌^◌, ◌<◌, ◌≤◌, Bool, true, false, T, eqb, ltb, leb, sym, ap, ◌∙◌, subst, arith, eqb→eq, ltb→lt, leb→le, eq-eqb}
use lib.Bits.{bit_and, bit_or, bit_xor, or_lt, xor_lt}
use Rattle.list.specs.Pick.{pick}
use Rattle.list.proofs.Table.{both}
use Rattle.digits.specs.Digits.{digit_of, is_delim}
use Rattle.digits.specs.Tables.{short_of, step_of, word}
use Rattle.digits.proofs.Below as below
use Rattle.digits.proofs.Below.{both_left, both_right}
use Rattle.digits.proofs.Words.{and_lanes, or_lanes, xor_lanes, add_word, sub_word, mul_word, zeros, none_high}
use Rattle.digits.proofs.Words as words
use Rattle.digits.proofs.Shorts as short
use Rattle.short.specs.Short.{Bytes, Ones, Read, Stepping}

-- where the condition holds
given : (c t : Bool) → c ≡ true → T (pick c t true) → T t
given true t e h = h
given false t e h = absurd (subst T (sym e) tt)

-- ---- one byte

abbrev twelve : ℕ → ℕ
twelve x = bit_and x 32 / 8 * 3

record Lane (x : ℕ) : Type 0 where
  eight : bit_and x 32 ≡ 8 * (bit_and x 32 / 8)
  less : twelve x ≤ x
  even : twelve x ≡ 2 * (twelve x / 2)

lane_test : ℕ → Bool
lane_test x = both (eqb (bit_and x 32) (8 * (bit_and x 32 / 8))) (both (leb (twelve x) x) (eqb (twelve x) (2 * (twelve x / 2))))

lane : (x : ℕ) → x < 128 → Lane x
unfolding lane_test
lane x h =
    let p = below.at lane_test 128 tt x h in
    let q = both_right (eqb (bit_and x 32) (8 * (bit_and x 32 / 8))) (both (leb (twelve x) x) (eqb (twelve x) (2 * (twelve x / 2)))) p in
    record {
      eight = eqb→eq _ _ (both_left (eqb (bit_and x 32) (8 * (bit_and x 32 / 8))) (both (leb (twelve x) x) (eqb (twelve x) (2 * (twelve x / 2)))) p);
      less = leb→le _ _ (both_left (leb (twelve x) x) (eqb (twelve x) (2 * (twelve x / 2))) q);
      even = eqb→eq _ _ (both_right (leb (twelve x) x) (eqb (twelve x) (2 * (twelve x / 2))) q);
    }

-- the highest bit is set where v is 26 or more, and where it is 1
abbrev tested : ℕ → ℕ
tested v = bit_or (v + 102) (128 - bit_xor v 1)

flipped : (v : ℕ) → v < 128 → bit_xor v 1 ≤ 127
flipped v h = omega (arith, xor_lt 7 v 1 h (omega arith))

tested_small : (v : ℕ) → v < 128 → tested v < 256
tested_small v h = or_lt 8 (v + 102) (128 - bit_xor v 1) (omega arith) (omega arith)

one_test : ℕ → Bool
one_test x =
    pick (eqb (bit_and (tested (x - twelve x)) 128) 0) (both (eqb (x - twelve x + twelve x / 2) (digit_of (x + 65))) (ltb (short_of (x + 65)) 32)) true

record One (x : ℕ) : Type 0 where
  digit : x - twelve x + twelve x / 2 ≡ digit_of (x + 65)
  short : short_of (x + 65) < 32

one : (x : ℕ) → x < 128 → bit_and (tested (x - twelve x)) 128 ≡ 0 → One x
unfolding one_test digit_of short_of is_delim
one x h e =
    let d = eqb (x - twelve x + twelve x / 2) (digit_of (x + 65)) in
    let s = ltb (short_of (x + 65)) 32 in
    let p : T (both d s) = given (eqb (bit_and (tested (x - twelve x)) 128) 0) (both d s) (eq-eqb (bit_and (tested (x - twelve x)) 128) 0 e) (below.at one_test 128 tt x h) in
    record { digit = eqb→eq _ _ (both_left d s p); short = ltb→lt _ _ (both_right d s p) }

-- ---- four bytes

eighths : (p q r s : ℕ) → word (8 * p) (8 * q) (8 * r) (8 * s) / 8 * 3 ≡ word (p * 3) (q * 3) (r * 3) (s * 3)
eighths p q r s = omega arith

halves : (p q r s : ℕ) → word (2 * p) (2 * q) (2 * r) (2 * s) / 2 ≡ word p q r s
halves p q r s = omega arith

module _ (a b c d : ℕ) (la : a < 128) (lb : b < 128) (lc : c < 128) (ld : d < 128) where
  flips_are : bit_xor (word a b c d) 16843009 ≡ word (bit_xor a 1) (bit_xor b 1) (bit_xor c 1) (bit_xor d 1)
  flips_are = xor_lanes a b c d 1 1 1 1 (omega arith) (omega arith) (omega arith) (omega arith) (omega arith) (omega arith)

  flips_fit : bit_xor (word a b c d) 16843009 ≤ 2139062143
  flips_fit = omega (arith, flips_are, flipped a la, flipped b lb, flipped c lc, flipped d ld)

  tests_are : bit_and (bit_or (word a b c d + 1717986918) (2155905152 - bit_xor (word a b c d) 16843009)) 2155905152
      ≡ word (bit_and (tested a) 128) (bit_and (tested b) 128) (bit_and (tested c) 128) (bit_and (tested d) 128)
  tests_are =
      rw (
        add_word a b c d 102 102 102 102,
        flips_are,
        sub_word 128 128 128 128 (bit_xor a 1) (bit_xor b 1) (bit_xor c 1) (bit_xor d 1)
            (omega (arith, flipped a la)) (omega (arith, flipped b lb)) (omega (arith, flipped c lc)) (omega (arith, flipped d ld)),
        or_lanes (a + 102) (b + 102) (c + 102) (d + 102) (128 - bit_xor a 1) (128 - bit_xor b 1) (128 - bit_xor c 1) (128 - bit_xor d 1)
            (omega arith) (omega arith) (omega arith) (omega arith) (omega arith) (omega arith),
      )
      (and_lanes (tested a) (tested b) (tested c) (tested d) 128 128 128 128 (tested_small a la) (tested_small b lb) (tested_small c lc) (omega arith) (omega arith) (omega arith))

-- the bytes of a number below 2^32
pub bytes : (w : ℕ) → w < 2 ^ 32 → Bytes 256 w
bytes w h =
    record {
      a = w % 256;
      b = w / 256 % 256;
      c = w / 65536 % 256;
      d = w / 16777216;
      is = omega arith;
      la = omega arith;
      lb = omega arith;
      lc = omega arith;
      ld = omega arith;
    }

-- no byte has its highest bit
narrowed : (a b c d : ℕ) → a < 256 → b < 256 → c < 256 → d < 256 → bit_and (word a b c d) 2155905152 ≡ 0 → (a < 128) × ((b < 128) × ((c < 128) × (d < 128)))
narrowed a b c d la lb lc ld e =
    let z = zeros (bit_and a 128) (bit_and b 128) (bit_and c 128) (bit_and d 128) (sym (and_lanes a b c d 128 128 128 128 la lb lc (omega arith) (omega arith) (omega arith)) ∙ e) in
    (none_high a la z.0, (none_high b lb z.1.0, (none_high c lc z.1.1.0, none_high d ld z.1.1.1)))

pub narrow : (w : ℕ) → w < 2 ^ 32 → bit_and w 2155905152 ≡ 0 → Bytes 128 w
narrow w h e =
    let x = bytes w h in
    let z = narrowed x.a x.b x.c x.d x.la x.lb x.lc x.ld (ap (λ (n : ℕ). bit_and n 2155905152) (sym x.is) ∙ e) in
    record { a = x.a; b = x.b; c = x.c; d = x.d; is = x.is; la = z.0; lb = z.1.0; lc = z.1.1.0; ld = z.1.1.1 }

module _ (t : ℕ) (x : Bytes 128 t) where
  A : Lane x.a
  A = lane x.a x.la

  B : Lane x.b
  B = lane x.b x.lb

  C : Lane x.c
  C = lane x.c x.lc

  D : Lane x.d
  D = lane x.d x.ld

  pub below_half : t ≤ 2139062143
  below_half = omega (arith, x.is, x.la, x.lb, x.lc, x.ld)

  masked : bit_and t 538976288 ≡ word (bit_and x.a 32) (bit_and x.b 32) (bit_and x.c 32) (bit_and x.d 32)
  masked =
      ap (λ (n : ℕ). bit_and n 538976288) x.is
      ∙ and_lanes x.a x.b x.c x.d 32 32 32 32 (omega (arith, x.la)) (omega (arith, x.lb)) (omega (arith, x.lc)) (omega arith) (omega arith) (omega arith)

  twelves_are : bit_and t 538976288 / 8 * 3 ≡ word (twelve x.a) (twelve x.b) (twelve x.c) (twelve x.d)
  twelves_are =
      ap (λ (n : ℕ). n / 8 * 3) (masked ∙ by (bit_and x.a 32) (bit_and x.b 32) (bit_and x.c 32) (bit_and x.d 32) _ _ _ _ A.eight B.eight C.eight D.eight)
      ∙ eighths (bit_and x.a 32 / 8) (bit_and x.b 32 / 8) (bit_and x.c 32 / 8) (bit_and x.d 32 / 8)
    where
      by : (p q r s p' q' r' s' : ℕ) → p ≡ 8 * p' → q ≡ 8 * q' → r ≡ 8 * r' → s ≡ 8 * s' → word p q r s ≡ word (8 * p') (8 * q') (8 * r') (8 * s')
      by p q r s p' q' r' s' e f g h = rw (e, f, g, h)

  -- the code's numbers
  module _ (k : ℕ) (ek : k ≡ bit_and t 538976288 / 8 * 3) where
    k_is : k ≡ word (twelve x.a) (twelve x.b) (twelve x.c) (twelve x.d)
    k_is = ek ∙ twelves_are

    left_is : t - k ≡ word (x.a - twelve x.a) (x.b - twelve x.b) (x.c - twelve x.c) (x.d - twelve x.d)
    left_is = rw (x.is, k_is) (sub_word x.a x.b x.c x.d _ _ _ _ A.less B.less C.less D.less)

    pub flip_fits : bit_xor (t - k) 16843009 ≤ 2139062143
    flip_fits =
        rw left_is
        (flips_fit (x.a - twelve x.a) (x.b - twelve x.b) (x.c - twelve x.c) (x.d - twelve x.d) (omega (arith, x.la)) (omega (arith, x.lb)) (omega (arith, x.lc)) (omega (arith, x.ld)))

    digits_are : t - k + k / 2 ≡ word (x.a - twelve x.a + twelve x.a / 2) (x.b - twelve x.b + twelve x.b / 2)
        (x.c - twelve x.c + twelve x.c / 2) (x.d - twelve x.d + twelve x.d / 2)
    digits_are =
        rw (left_is, half_is)
        (add_word (x.a - twelve x.a) (x.b - twelve x.b) (x.c - twelve x.c) (x.d - twelve x.d) (twelve x.a / 2) (twelve x.b / 2) (twelve x.c / 2) (twelve x.d / 2))
      where
        by : (p q r s p' q' r' s' : ℕ) → p ≡ 2 * p' → q ≡ 2 * q' → r ≡ 2 * r' → s ≡ 2 * s' → word p q r s / 2 ≡ word p' q' r' s'
        by p q r s p' q' r' s' e f g h = rw (e, f, g, h) (halves p' q' r' s')

        half_is : k / 2 ≡ word (twelve x.a / 2) (twelve x.b / 2) (twelve x.c / 2) (twelve x.d / 2)
        half_is = ap (λ (n : ℕ). n / 2) k_is ∙ by _ _ _ _ _ _ _ _ A.even B.even C.even D.even

    over_is : bit_and (bit_or (t - k + 1717986918) (2155905152 - bit_xor (t - k) 16843009)) 2155905152
        ≡ word (bit_and (tested (x.a - twelve x.a)) 128) (bit_and (tested (x.b - twelve x.b)) 128)
        (bit_and (tested (x.c - twelve x.c)) 128) (bit_and (tested (x.d - twelve x.d)) 128)
    over_is =
        ap (λ (n : ℕ). bit_and (bit_or (n + 1717986918) (2155905152 - bit_xor n 16843009)) 2155905152) left_is
        ∙ tests_are (x.a - twelve x.a) (x.b - twelve x.b) (x.c - twelve x.c) (x.d - twelve x.d) (omega (arith, x.la)) (omega (arith, x.lb)) (omega (arith, x.lc)) (omega (arith, x.ld))

    pub ones : bit_and (bit_or (t - k + 1717986918) (2155905152 - bit_xor (t - k) 16843009)) 2155905152 ≡ 0 → Ones t (t - k + k / 2)
    ones e =
        let z = zeros _ _ _ _ (sym over_is ∙ e) in
        let a = one x.a x.la z.0 in
        let b = one x.b x.lb z.1.0 in
        let c = one x.c x.lc z.1.1.0 in
        let d = one x.d x.ld z.1.1.1 in
        record {
          all = x;
          digits = digits_are ∙ rw (a.digit, b.digit, c.digit, d.digit);
          one_a = a.short;
          one_b = b.short;
          one_c = c.short;
          one_d = d.short;
        }

-- ---- the steps of four digits

abbrev oddly : ℕ → ℕ
oddly d = bit_and d 1

abbrev halfly : ℕ → ℕ
halfly d = (d - oddly d) / 2

record Digit (d : ℕ) : Type 0 where
  odd_less : oddly d ≤ d
  odd_small : oddly d < 2
  even : d - oddly d ≡ 2 * halfly d
  half_small : halfly d < 16
  both_less : bit_and (halfly d) (oddly d * 15) ≤ halfly d
  step : halfly d + 16 - 2 * bit_and (halfly d) (oddly d * 15) ≡ step_of d

digit_tests : ℕ → Bool
digit_tests d =
    both (leb (oddly d) d)
    (both (ltb (oddly d) 2)
    (both (eqb (d - oddly d) (2 * halfly d))
    (both (ltb (halfly d) 16)
    (both (leb (bit_and (halfly d) (oddly d * 15)) (halfly d))
    (eqb (halfly d + 16 - 2 * bit_and (halfly d) (oddly d * 15)) (step_of d))))))

digit : (d : ℕ) → d < 32 → Digit d
unfolding digit_tests
digit d h =
    let p₁ = below.at digit_tests 32 tt d h in
    let p₂ = both_right (leb (oddly d) d) _ p₁ in
    let p₃ = both_right (ltb (oddly d) 2) _ p₂ in
    let p₄ = both_right (eqb (d - oddly d) (2 * halfly d)) _ p₃ in
    let p₅ = both_right (ltb (halfly d) 16) _ p₄ in
    record {
      odd_less = leb→le _ _ (both_left (leb (oddly d) d) _ p₁);
      odd_small = ltb→lt _ _ (both_left (ltb (oddly d) 2) _ p₂);
      even = eqb→eq _ _ (both_left (eqb (d - oddly d) (2 * halfly d)) _ p₃);
      half_small = ltb→lt _ _ (both_left (ltb (halfly d) 16) _ p₄);
      both_less = leb→le _ _ (both_left (leb (bit_and (halfly d) (oddly d * 15)) (halfly d)) _ p₅);
      step = eqb→eq _ _ (both_right (leb (bit_and (halfly d) (oddly d * 15)) (halfly d)) _ p₅);
    }

twice : (p q r s : ℕ) → 2 * word p q r s ≡ word (2 * p) (2 * q) (2 * r) (2 * s)
twice p q r s = omega arith

module _ (w : ℕ) (x : Bytes 32 w) where
  a : Digit x.a
  a = digit x.a x.la

  b : Digit x.b
  b = digit x.b x.lb

  c : Digit x.c
  c = digit x.c x.lc

  d : Digit x.d
  d = digit x.d x.ld

  odd_is : bit_and w 16843009 ≡ word (oddly x.a) (oddly x.b) (oddly x.c) (oddly x.d)
  odd_is =
      ap (λ (n : ℕ). bit_and n 16843009) x.is
      ∙ and_lanes x.a x.b x.c x.d 1 1 1 1 (omega (arith, x.la)) (omega (arith, x.lb)) (omega (arith, x.lc)) (omega arith) (omega arith) (omega arith)

  half_is : (w - bit_and w 16843009) / 2 ≡ word (halfly x.a) (halfly x.b) (halfly x.c) (halfly x.d)
  half_is =
      ap (λ (n : ℕ). (n - bit_and w 16843009) / 2) x.is
      ∙ ap (λ (n : ℕ). (word x.a x.b x.c x.d - n) / 2) odd_is
      ∙ ap (λ (n : ℕ). n / 2) (sub_word x.a x.b x.c x.d (oddly x.a) (oddly x.b) (oddly x.c) (oddly x.d) a.odd_less b.odd_less c.odd_less d.odd_less)
      ∙ by _ _ _ _ _ _ _ _ a.even b.even c.even d.even
    where
      by : (p q r s p' q' r' s' : ℕ) → p ≡ 2 * p' → q ≡ 2 * q' → r ≡ 2 * r' → s ≡ 2 * s' → word p q r s / 2 ≡ word p' q' r' s'
      by p q r s p' q' r' s' e f g h = rw (e, f, g, h) (halves p' q' r' s')

  both_is : bit_and ((w - bit_and w 16843009) / 2) (bit_and w 16843009 * 15)
      ≡ word (bit_and (halfly x.a) (oddly x.a * 15)) (bit_and (halfly x.b) (oddly x.b * 15)) (bit_and (halfly x.c) (oddly x.c * 15)) (bit_and (halfly x.d) (oddly x.d * 15))
  both_is =
      ap (λ (n : ℕ). bit_and n (bit_and w 16843009 * 15)) half_is
      ∙ ap (λ (n : ℕ). bit_and (word (halfly x.a) (halfly x.b) (halfly x.c) (halfly x.d)) n)
      (ap (λ (n : ℕ). n * 15) odd_is ∙ mul_word (oddly x.a) (oddly x.b) (oddly x.c) (oddly x.d) 15)
      ∙ and_lanes (halfly x.a) (halfly x.b) (halfly x.c) (halfly x.d) (oddly x.a * 15) (oddly x.b * 15) (oddly x.c * 15) (oddly x.d * 15)
      (omega (arith, a.half_small)) (omega (arith, b.half_small)) (omega (arith, c.half_small))
      (omega (arith, a.odd_small)) (omega (arith, b.odd_small)) (omega (arith, c.odd_small))

  -- for the code's own needs
  pub odd_fits : bit_and w 16843009 ≤ 16843009
  odd_fits = omega (arith, odd_is, a.odd_small, b.odd_small, c.odd_small, d.odd_small)

  pub odd_under : bit_and w 16843009 ≤ w
  odd_under = omega (arith, odd_is, x.is, a.odd_less, b.odd_less, c.odd_less, d.odd_less)

  pub half_fits : (w - bit_and w 16843009) / 2 ≤ 252645135
  half_fits = omega (arith, half_is, a.half_small, b.half_small, c.half_small, d.half_small)

  pub both_fits : bit_and ((w - bit_and w 16843009) / 2) (bit_and w 16843009 * 15) ≤ (w - bit_and w 16843009) / 2
  both_fits = omega (arith, both_is, half_is, a.both_less, b.both_less, c.both_less, d.both_less)

  pub steps_are : (w - bit_and w 16843009) / 2 + 269488144 - 2 * bit_and ((w - bit_and w 16843009) / 2) (bit_and w 16843009 * 15)
      ≡ word (step_of x.a) (step_of x.b) (step_of x.c) (step_of x.d)
  steps_are =
      rw (
        both_is,
        half_is,
        twice (bit_and (halfly x.a) (oddly x.a * 15)) (bit_and (halfly x.b) (oddly x.b * 15)) (bit_and (halfly x.c) (oddly x.c * 15)) (bit_and (halfly x.d) (oddly x.d * 15)),
        add_word (halfly x.a) (halfly x.b) (halfly x.c) (halfly x.d) 16 16 16 16,
      )
      (sub_word (halfly x.a + 16) (halfly x.b + 16) (halfly x.c + 16) (halfly x.d + 16)
      (2 * bit_and (halfly x.a) (oddly x.a * 15)) (2 * bit_and (halfly x.b) (oddly x.b * 15)) (2 * bit_and (halfly x.c) (oddly x.c * 15)) (2 * bit_and (halfly x.d) (oddly x.d * 15))
      (omega (arith, a.both_less, a.half_small)) (omega (arith, b.both_less, b.half_small)) (omega (arith, c.both_less, c.half_small)) (omega (arith, d.both_less, d.half_small))
      ∙ rw (a.step, b.step, c.step, d.step))

-- ---- both

pub small_digits : (t d : ℕ) → Ones t d → Bytes 32 d
small_digits t d o =
    record {
      a = digit_of (o.all.a + 65);
      b = digit_of (o.all.b + 65);
      c = digit_of (o.all.c + 65);
      d = digit_of (o.all.d + 65);
      is = o.digits;
      la = (short.one (o.all.a + 65) (omega (arith, o.one_a))).small;
      lb = (short.one (o.all.b + 65) (omega (arith, o.one_b))).small;
      lc = (short.one (o.all.c + 65) (omega (arith, o.one_c))).small;
      ld = (short.one (o.all.d + 65) (omega (arith, o.one_d))).small;
    }

same_read : (a b c d a' b' c' d' r : ℕ) → a ≡ a' → b ≡ b' → c ≡ c' → d ≡ d' → Read a' b' c' d' r → Read a b c d r
same_read a b c d a' b' c' d' r e f g h x = rw (e, f, g, h) x

module _ (w t d r : ℕ) (x : Bytes 256 w) (et : (t + 1094795585) % 2 ^ 32 ≡ w) (o : Ones t d) where
  y : Bytes 128 t
  y = o.all

  moved_is : w ≡ word (y.a + 65) (y.b + 65) (y.c + 65) (y.d + 65)
  moved_is = omega (arith, et, y.is, y.la, y.lb, y.lc, y.ld)

  same : word x.a x.b x.c x.d ≡ word (y.a + 65) (y.b + 65) (y.c + 65) (y.d + 65)
  same = sym x.is ∙ moved_is

  a_is : x.a ≡ y.a + 65
  a_is =
      sym (words.first x.a x.b x.c x.d x.la) ∙ ap (λ (n : ℕ). n % 256) same
      ∙ words.first (y.a + 65) (y.b + 65) (y.c + 65) (y.d + 65) (omega (arith, y.la))

  b_is : x.b ≡ y.b + 65
  b_is =
      sym (words.second x.a x.b x.c x.d x.la x.lb) ∙ ap (λ (n : ℕ). n / 256 % 256) same
      ∙ words.second (y.a + 65) (y.b + 65) (y.c + 65) (y.d + 65) (omega (arith, y.la)) (omega (arith, y.lb))

  c_is : x.c ≡ y.c + 65
  c_is =
      sym (words.third x.a x.b x.c x.d x.la x.lb x.lc) ∙ ap (λ (n : ℕ). n / 65536 % 256) same
      ∙ words.third (y.a + 65) (y.b + 65) (y.c + 65) (y.d + 65) (omega (arith, y.la)) (omega (arith, y.lb)) (omega (arith, y.lc))

  d_is : x.d ≡ y.d + 65
  d_is =
      sym (words.fourth x.a x.b x.c x.d x.la x.lb x.lc) ∙ ap (λ (n : ℕ). n / 16777216) same
      ∙ words.fourth (y.a + 65) (y.b + 65) (y.c + 65) (y.d + 65) (omega (arith, y.la)) (omega (arith, y.lb)) (omega (arith, y.lc))

  step_is : (n : ℕ) → short_of n < 32 → step_of (digit_of n) ≡ short_of n
  step_is n h = sym (short.one n (omega (arith, h))).is

  pub read : Stepping d r → Read x.a x.b x.c x.d r
  unfolding y small_digits
  read s =
      same_read _ _ _ _ _ _ _ _ r a_is b_is c_is d_is
      (record {
        one_a = o.one_a;
        one_b = o.one_b;
        one_c = o.one_c;
        one_d = o.one_d;
        is =
            s (small_digits t d o)
            ∙ rw (step_is (y.a + 65) o.one_a, step_is (y.b + 65) o.one_b, step_is (y.c + 65) o.one_c, step_is (y.d + 65) o.one_d);
      })
