-- Four bytes below 128 in one number: what is done to the number is done to each byte, since no byte carries into the next or borrows
-- from it. What holds of one byte is computed at each of the 128. Assumes nothing.
use mathlib.Core.Path.{◌≡◌, sym, ◌∙◌, ap, ap₂}
use Prim.Native.Nat.{ℕ, ◌+◌, ◌-◌, ◌*◌, ◌/◌, ◌%◌, ◌^◌, ◌<◌, ◌≤◌}
use native.Mathlib.Nat.{mul-div_cancel}
use native.Mathlib.Omega.{arith}
use lib.Bits.{bit_and, bit_or, bit_xor}
use lib.Dec.{T, ltb, leb, eqb, ltb→lt, leb→le, eqb→eq}
use Rattle.digits.specs.Tables.{word}
use Rattle.digits.proofs.Below.{below, at}
use Rattle.digits.proofs.Words.{and_lanes, or_lanes, xor_lanes, add_word, sub_word, mul_word, zeros, none_high}
use Rattle.vlq.specs.Several.{Plain, each, end_of, high_of, low_of, bad_of, five_of}

-- ---- tests of one byte
abbrev pub Under : (ℕ → ℕ) → Type 0
Under f = (n : ℕ) → n < 128 → f n < 256

pub under : (f : ℕ → ℕ) → T (below (λ n. ltb (f n) 256) 128) → Under f
under f t n h = ltb→lt (f n) 256 (at (λ n. ltb (f n) 256) 128 t n h)

within : (f g : ℕ → ℕ) → T (below (λ n. leb (f n) (g n)) 128) → (n : ℕ) → n < 128 → f n ≤ g n
within f g t n h = leb→le (f n) (g n) (at (λ n. leb (f n) (g n)) 128 t n h)

same : (f g : ℕ → ℕ) → T (below (λ n. eqb (f n) (g n)) 128) → (n : ℕ) → n < 128 → f n ≡ g n
same f g t n h = eqb→eq (f n) (g n) (at (λ n. eqb (f n) (g n)) 128 t n h)

-- ---- four bytes
le_word : (a b c d a' b' c' d' : ℕ) → a ≤ a' → b ≤ b' → c ≤ c' → d ≤ d' → word a b c d ≤ word a' b' c' d'
le_word a b c d a' b' c' d' p q r t = omega arith

-- ---- each byte of w is below 128
pub record Lanes (w : ℕ) : Type 0 where
  pub first : w % 256 < 128
  pub second : w / 256 % 256 < 128
  pub third : w / 65536 % 256 < 128
  pub fourth : w / 16777216 < 128

whole : (w : ℕ) → w ≡ each (λ n. n) w
whole w = omega arith

pub lanes : (w : ℕ) → w < 2 ^ 32 → Plain w → Lanes w
lanes w h z =
    let e = zeros (bit_and (w % 256) 128) (bit_and (w / 256 % 256) 128) (bit_and (w / 65536 % 256) 128) (bit_and (w / 16777216) 128)
    (sym (and_lanes (w % 256) (w / 256 % 256) (w / 65536 % 256) (w / 16777216) 128 128 128 128 (omega arith) (omega arith) (omega arith) (omega arith) (omega arith) (omega arith))
    ∙ ap (λ (x : ℕ). bit_and x 2155905152) (sym (whole w)) ∙ z) in
    record {
      first = none_high (w % 256) (omega arith) e.0;
      second = none_high (w / 256 % 256) (omega arith) e.1.0;
      third = none_high (w / 65536 % 256) (omega arith) e.1.1.0;
      fourth = none_high (w / 16777216) (omega arith) e.1.1.1;
    }

module _ (w : ℕ) (l : Lanes w) where
  op_each : (op : ℕ → ℕ → ℕ)
      → ((a b c d a' b' c' d' : ℕ) → a < 256 → b < 256 → c < 256 → a' < 256 → b' < 256 → c' < 256
      → op (word a b c d) (word a' b' c' d') ≡ word (op a a') (op b b') (op c c') (op d d'))
      → (f g : ℕ → ℕ) → Under f → Under g → op (each f w) (each g w) ≡ each (λ n. op (f n) (g n)) w
  op_each op apart f g p q =
      apart (f (w % 256)) (f (w / 256 % 256)) (f (w / 65536 % 256)) (f (w / 16777216))
      (g (w % 256)) (g (w / 256 % 256)) (g (w / 65536 % 256)) (g (w / 16777216))
      (p _ l.first) (p _ l.second) (p _ l.third) (q _ l.first) (q _ l.second) (q _ l.third)

  and_each : (f g : ℕ → ℕ) → Under f → Under g → bit_and (each f w) (each g w) ≡ each (λ n. bit_and (f n) (g n)) w
  and_each = op_each bit_and and_lanes

  or_each : (f g : ℕ → ℕ) → Under f → Under g → bit_or (each f w) (each g w) ≡ each (λ n. bit_or (f n) (g n)) w
  or_each = op_each bit_or or_lanes

  xor_each : (f g : ℕ → ℕ) → Under f → Under g → bit_xor (each f w) (each g w) ≡ each (λ n. bit_xor (f n) (g n)) w
  xor_each = op_each bit_xor xor_lanes

  add_each : (f g : ℕ → ℕ) → each f w + each g w ≡ each (λ n. f n + g n) w
  add_each f g =
      add_word (f (w % 256)) (f (w / 256 % 256)) (f (w / 65536 % 256)) (f (w / 16777216))
      (g (w % 256)) (g (w / 256 % 256)) (g (w / 65536 % 256)) (g (w / 16777216))

  sub_each : (f g : ℕ → ℕ) → ((n : ℕ) → n < 128 → g n ≤ f n) → each f w - each g w ≡ each (λ n. f n - g n) w
  sub_each f g p =
      sub_word (f (w % 256)) (f (w / 256 % 256)) (f (w / 65536 % 256)) (f (w / 16777216))
      (g (w % 256)) (g (w / 256 % 256)) (g (w / 65536 % 256)) (g (w / 16777216))
      (p _ l.first) (p _ l.second) (p _ l.third) (p _ l.fourth)

  mul_each : (f : ℕ → ℕ) (k : ℕ) → each f w * k ≡ each (λ n. f n * k) w
  mul_each f k = mul_word (f (w % 256)) (f (w / 256 % 256)) (f (w / 65536 % 256)) (f (w / 16777216)) k

  le_each : (f g : ℕ → ℕ) → ((n : ℕ) → n < 128 → f n ≤ g n) → each f w ≤ each g w
  le_each f g p =
      le_word (f (w % 256)) (f (w / 256 % 256)) (f (w / 65536 % 256)) (f (w / 16777216))
      (g (w % 256)) (g (w / 256 % 256)) (g (w / 65536 % 256)) (g (w / 16777216))
      (p _ l.first) (p _ l.second) (p _ l.third) (p _ l.fourth)

  each_same : (f g : ℕ → ℕ) → ((n : ℕ) → n < 128 → f n ≡ g n) → each f w ≡ each g w
  each_same f g p = rw (p _ l.first, p _ l.second, p _ l.third, p _ l.fourth)

  div_each : (f g : ℕ → ℕ) (k : ℕ) → 0 < k → ((n : ℕ) → n < 128 → f n ≡ g n * k) → each f w / k ≡ each g w
  div_each f g k z p =
      ap (λ (x : ℕ). x / k) (each_same f (λ n. g n * k) p ∙ sym (mul_each g k)) ∙ mul-div_cancel (each g w) z

  -- a mask that is the same in each byte
  mask_is : (f : ℕ → ℕ) (k : ℕ) → Under f → k < 256 → bit_and (each f w) (each (λ n. k) w) ≡ each (λ n. bit_and (f n) k) w
  mask_is f k p h = and_each f (λ n. k) p (λ n q. h)

  self : Under (λ n. n)
  self n h = omega arith

  -- ---- what the code does
  pub small : w ≤ 2139062143
  small = omega (arith, l.first, l.second, l.third, l.fourth)

  pub ends_is : bit_and (bit_and (w * 2) (3873892070 - w)) 2155905152 ≡ each end_of w
  unfolding end_of
  ends_is =
      ap₂ (λ (x y : ℕ). bit_and (bit_and x y) 2155905152)
      (ap (λ (x : ℕ). x * 2) (whole w) ∙ mul_each (λ n. n) 2)
      (ap (λ (x : ℕ). 3873892070 - x) (whole w) ∙ sub_each (λ n. 230) (λ n. n) (within (λ n. n) (λ n. 230) tt))
      ∙ ap (λ (x : ℕ). bit_and x 2155905152) (and_each (λ n. n * 2) (λ n. 230 - n) (under (λ n. n * 2) tt) (under (λ n. 230 - n) tt))
      ∙ mask_is (λ n. bit_and (n * 2) (230 - n)) 128 (under (λ n. bit_and (n * 2) (230 - n)) tt) (omega arith)
      ∙ each_same (λ n. bit_and (bit_and (n * 2) (230 - n)) 128) end_of (same (λ n. bit_and (bit_and (n * 2) (230 - n)) 128) end_of tt)

  pub high_is : bit_and w 1077952576 / 64 ≡ each high_of w
  unfolding high_of
  high_is =
      ap (λ (x : ℕ). x / 64) (ap (λ (x : ℕ). bit_and x 1077952576) (whole w) ∙ mask_is (λ n. n) 64 self (omega arith))
      ∙ div_each (λ n. bit_and n 64) high_of 64 (omega arith) (same (λ n. bit_and n 64) (λ n. high_of n * 64) tt)

  pub low_is : bit_and (2947526575 - w) 2155905152 / 128 ≡ each low_of w
  unfolding low_of
  low_is =
      ap (λ (x : ℕ). x / 128)
      (ap (λ (x : ℕ). bit_and (2947526575 - x) 2155905152) (whole w)
      ∙ ap (λ (x : ℕ). bit_and x 2155905152) (sub_each (λ n. 175) (λ n. n) (within (λ n. n) (λ n. 175) tt))
      ∙ mask_is (λ n. 175 - n) 128 (under (λ n. 175 - n) tt) (omega arith))
      ∙ div_each (λ n. bit_and (175 - n) 128) low_of 128 (omega arith) (same (λ n. bit_and (175 - n) 128) (λ n. low_of n * 128) tt)

  high_le : each high_of w ≤ 16843009
  unfolding high_of
  high_le = le_each high_of (λ n. 1) (within high_of (λ n. 1) tt)

  low_le : each low_of w ≤ 16843009
  unfolding low_of
  low_le = le_each low_of (λ n. 1) (within low_of (λ n. 1) tt)

  module _ (h u : ℕ) (eh : h ≡ each high_of w) (eu : u ≡ each low_of w) where
    pub high_small : h ≤ 16843009
    high_small = omega (arith, high_le)

    pub low_small : u ≤ 16843009
    low_small = omega (arith, low_le)

    -- how far the byte is past a multiple of 32, less one
    past_is : bit_and (w + 522133279) 522133279 ≡ each (λ n. bit_and (n + 31) 31) w
    past_is =
        ap (λ (x : ℕ). bit_and x 522133279) (ap (λ (x : ℕ). x + 522133279) (whole w) ∙ add_each (λ n. n) (λ n. 31))
        ∙ mask_is (λ n. n + 31) 31 (under (λ n. n + 31) tt) (omega arith)

    beyond_is : bit_and (bit_and (w + 522133279) 522133279 + 1734829927 - h) 2155905152 ≡ each (λ n. bit_and (bit_and (n + 31) 31 + 103 - high_of n) 128) w
    unfolding high_of
    beyond_is =
        ap₂ (λ (x y : ℕ). bit_and (x + 1734829927 - y) 2155905152) past_is eh
        ∙ ap (λ (x : ℕ). bit_and (x - each high_of w) 2155905152) (add_each (λ n. bit_and (n + 31) 31) (λ n. 103))
        ∙ ap (λ (x : ℕ). bit_and x 2155905152)
        (sub_each (λ n. bit_and (n + 31) 31 + 103) high_of (within high_of (λ n. bit_and (n + 31) 31 + 103) tt))
        ∙ mask_is (λ n. bit_and (n + 31) 31 + 103 - high_of n) 128 (under (λ n. bit_and (n + 31) 31 + 103 - high_of n) tt) (omega arith)

    sign_is : bit_and (bit_xor w 724249387) (u * 251) ≡ each (λ n. bit_and (bit_xor n 43) (low_of n * 251)) w
    unfolding low_of
    sign_is =
        ap₂ (λ (x y : ℕ). bit_and x y)
        (ap (λ (x : ℕ). bit_xor x 724249387) (whole w) ∙ xor_each (λ n. n) (λ n. 43) self (under (λ n. 43) tt))
        (ap (λ (x : ℕ). x * 251) eu ∙ mul_each low_of 251)
        ∙ and_each (λ n. bit_xor n 43) (λ n. low_of n * 251) (under (λ n. bit_xor n 43) tt) (under (λ n. low_of n * 251) tt)

    pub bad_is : bit_or (bit_and (bit_and (w + 522133279) 522133279 + 1734829927 - h) 2155905152) (bit_and (bit_xor w 724249387) (u * 251)) ≡ each bad_of w
    unfolding bad_of high_of low_of
    bad_is =
        ap₂ (λ (x y : ℕ). bit_or x y) beyond_is sign_is
        ∙ or_each (λ n. bit_and (bit_and (n + 31) 31 + 103 - high_of n) 128) (λ n. bit_and (bit_xor n 43) (low_of n * 251))
        (under (λ n. bit_and (bit_and (n + 31) 31 + 103 - high_of n) 128) tt)
        (under (λ n. bit_and (bit_xor n 43) (low_of n * 251)) tt)

    small_is : bit_and w 538976288 / 32 ≡ each (λ n. bit_and n 32 / 32) w
    small_is =
        ap (λ (x : ℕ). x / 32) (ap (λ (x : ℕ). bit_and x 538976288) (whole w) ∙ mask_is (λ n. n) 32 self (omega arith))
        ∙ div_each (λ n. bit_and n 32) (λ n. bit_and n 32 / 32) 32 (omega arith) (same (λ n. bit_and n 32) (λ n. bit_and n 32 / 32 * 32) tt)

    slash_is : bit_and w (u * 4) / 4 ≡ each (λ n. bit_and n (low_of n * 4) / 4) w
    unfolding low_of
    slash_is =
        ap (λ (x : ℕ). x / 4)
        (ap₂ (λ (x y : ℕ). bit_and x y) (whole w) (ap (λ (x : ℕ). x * 4) eu ∙ mul_each low_of 4)
        ∙ and_each (λ n. n) (λ n. low_of n * 4) self (under (λ n. low_of n * 4) tt))
        ∙ div_each (λ n. bit_and n (low_of n * 4)) (λ n. bit_and n (low_of n * 4) / 4) 4 (omega arith)
        (same (λ n. bit_and n (low_of n * 4)) (λ n. bit_and n (low_of n * 4) / 4 * 4) tt)

    pub small_le : bit_and w 538976288 / 32 ≤ 16843009
    small_le = rw small_is (le_each (λ n. bit_and n 32 / 32) (λ n. 1) (within (λ n. bit_and n 32 / 32) (λ n. 1) tt))

    pub slash_le : bit_and w (u * 4) / 4 ≤ 16843009
    unfolding low_of
    slash_le = rw slash_is (le_each (λ n. bit_and n (low_of n * 4) / 4) (λ n. 1) (within (λ n. bit_and n (low_of n * 4) / 4) (λ n. 1) tt))

    less_is : w + u * 15 + 168430090 - bit_and w (u * 4) / 4 * 3 - bit_and w 538976288 / 32 * 6
        ≡ each (λ n. n + low_of n * 15 + 10 - bit_and n (low_of n * 4) / 4 * 3 - bit_and n 32 / 32 * 6) w
    unfolding low_of
    less_is =
        ap₂ (λ (x y : ℕ). x - y)
        (ap₂ (λ (x y : ℕ). x - y)
        (ap₂ (λ (x y : ℕ). x + y + 168430090) (whole w) (ap (λ (x : ℕ). x * 15) eu ∙ mul_each low_of 15)
        ∙ ap (λ (x : ℕ). x + 168430090) (add_each (λ n. n) (λ n. low_of n * 15))
        ∙ add_each (λ n. n + low_of n * 15) (λ n. 10))
        (ap (λ (x : ℕ). x * 3) slash_is ∙ mul_each (λ n. bit_and n (low_of n * 4) / 4) 3)
        ∙ sub_each (λ n. n + low_of n * 15 + 10) (λ n. bit_and n (low_of n * 4) / 4 * 3)
        (within (λ n. bit_and n (low_of n * 4) / 4 * 3) (λ n. n + low_of n * 15 + 10) tt))
        (ap (λ (x : ℕ). x * 6) small_is ∙ mul_each (λ n. bit_and n 32 / 32) 6)
        ∙ sub_each (λ n. n + low_of n * 15 + 10 - bit_and n (low_of n * 4) / 4 * 3) (λ n. bit_and n 32 / 32 * 6)
        (within (λ n. bit_and n 32 / 32 * 6) (λ n. n + low_of n * 15 + 10 - bit_and n (low_of n * 4) / 4 * 3) tt)

    pub high_within : h * 11 ≤ w + u * 15 + 168430090 - bit_and w (u * 4) / 4 * 3 - bit_and w 538976288 / 32 * 6
    unfolding high_of low_of
    high_within =
        rw (less_is, eh, mul_each high_of 11)
        (le_each (λ n. high_of n * 11) (λ n. n + low_of n * 15 + 10 - bit_and n (low_of n * 4) / 4 * 3 - bit_and n 32 / 32 * 6)
        (within (λ n. high_of n * 11) (λ n. n + low_of n * 15 + 10 - bit_and n (low_of n * 4) / 4 * 3 - bit_and n 32 / 32 * 6) tt))

    pub fives_is : bit_and (w + u * 15 + 168430090 - bit_and w (u * 4) / 4 * 3 - bit_and w 538976288 / 32 * 6 - h * 11) 522133279 ≡ each five_of w
    unfolding five_of high_of low_of
    fives_is =
        ap (λ (x : ℕ). bit_and x 522133279)
        (ap₂ (λ (x y : ℕ). x - y) less_is (ap (λ (x : ℕ). x * 11) eh ∙ mul_each high_of 11)
        ∙ sub_each (λ n. n + low_of n * 15 + 10 - bit_and n (low_of n * 4) / 4 * 3 - bit_and n 32 / 32 * 6) (λ n. high_of n * 11)
        (within (λ n. high_of n * 11) (λ n. n + low_of n * 15 + 10 - bit_and n (low_of n * 4) / 4 * 3 - bit_and n 32 / 32 * 6) tt))
        ∙ mask_is (λ n. n + low_of n * 15 + 10 - bit_and n (low_of n * 4) / 4 * 3 - bit_and n 32 / 32 * 6 - high_of n * 11) 31
        (under (λ n. n + low_of n * 15 + 10 - bit_and n (low_of n * 4) / 4 * 3 - bit_and n 32 / 32 * 6 - high_of n * 11) tt)
        (omega arith)
