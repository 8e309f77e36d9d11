-- Four bytes as one number: bit by bit they are apart. Assumes nothing.
use mathlib.Core.Path.{◌≡◌, refl, sym, ap, ◌∙◌}
use mathlib.Core.Bool.{Bool, true, false}
use Prim.Native.Nat.{ℕ, ◌+◌, ◌-◌, ◌*◌, ◌/◌, ◌%◌, ◌^◌, ◌<◌, ◌≤◌}
use native.Mathlib.Nat.{add-mul, mul_assoc, mul_comm}
use native.Mathlib.Omega.{arith}
use lib.Arith.{digits_div, digits_mod}
use lib.Bits.{bit_and, bit_or, bit_xor, and_block, or_block, xor_block}
use lib.Dec.{T, ltb, eqb, eqb→eq}
use borrow.Author.Tests.{ltb-true}
use Rattle.list.specs.Pick.{pick}
use Rattle.digits.specs.Tables.{word}
use Rattle.digits.proofs.Below as below

module _ (op : ℕ → ℕ → ℕ)
    (block : (k a b r s : ℕ) → r < 2 ^ k → s < 2 ^ k → op (a * 2 ^ k + r) (b * 2 ^ k + s) ≡ op a b * 2 ^ k + op r s) where
  lanes : (a b c d a' b' c' d' : ℕ) → a < 256 → b < 256 → c < 256 → a' < 256 → b' < 256 → c' < 256
      → op (word a b c d) (word a' b' c' d') ≡ word (op a a') (op b b') (op c c') (op d d')
  lanes a b c d a' b' c' d' p q r p' q' r' =
      block 8 ((d * 256 + c) * 256 + b) ((d' * 256 + c') * 256 + b') a a' p p'
      ∙ ap (λ (x : ℕ). x * 256 + op a a')
      (block 8 (d * 256 + c) (d' * 256 + c') b b' q q'
      ∙ ap (λ (x : ℕ). x * 256 + op b b') (block 8 d d' c c' r r'))

pub and_lanes : (a b c d a' b' c' d' : ℕ) → a < 256 → b < 256 → c < 256 → a' < 256 → b' < 256 → c' < 256
    → bit_and (word a b c d) (word a' b' c' d') ≡ word (bit_and a a') (bit_and b b') (bit_and c c') (bit_and d d')
and_lanes = lanes bit_and and_block

pub or_lanes : (a b c d a' b' c' d' : ℕ) → a < 256 → b < 256 → c < 256 → a' < 256 → b' < 256 → c' < 256
    → bit_or (word a b c d) (word a' b' c' d') ≡ word (bit_or a a') (bit_or b b') (bit_or c c') (bit_or d d')
or_lanes = lanes bit_or or_block

pub xor_lanes : (a b c d a' b' c' d' : ℕ) → a < 256 → b < 256 → c < 256 → a' < 256 → b' < 256 → c' < 256
    → bit_xor (word a b c d) (word a' b' c' d') ≡ word (bit_xor a a') (bit_xor b b') (bit_xor c c') (bit_xor d d')
xor_lanes = lanes bit_xor xor_block

-- sums and differences where no byte leaves its place
pub add_word : (a b c d a' b' c' d' : ℕ) → word a b c d + word a' b' c' d' ≡ word (a + a') (b + b') (c + c') (d + d')
add_word a b c d a' b' c' d' = omega arith

pub sub_word : (a b c d a' b' c' d' : ℕ) → a' ≤ a → b' ≤ b → c' ≤ c → d' ≤ d
    → word a b c d - word a' b' c' d' ≡ word (a - a') (b - b') (c - c') (d - d')
sub_word a b c d a' b' c' d' p q r t = omega arith

mul_step : (x a k : ℕ) → (x * 256 + a) * k ≡ x * k * 256 + a * k
mul_step x a k =
    add-mul (x * 256) a k
    ∙ ap (λ (y : ℕ). y + a * k) (mul_assoc x 256 k ∙ ap (λ (y : ℕ). x * y) (mul_comm 256 k) ∙ sym (mul_assoc x k 256))

pub mul_word : (a b c d k : ℕ) → word a b c d * k ≡ word (a * k) (b * k) (c * k) (d * k)
mul_word a b c d k =
    mul_step ((d * 256 + c) * 256 + b) a k
    ∙ ap (λ (x : ℕ). x * 256 + a * k)
    (mul_step (d * 256 + c) b k ∙ ap (λ (x : ℕ). x * 256 + b * k) (mul_step d c k))

pub zeros : (a b c d : ℕ) → word a b c d ≡ 0 → (a ≡ 0) × ((b ≡ 0) × ((c ≡ 0) × (d ≡ 0)))
zeros a b c d e = (omega arith, (omega arith, (omega arith, omega arith)))

-- the highest bit is not set
high_test : ℕ → Bool
high_test n = pick (ltb n 128) true (eqb (bit_and n 128) 128)

pub none_high : (n : ℕ) → n < 256 → bit_and n 128 ≡ 0 → n < 128
unfolding high_test
none_high n h e = by (ltb n 128) refl (below.at high_test 256 tt n h)
  where
    by : (t : Bool) → ltb n 128 ≡ t → T (pick t true (eqb (bit_and n 128) 128)) → n < 128
    by true q p = ltb-true n 128 q
    by false q p = let z : bit_and n 128 ≡ 128 = eqb→eq (bit_and n 128) 128 p in absurd (omega arith)

-- each byte of a number
pub first : (a b c d : ℕ) → a < 256 → word a b c d % 256 ≡ a
first a b c d p = digits_mod ((d * 256 + c) * 256 + b) p

above : (x a : ℕ) → a < 256 → (x * 256 + a) / 256 ≡ x
above x a p = digits_div x p

pub second : (a b c d : ℕ) → a < 256 → b < 256 → word a b c d / 256 % 256 ≡ b
second a b c d p q = ap (λ (x : ℕ). x % 256) (above ((d * 256 + c) * 256 + b) a p) ∙ digits_mod (d * 256 + c) q

apart : (a b c d : ℕ) → a < 256 → b < 256 → word a b c d / 65536 ≡ d * 256 + c
apart a b c d p q = omega arith

pub third : (a b c d : ℕ) → a < 256 → b < 256 → c < 256 → word a b c d / 65536 % 256 ≡ c
third a b c d p q r = ap (λ (x : ℕ). x % 256) (apart a b c d p q) ∙ digits_mod d r

pub fourth : (a b c d : ℕ) → a < 256 → b < 256 → c < 256 → word a b c d / 16777216 ≡ d
fourth a b c d p q r = omega arith
