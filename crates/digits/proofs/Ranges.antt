-- What a byte reads as, range by range. Assumes nothing.
use mathlib.Core.Path.{◌≡◌, refl}
use mathlib.Core.Bool.{Bool, true, false}
use Prim.Native.Nat.{ℕ, ◌+◌, ◌-◌, ◌≤◌}
use native.Mathlib.Omega.{arith}
use lib.Dec.{leb}
use borrow.Author.Tests.{le-leb, leb-true, eq-eqb, ne_eqb}
use Rattle.list.specs.Pick.{pick}
use Rattle.digits.specs.Digits.{within, digit_of, is_delim, class_of}

inside : (lo hi b : ℕ) → lo ≤ b → b ≤ hi → within lo hi b ≡ true
inside lo hi b p q = rw (le-leb lo b p, le-leb b hi q)

outside : (lo hi b : ℕ) → (lo ≤ b → b ≤ hi → ⊥) → within lo hi b ≡ false
outside lo hi b n = by (leb lo b) (leb b hi) refl refl
  where
    by : (s t : Bool) → leb lo b ≡ s → leb b hi ≡ t → pick s t false ≡ false
    by true true p q = absurd (n (leb-true lo b p) (leb-true b hi q))
    by true false p q = refl
    by false t p q = refl

module _ (b : ℕ) (c : b ≡ 44 → ⊥) (s : b ≡ 59 → ⊥) where
  plain : class_of b ≡ digit_of b
  unfolding class_of is_delim
  plain = rw (ne_eqb b 44 c, ne_eqb b 59 s)

  module _ (n₁ : 65 ≤ b → b ≤ 90 → ⊥) where
    module _ (n₂ : 97 ≤ b → b ≤ 122 → ⊥) where
      module _ (n₃ : 48 ≤ b → b ≤ 57 → ⊥) where
        pub plus : b ≡ 43 → class_of b ≡ 62
        unfolding digit_of
        plus h = rw (plain, outside 65 90 b n₁, outside 97 122 b n₂, outside 48 57 b n₃, eq-eqb b 43 h)

        pub other : (b ≡ 43 → ⊥) → class_of b ≡ 63
        unfolding digit_of
        other h = rw (plain, outside 65 90 b n₁, outside 97 122 b n₂, outside 48 57 b n₃, ne_eqb b 43 h)

      pub figure : 48 ≤ b → b ≤ 57 → class_of b ≡ b + 4
      unfolding digit_of
      figure p q = rw (plain, outside 65 90 b n₁, outside 97 122 b n₂, inside 48 57 b p q) (omega arith)

    pub small : 97 ≤ b → b ≤ 122 → class_of b ≡ b - 71
    unfolding digit_of
    small p q = rw (plain, outside 65 90 b n₁, inside 97 122 b p q) (omega arith)

  pub capital : 65 ≤ b → b ≤ 90 → class_of b ≡ b - 65
  unfolding digit_of
  capital p q = rw (plain, inside 65 90 b p q)

pub comma : class_of 44 ≡ 64
unfolding class_of is_delim
comma = refl

pub semicolon : class_of 59 ≡ 64
unfolding class_of is_delim
semicolon = refl
