-- A byte as a value of one digit. Assumes nothing.
use mathlib.Core.Path.{◌≡◌, refl}
use mathlib.Core.Bool.{Bool, true, false}
use Prim.Native.Nat.{ℕ, ◌+◌, ◌-◌, ◌/◌, ◌%◌, ◌<◌}
use native.Mathlib.Omega.{arith}
use lib.Dec.{eqb, ltb}
use borrow.Author.Tests.{eqb-false, ltb-true}
use Rattle.list.specs.Pick.{pick}
use Rattle.digits.specs.Digits.{digit_of, is_delim}
use Rattle.digits.specs.Tables.{short_of, step_of}

-- a value of one digit that is not minus zero
pub record One (b : ℕ) : Type 0 where
  pub delim : is_delim b ≡ false
  pub plain : digit_of b ≡ 1 → ⊥
  pub small : digit_of b < 32
  pub is : short_of b ≡ step_of (digit_of b)
  pub under : short_of b < 32

entry_under : (t : Bool) (d : ℕ) → d < 32 → pick t (16 - d / 2) (16 + d / 2) < 32
entry_under true d h = omega arith
entry_under false d h = omega arith

one_by : (t m u : Bool) (b : ℕ) → is_delim b ≡ t → eqb (digit_of b) 1 ≡ m → ltb (digit_of b) 32 ≡ u
    → pick t 80 (pick m 160 (pick u (step_of (digit_of b)) 160)) < 64 → One b
unfolding short_of
one_by true m u b p o q h = absurd (omega arith)
one_by false true u b p o q h = absurd (omega arith)
one_by false false false b p o q h = absurd (omega arith)
one_by false false true b p o q h =
    let d : digit_of b < 32 = ltb-true (digit_of b) 32 q in
    record {
      delim = p;
      plain = eqb-false (digit_of b) 1 o;
      small = d;
      is = rw (p, o, q);
      under = rw (p, o, q) (entry_under (eqb (digit_of b % 2) 1) (digit_of b) d);
    }

pub one : (b : ℕ) → short_of b < 64 → One b
unfolding short_of
one b h = one_by (is_delim b) (eqb (digit_of b) 1) (ltb (digit_of b) 32) b refl refl refl h

delim_by : (t m u : Bool) (d : ℕ) → ltb d 32 ≡ u → pick t 80 (pick m 160 (pick u (step_of d) 160)) ≡ 80 → t ≡ true
delim_by true m u d q h = refl
delim_by false true u d q h = absurd (omega arith)
delim_by false false false d q h = absurd (omega arith)
delim_by false false true d q h = absurd (omega (arith, entry_under (eqb (d % 2) 1) d (ltb-true d 32 q)))

pub delim : (b : ℕ) → short_of b ≡ 80 → is_delim b ≡ true
unfolding short_of
delim b h = delim_by (is_delim b) (eqb (digit_of b) 1) (ltb (digit_of b) 32) (digit_of b) refl h
