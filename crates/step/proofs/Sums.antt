-- A running number after a value of few digits, by its step. Assumes nothing.
use Rattle.std.specs.Prelude.{Some, Ok, ℤ}
use mathlib.Core.Path.{◌≡◌, ◌∙◌, ap}
use mathlib.Core.Bool.{Bool, true, false}
use mathlib.Core.List.{List}
use Prim.Native.Nat.{ℕ, zero, suc, ◌+◌, ◌-◌, ◌/◌, ◌%◌, ◌^◌, ◌<◌}
use native.Mathlib.Nat.{mod-eq_of_lt}
use native.Mathlib.Omega.{arith}
use lib.Dec.{eqb}
use lib.IntN.{pos, neg_ℤ, ◌+ℤ◌}
use borrow.Author.Tests.{lt-ltb, le-ltb}
use Rattle.list.specs.Pick.{pick}
use Rattle.value.specs.Value.{value_of, number_of}
use Rattle.value.specs.declared.Mode.{Mode}
use Rattle.value.specs.declared.Mode.TheVariants.{Lenient, Checked}
use Rattle.value.proofs.Standard.{value_plain}
use Rattle.sums.specs.Sums.{reduced_of, sum_of, id_of, name_sum_of}
use Rattle.short.specs.Short.{move_of, Stands, Stepped}

down : (x base m : ℕ) → x + m ≡ base → pos base +ℤ neg_ℤ (pos m) ≡ pos x
down x base zero e = ap pos (omega arith)
down x base (suc m) e = rw (le-ltb base (suc m) (omega arith)) (ap pos (omega arith))

by_sign : (t : Bool) (x base n : ℕ) → n < 2 ^ 32 → x < 2 ^ 32 → base < 2 ^ 32
    → (x + 16) % 2 ^ 64 ≡ (base + pick t ((2 ^ 64 + 16 - n / 2) % 2 ^ 64) (16 + n / 2)) % 2 ^ 64
    → pos base +ℤ pick t (neg_ℤ (pos (n / 2))) (pos (n / 2)) ≡ pos x
by_sign true x base n h l b e = down x base (n / 2) (omega arith)
by_sign false x base n h l b e = ap pos (omega arith)

-- x is the number `base` after the value that stands there
module _ (mode : Mode) (text : List ℕ) (p q e : ℕ) (v : Stands text p q e) (x base : ℕ) (s : Stepped x base e) (l : x < 2 ^ 32) where
  sum : pos base +ℤ number_of (value_of mode v.num 0) ≡ pos x
  unfolding move_of
  sum =
      let m : (x + 16) % 2 ^ 64 ≡ (base + move_of v.num) % 2 ^ 64 = s.moved ∙ ap (λ (y : ℕ). (base + y) % 2 ^ 64) v.moves in
      rw (value_plain mode v.num v.small v.plain) (by_sign (eqb (v.num % 2) 1) x base v.num v.small l s.small m)

  reduced : (m : Mode) → reduced_of m x ≡ Ok x
  unfolding reduced_of
  reduced Lenient = ap Ok (mod-eq_of_lt l)
  reduced Checked = rw (lt-ltb x 4294967296 l)

  pub sum_at : sum_of mode (pos base +ℤ number_of (value_of mode v.num 0)) ≡ Ok x
  unfolding sum_of
  sum_at = rw sum (reduced mode)

  pub name_at : name_sum_of mode (pos base +ℤ number_of (value_of mode v.num 0)) ≡ Ok x
  unfolding name_sum_of
  name_at = rw sum (reduced mode)

  pub id_at : (count : ℕ) → x < count → id_of count (pos base +ℤ number_of (value_of mode v.num 0)) ≡ Some x
  unfolding id_of
  id_at count h = rw (sum, lt-ltb x count h)
