-- The sum of a running number and the value that the writer gives a step. Assumes nothing.
use Rattle.std.specs.Prelude.{Some, Ok}
use mathlib.Core.Path.{◌≡◌, ap}
use mathlib.Core.Bool.{true}
use Prim.Native.Nat.{ℕ, ◌^◌, ◌<◌}
use native.Mathlib.Nat.{mod-eq_of_lt}
use lib.IntN.{pos, ◌+ℤ◌}
use borrow.Author.Tests.{lt-ltb}
use Rattle.value.specs.Value.{value_of, number_of}
use Rattle.value.specs.declared.Mode.{Mode}
use Rattle.value.specs.declared.Mode.TheVariants.{Lenient, Checked}
use Rattle.sums.specs.Sums.{reduced_of, sum_of, id_of, name_sum_of}
use Rattle.vlq_write.specs.Write.{vlq_value}
use Rattle.checked_premises.specs.Checked.{takes}
use Rattle.round.proofs.Value.{step_back}

reduced : (mode : Mode) (n : ℕ) → n < 2 ^ 32 → reduced_of mode n ≡ Ok n
unfolding reduced_of
reduced Lenient n h = ap Ok (mod-eq_of_lt h)
reduced Checked n h = rw (lt-ltb n 4294967296 h)

-- the sum of a running number and the value of the step to a
module _ (mode : Mode) (a b : ℕ) (ha : a < 2 ^ 32) (hb : b < 2 ^ 32) (k : takes mode (vlq_value a b) ≡ true) where
  pub sum_back : sum_of mode (pos b +ℤ number_of (value_of mode (vlq_value a b) 0)) ≡ Ok a
  unfolding sum_of
  sum_back = rw (step_back mode a b ha hb k) (reduced mode a ha)

  pub name_back : name_sum_of mode (pos b +ℤ number_of (value_of mode (vlq_value a b) 0)) ≡ Ok a
  unfolding name_sum_of
  name_back = rw (step_back mode a b ha hb k) (reduced mode a ha)

  pub id_back : (count : ℕ) → a < count → id_of count (pos b +ℤ number_of (value_of mode (vlq_value a b) 0)) ≡ Some a
  unfolding id_of
  id_back count h = rw (step_back mode a b ha hb k, lt-ltb a count h)
