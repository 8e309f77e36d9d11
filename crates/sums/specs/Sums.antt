-- docs/RULES.md, Mappings: what becomes of the sum of a running number and a value. Assumes nothing.
use Rattle.std.specs.Prelude.{ℕ, ◌-◌, ◌%◌, ◌^◌, ℤ, pos, negsuc, nat_lt, Option, Some, None, Result, Ok, Err}
use Rattle.list.specs.Pick.{pick}
use Rattle.value.specs.declared.Mode.{Mode}
use Rattle.sums.specs.declared.Unkept.{Unkept}
use Rattle.value.specs.declared.Mode.TheVariants.{Lenient, Checked}

-- a sum that is not below 0: kept modulo 2^32, or in checked mode refused where it is 2^32 or more
unfoldable pub reduced_of : Mode → ℕ → Result ℕ Unkept
reduced_of Lenient n = Ok (n % 2 ^ 32)
reduced_of Checked n = pick (nat_lt n (2 ^ 32)) (Ok n) (Err Unkept.Wide)

-- steps 1 and 4: below 0 is tested first
unfoldable pub sum_of : Mode → ℤ → Result ℕ Unkept
sum_of mode (pos n) = reduced_of mode n
sum_of mode (negsuc n) = Err Unkept.Negative

-- step 3: an id is not below 0, and below the count
unfoldable pub id_of : ℕ → ℤ → Option ℕ
id_of count (pos n) = pick (nat_lt n count) (Some n) None
id_of count (negsuc n) = None

-- step 5: a name sum below 0 is taken modulo 2^32 too, or is too wide in checked mode
unfoldable pub name_sum_of : Mode → ℤ → Result ℕ Unkept
name_sum_of mode (pos n) = reduced_of mode n
name_sum_of Lenient (negsuc n) = Ok (4294967295 - n % 2 ^ 32)
name_sum_of Checked (negsuc n) = Err Unkept.Wide

-- the largest of the 64-bit sums that a mode keeps
unfoldable pub widest_of : Mode → ℕ
widest_of Lenient = 2 ^ 63 - 1
widest_of Checked = 2 ^ 32 - 1
