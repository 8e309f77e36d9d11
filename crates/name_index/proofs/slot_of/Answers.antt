-- `name_index::slot_of` meets its contract, by the laws of `Slots`. Assumes nothing.
use native.Mathlib.Omega.{arith}
use Rattle.name_index.proofs.Slots.{product_fits, is_slot}
use Rattle.name_index.proofs.slot_of.Goals as goal

pub overflow_mul-result : goal.overflow_mul-result
overflow_mul-result c = omega (arith, product_fits _ _ _ c.hash_of.ensures c.requires)

pub returns : goal.returns
returns c = is_slot _ _ _ c.hash_of.ensures
