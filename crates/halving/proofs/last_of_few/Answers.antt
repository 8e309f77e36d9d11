-- `halving::last_of_few` meets its contract, by the laws of `Parts`. Assumes nothing.
use native.Mathlib.Omega.{arith}
use Rattle.halving.proofs.Parts.{few_most, few_left}
use Rattle.halving.proofs.last_of_few.Goals as goal

pub overflow_add-result : goal.overflow_add-result
overflow_add-result c = omega (arith, few_most _ _ _ _ c.counted_of-second.ensures, few_most _ _ _ _ c.counted_of-third.ensures, c.requires.1.ends, c.well_formed)

pub overflow_add-result-2 : goal.overflow_add-result-2
overflow_add-result-2 c = omega (arith, few_most _ _ _ _ c.counted_of-second.ensures, few_most _ _ _ _ c.counted_of-third.ensures, c.requires.1.ends, c.well_formed)

pub returns : goal.returns
returns c = few_left _ c.requires.0.0 _ _ _ c.requires.1 c.requires.0.1 _ _ c.counted_of-second.ensures c.counted_of-third.ensures
