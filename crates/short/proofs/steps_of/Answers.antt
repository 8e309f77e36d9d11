-- `short::steps_of` meets its contract. Assumes nothing.
use Rattle.std.proofs.Common.{arith}
use Rattle.short.proofs.Lanes.{small_digits, read}
use Rattle.short.proofs.steps_of.Goals as goal

pub four_steps-requires : goal.four_steps-requires
four_steps-requires c = small_digits _ _ c.in_ok-d.ensures

pub returns : goal.returns
returns c = λ x. read _ _ _ _ x (omega (arith, c.ranges.w)) c.in_ok-d.ensures c.four_steps.ensures
