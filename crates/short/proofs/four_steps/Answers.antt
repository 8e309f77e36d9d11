-- `short::four_steps` meets its contract. Assumes nothing.
use Rattle.std.proofs.Common.{arith}
use Rattle.short.proofs.Lanes.{odd_under, odd_fits, half_fits, both_fits, steps_are}
use Rattle.short.proofs.four_steps.Goals as goal

pub overflow_sub-half : goal.overflow_sub-half
overflow_sub-half c = omega (arith, odd_under c.args.d c.requires)

pub overflow_add-result : goal.overflow_add-result
overflow_add-result c = omega (arith, half_fits c.args.d c.requires)

pub overflow_mul-result : goal.overflow_mul-result
overflow_mul-result c = omega (arith, odd_fits c.args.d c.requires)

pub overflow_mul-result-2 : goal.overflow_mul-result-2
overflow_mul-result-2 c = omega (arith, both_fits c.args.d c.requires, half_fits c.args.d c.requires)

pub overflow_sub-result : goal.overflow_sub-result
overflow_sub-result c = omega (arith, both_fits c.args.d c.requires, half_fits c.args.d c.requires)

pub returns : goal.returns
returns c = λ x. steps_are c.args.d x
