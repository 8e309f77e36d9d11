-- `short::four_digits` meets its contract. Assumes nothing.
use Rattle.std.proofs.Common.{refl, arith}
use lib.Bits.{and_le_l, and_le_r}
use Rattle.short.proofs.Lanes.{narrow, below_half, flip_fits, ones}
use Rattle.short.proofs.four_digits.Goals as goal

pub overflow_mul-twelves : goal.overflow_mul-twelves
overflow_mul-twelves c = omega (arith, and_le_r c.args.t 538976288)

pub overflow_sub-v : goal.overflow_sub-v
overflow_sub-v c = omega (arith, and_le_l c.args.t 538976288)

pub overflow_add-over : goal.overflow_add-over
overflow_add-over c = omega (arith, below_half c.args.t (narrow c.args.t (omega (arith, c.ranges.t)) c.if-high-ne0.false))

pub overflow_sub-over : goal.overflow_sub-over
overflow_sub-over c = omega (arith, flip_fits c.args.t (narrow c.args.t (omega (arith, c.ranges.t)) c.if-high-ne0.false) _ refl)

pub overflow_add-result : goal.overflow_add-result
overflow_add-result c = omega (arith, and_le_l c.args.t 538976288, c.ranges.t)

pub returns : goal.returns
returns c = ones c.args.t (narrow c.args.t (omega (arith, c.ranges.t)) c.if-high-ne0.false) _ refl c.if-over-ne0.false
