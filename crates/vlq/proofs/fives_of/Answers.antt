-- `vlq::fives_of` meets its contract. Assumes nothing.
use native.Mathlib.Omega.{arith}
use Rattle.vlq.proofs.Lanes.{lanes, small, high_small, low_small, small_le, slash_le, high_within, fives_is}
use Rattle.vlq.proofs.fives_of.Goals as goal

pub overflow_mul-p : goal.overflow_mul-p
overflow_mul-p c = omega (arith, low_small c.args.w (lanes c.args.w (omega (arith, c.ranges.w)) c.requires.0) c.args.l c.args.u c.requires.1.0 c.requires.1.1)

pub overflow_mul-result : goal.overflow_mul-result
overflow_mul-result c = omega (arith, low_small c.args.w (lanes c.args.w (omega (arith, c.ranges.w)) c.requires.0) c.args.l c.args.u c.requires.1.0 c.requires.1.1)

pub overflow_add-result : goal.overflow_add-result
overflow_add-result c = omega (arith, small c.args.w (lanes c.args.w (omega (arith, c.ranges.w)) c.requires.0), low_small c.args.w (lanes c.args.w (omega (arith, c.ranges.w)) c.requires.0) c.args.l c.args.u c.requires.1.0 c.requires.1.1)

pub overflow_add-result-2 : goal.overflow_add-result-2
overflow_add-result-2 c = omega (arith, small c.args.w (lanes c.args.w (omega (arith, c.ranges.w)) c.requires.0), low_small c.args.w (lanes c.args.w (omega (arith, c.ranges.w)) c.requires.0) c.args.l c.args.u c.requires.1.0 c.requires.1.1)

pub overflow_mul-result-2 : goal.overflow_mul-result-2
overflow_mul-result-2 c = omega (arith, slash_le c.args.w (lanes c.args.w (omega (arith, c.ranges.w)) c.requires.0) c.args.l c.args.u c.requires.1.0 c.requires.1.1)

pub overflow_sub-result : goal.overflow_sub-result
overflow_sub-result c = omega (arith, slash_le c.args.w (lanes c.args.w (omega (arith, c.ranges.w)) c.requires.0) c.args.l c.args.u c.requires.1.0 c.requires.1.1)

pub overflow_mul-result-3 : goal.overflow_mul-result-3
overflow_mul-result-3 c = omega (arith, small_le c.args.w (lanes c.args.w (omega (arith, c.ranges.w)) c.requires.0) c.args.l c.args.u c.requires.1.0 c.requires.1.1)

pub overflow_sub-result-2 : goal.overflow_sub-result-2
overflow_sub-result-2 c = omega (arith, slash_le c.args.w (lanes c.args.w (omega (arith, c.ranges.w)) c.requires.0) c.args.l c.args.u c.requires.1.0 c.requires.1.1, small_le c.args.w (lanes c.args.w (omega (arith, c.ranges.w)) c.requires.0) c.args.l c.args.u c.requires.1.0 c.requires.1.1)

pub overflow_mul-result-4 : goal.overflow_mul-result-4
overflow_mul-result-4 c = omega (arith, high_small c.args.w (lanes c.args.w (omega (arith, c.ranges.w)) c.requires.0) c.args.l c.args.u c.requires.1.0 c.requires.1.1)

pub overflow_sub-result-3 : goal.overflow_sub-result-3
overflow_sub-result-3 c = high_within c.args.w (lanes c.args.w (omega (arith, c.ranges.w)) c.requires.0) c.args.l c.args.u c.requires.1.0 c.requires.1.1

pub returns : goal.returns
returns c = fives_is c.args.w (lanes c.args.w (omega (arith, c.ranges.w)) c.requires.0) c.args.l c.args.u c.requires.1.0 c.requires.1.1
