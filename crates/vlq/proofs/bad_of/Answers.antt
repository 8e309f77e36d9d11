-- `vlq::bad_of` meets its contract. Assumes nothing.
use Prim.Native.Nat.{◌+◌}
use native.Mathlib.Omega.{arith}
use lib.Bits.{and_le_r}
use Rattle.vlq.proofs.Lanes.{lanes, small, high_small, low_small, bad_is}
use Rattle.vlq.proofs.bad_of.Goals as goal

pub overflow_add-q : goal.overflow_add-q
overflow_add-q c = omega (arith, small c.args.w (lanes c.args.w (omega (arith, c.ranges.w)) c.requires.0))

pub overflow_add-result : goal.overflow_add-result
overflow_add-result c = omega (arith, and_le_r (c.args.w + 522133279) 522133279)

pub overflow_sub-result : goal.overflow_sub-result
overflow_sub-result c = omega (arith, high_small c.args.w (lanes c.args.w (omega (arith, c.ranges.w)) c.requires.0) c.args.l c.args.u c.requires.1.0 c.requires.1.1)

pub overflow_mul-result : goal.overflow_mul-result
overflow_mul-result c = omega (arith, low_small c.args.w (lanes c.args.w (omega (arith, c.ranges.w)) c.requires.0) c.args.l c.args.u c.requires.1.0 c.requires.1.1)

pub returns : goal.returns
returns c = bad_is c.args.w (lanes c.args.w (omega (arith, c.ranges.w)) c.requires.0) c.args.l c.args.u c.requires.1.0 c.requires.1.1
