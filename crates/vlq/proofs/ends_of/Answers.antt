-- `vlq::ends_of` meets its contract. Assumes nothing.
use native.Mathlib.Omega.{arith}
use Rattle.vlq.proofs.Lanes.{lanes, small, ends_is}
use Rattle.vlq.proofs.ends_of.Goals as goal

pub overflow_mul-result : goal.overflow_mul-result
overflow_mul-result c = omega (arith, small c.args.w (lanes c.args.w (omega (arith, c.ranges.w)) c.requires))

pub overflow_sub-result : goal.overflow_sub-result
overflow_sub-result c = omega (arith, small c.args.w (lanes c.args.w (omega (arith, c.ranges.w)) c.requires))

pub returns : goal.returns
returns c = ends_is c.args.w (lanes c.args.w (omega (arith, c.ranges.w)) c.requires)
