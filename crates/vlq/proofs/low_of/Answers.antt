-- `vlq::low_of` meets its contract. Assumes nothing.
use native.Mathlib.Omega.{arith}
use Rattle.vlq.proofs.Lanes.{lanes, small, low_is}
use Rattle.vlq.proofs.low_of.Goals as goal

pub overflow_sub-result : goal.overflow_sub-result
overflow_sub-result c = omega (arith, small c.args.w (lanes c.args.w (omega (arith, c.ranges.w)) c.requires))

pub returns : goal.returns
returns c = low_is c.args.w (lanes c.args.w (omega (arith, c.ranges.w)) c.requires)
