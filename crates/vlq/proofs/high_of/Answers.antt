-- `vlq::high_of` meets its contract. Assumes nothing.
use native.Mathlib.Omega.{arith}
use Rattle.vlq.proofs.Lanes.{lanes, high_is}
use Rattle.vlq.proofs.high_of.Goals as goal

pub returns : goal.returns
returns c = high_is c.args.w (lanes c.args.w (omega (arith, c.ranges.w)) c.requires)
