use Rattle.std.proofs.Common.{arith}
use Rattle.vlq_write.proofs.NearSteps.{is_off}
use Rattle.vlq_write.proofs.off.Goals as goal

pub returns : goal.returns
returns c = is_off _ _ _ c.ranges.a.fits c.ranges.b.fits (omega arith) (omega arith)
