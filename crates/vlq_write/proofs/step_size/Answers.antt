use Rattle.vlq_write.proofs.Sizes.{step_fits, step_size}
use Rattle.vlq_write.proofs.step_size.Goals as goal

pub vlq_size-requires : goal.vlq_size-requires
vlq_size-requires c = step_fits _ _ _ c.ranges.a.fits c.ranges.b.fits c.vlq_value.ensures

pub returns : goal.returns
returns c = step_size _ _ _ c.ranges.a.fits c.ranges.b.fits c.vlq_value.ensures _ c.vlq_size.ensures
