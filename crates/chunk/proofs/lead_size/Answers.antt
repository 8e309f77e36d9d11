use Rattle.chunk.proofs.Lead.{size_same, size_semis}
use Rattle.chunk.proofs.lead_size.Goals as goal

pub returns-then-from-to : goal.returns-then-from-to
returns-then-from-to c = size_same _ _ _ c.if-from-to.true _ c.from.ensures

pub returns : goal.returns
returns c = size_semis _ _ _ c.if-from-to.false c.ranges.to.fits
