-- `table_size::segments` meets its contract. The invariant: what begins before the place is counted. Assumes nothing.
use native.Mathlib.Omega.{arith}
use Rattle.table_size.proofs.Count.{begins, ends, turns}
use Rattle.table_size.proofs.segments.Goals as goal

pub loop-b-init : goal.loop-b-init
loop-b-init c = begins _

pub counted-n-requires : goal.counted-n-requires
counted-n-requires c = omega (arith, c.loop-b.invariant.few)

pub loop-b-preserved : goal.loop-b-preserved
loop-b-preserved c = turns _ _ _ _ c.loop-b.invariant c.loop-b-test.true _ c.is_delim-delim.ensures _ c.counted-n.ensures

pub returns : goal.returns
returns c = ends _ _ _ _ c.loop-b.invariant c.loop-b-test.false
