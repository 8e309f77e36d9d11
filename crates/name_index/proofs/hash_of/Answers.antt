-- `name_index::hash_of` meets its contract, by the laws of `Slots`. Assumes nothing.
use native.Mathlib.Omega.{arith}
use Rattle.name_index.proofs.Slots.{step, ended}
use Rattle.name_index.proofs.hash_of.Goals as goal

pub loop-b-preserved : goal.loop-b-preserved
loop-b-preserved c = step _ _ _ c.loop-b.invariant (omega arith)

pub returns : goal.returns
returns c = ended _ _ _ c.loop-b.invariant (omega arith)
