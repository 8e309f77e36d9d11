-- `name_ids::first_added` meets its contract, by the laws of `Find`. Assumes nothing.
use native.Mathlib.Omega.{arith}
use Rattle.name_ids.proofs.Find.{told_same, begin, hit, moves, missed}
use Rattle.name_ids.proofs.first_added.Goals as goal

pub loop-j-init : goal.loop-j-init
loop-j-init c = begin _ _ _

pub name_at-requires : goal.name_at-requires
name_at-requires c = (c.requires.0, c.requires.1 c.loop-j.j (omega arith))

pub returns-then-same_bytes : goal.returns-then-same_bytes
returns-then-same_bytes c = hit _ _ _ _ c.loop-j.invariant (omega arith) (told_same _ _ _ _ _ c.same_bytes.ensures c.name_at.ensures c.if-same_bytes.true)

pub loop-j-preserved : goal.loop-j-preserved
loop-j-preserved c = moves _ _ _ _ c.loop-j.invariant (omega arith) (told_same _ _ _ _ _ c.same_bytes.ensures c.name_at.ensures c.if-same_bytes.false)

pub returns : goal.returns
returns c = missed _ _ _ _ c.loop-j.invariant c.loop-j-test.false
