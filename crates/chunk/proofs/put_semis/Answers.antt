use native.Mathlib.Omega.{arith}
use Rattle.chunk.proofs.Lead.{semis_start, semis_same, semis_inside, semis_turn, semis_end}
use Rattle.chunk.proofs.put_semis.Goals as goal

pub loop-k-init : goal.loop-k-init
loop-k-init c = semis_start _ _ _ c.requires

pub bounds-out-i : goal.bounds-out-i
bounds-out-i c = semis_inside _ _ _ _ _ _ c.loop-k.invariant c.loop-k-test.true

pub overflow_add-i : goal.overflow_add-i
overflow_add-i c = omega (arith, semis_inside _ _ _ _ _ _ c.loop-k.invariant c.loop-k-test.true, semis_same _ _ _ _ _ _ c.loop-k.invariant)

pub overflow_add-k : goal.overflow_add-k
overflow_add-k c = omega arith

pub loop-k-smaller : goal.loop-k-smaller
loop-k-smaller c = omega arith

pub loop-k-preserved : goal.loop-k-preserved
loop-k-preserved c = semis_turn _ _ _ _ _ _ c.loop-k.invariant c.loop-k-test.true

pub shape_of-out : goal.shape_of-out
shape_of-out c = semis_same _ _ _ _ _ _ c.loop-k.invariant

pub returns : goal.returns
returns c = semis_end _ _ _ _ _ _ c.loop-k.invariant c.loop-k-test.false
