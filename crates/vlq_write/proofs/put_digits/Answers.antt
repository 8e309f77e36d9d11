use Rattle.std.proofs.Common.{arith, length-set}
use Rattle.vlq_write.proofs.Loop.{start, same, inside, turn, last}
use Rattle.vlq_write.proofs.put_digits.Goals as goal

pub loop-n-init : goal.loop-n-init
loop-n-init c = start _ _ _ c.requires

pub bounds-out-i : goal.bounds-out-i
bounds-out-i c = inside _ _ _ _ _ _ c.loop-n.invariant

pub overflow_add-i : goal.overflow_add-i
overflow_add-i c = omega (arith, inside _ _ _ _ _ _ c.loop-n.invariant, same _ _ _ _ _ _ c.loop-n.invariant)

pub loop-n-smaller : goal.loop-n-smaller
loop-n-smaller c = omega arith

pub loop-n-preserved : goal.loop-n-preserved
loop-n-preserved c = turn _ _ _ _ _ _ c.loop-n.invariant _ c.digit_char.ensures c.loop-n-test.true

pub bounds-out-i-2 : goal.bounds-out-i-2
bounds-out-i-2 c = inside _ _ _ _ _ _ c.loop-n.invariant

pub overflow_add-result : goal.overflow_add-result
overflow_add-result c = omega (arith, inside _ _ _ _ _ _ c.loop-n.invariant, same _ _ _ _ _ _ c.loop-n.invariant)

pub shape_of-out : goal.shape_of-out
shape_of-out c = simp length-set (same _ _ _ _ _ _ c.loop-n.invariant)

pub returns : goal.returns
returns c = last _ _ _ _ _ _ c.loop-n.invariant _ c.digit_char-2.ensures c.loop-n-test.false
