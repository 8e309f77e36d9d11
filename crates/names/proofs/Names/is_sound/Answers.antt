use native.Mathlib.Omega.{arith}
use Rattle.names.proofs.Ends.{too_many, start, falls, goes_on, ended}
use Rattle.names.proofs.Names.is_sound.Goals as goal

pub returns-then-self-gt-MOST : goal.returns-then-self-gt-MOST
returns-then-self-gt-MOST c = too_many _ _ c.if-self-gt-MOST.true

pub loop-end-init : goal.loop-end-init
loop-end-init c = start _ _ c.if-self-gt-MOST.false

pub returns-then-end-from : goal.returns-then-end-from
returns-then-end-from c = falls _ _ _ _ c.loop-end.invariant (omega arith) c.if-end-from.true

pub loop-end-preserved : goal.loop-end-preserved
loop-end-preserved c = goes_on _ _ _ _ c.loop-end.invariant (omega arith) c.if-end-from.false

pub returns : goal.returns
returns c = ended _ _ _ _ c.loop-end.invariant c.loop-end-test.false
