-- `step::take_segment` meets its contract. Assumes nothing.
use mathlib.Core.Path.{refl}
use Rattle.step.proofs.Laws.{segment_here, over}
use Rattle.step.proofs.take_segment.Goals as goal

pub returns-then-st-s : goal.returns-then-st-s
returns-then-st-s c = segment_here c.args.s.now c.args.st c.if-st-s.true _ refl (c.requires c.if-st-s.true) _ _ _ _ c.segment_step.ensures

pub returns : goal.returns
returns c = over _ _ _ c.args.s.now c.args.st c.if-st-s.false
