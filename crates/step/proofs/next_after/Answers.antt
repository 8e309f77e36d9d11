-- `step::next_after` meets its contract. Assumes nothing.
use mathlib.Core.Path.{refl}
use Rattle.step.proofs.Laws.{begins, ends, crosses, passed_on}
use Rattle.step.proofs.next_after.Goals as goal

pub returns-then-at-s : goal.returns-then-at-s
returns-then-at-s c =
    passed_on c.args.s.now c.args.st _ _
    (crosses c.args.s.now c.args.st c.if-at-s.true _ refl (c.requires c.if-at-s.true) _ c.crossed.ensures) c.next_segment.ensures

pub returns : goal.returns
returns c = ends c.args.s.now _ c.args.st (begins c.args.s.now c.args.st) c.if-at-s.false
