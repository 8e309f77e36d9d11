-- `step::next_segment` meets its contract. Assumes nothing.
use mathlib.Core.Path.{refl, sym, ◌∙◌}
use Rattle.step.proofs.Laws.{begins, ends, stands, crosses, less, on}
use Rattle.step.proofs.next_segment.Goals as goal

pub loop-st-init : goal.loop-st-init
loop-st-init c = begins _ _

pub loop-st-smaller : goal.loop-st-smaller
loop-st-smaller c = less c.args.s.now c.loop-st.st c.loop-st-test.true _ refl _ c.crossed-st.ensures

pub loop-st-preserved : goal.loop-st-preserved
loop-st-preserved c = on c.args.s.now _ c.loop-st.st _ c.loop-st.invariant (crosses c.args.s.now c.loop-st.st c.loop-st-test.true _ refl (sym c.between.ensures ∙ c.if-between.true) _ c.crossed-st.ensures)

pub returns-else-between : goal.returns-else-between
returns-else-between c = stands c.args.s.now _ c.loop-st.st c.loop-st.invariant _ refl (sym c.between.ensures ∙ c.if-between.false)

pub returns : goal.returns
returns c = ends c.args.s.now _ c.loop-st.st c.loop-st.invariant c.loop-st-test.false
