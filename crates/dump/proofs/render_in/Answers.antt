-- `dump::render_in` meets its contract, by the laws of `Printed`. Assumes nothing.
use Rattle.first_line.proofs.Line.{begins_within}
use Rattle.dump.proofs.Printed.{put_too_long, put_bad, put_text}
use Rattle.dump.proofs.render_in.Goals as goal

pub returns-then-input-gt-MOST : goal.returns-then-input-gt-MOST
returns-then-input-gt-MOST c = put_too_long _ _ _ _ c.if-input-gt-MOST.true c.put_input.ensures

pub slice_bounds-render_text-start : goal.slice_bounds-render_text-start
slice_bounds-render_text-start c = begins_within _ _ c.in-Some.ensures

pub returns-in-Some : goal.returns-in-Some
returns-in-Some c = put_text _ _ _ _ c.if-input-gt-MOST.false _ c.in-Some.ensures c.render_text.ensures

pub returns-in-None : goal.returns-in-None
returns-in-None c = put_bad _ _ _ _ c.if-input-gt-MOST.false c.in-None.ensures c.put_input-in-None.ensures
