-- `segment::parse_vlq_segment` meets its contract. Assumes nothing.
use Rattle.std.proofs.Common.{sym, ap, ◌∙◌, rules}
use Rattle.std.specs.Prelude.{Ok}
use Rattle.segment.proofs.OneDigit.{found, ended, broke}
use Rattle.segment.proofs.Loop.{Turn, start, ends, breaks, stores, counts, widens}
use Rattle.segment.proofs.parse_vlq_segment.Goals as goal
use Rattle.segment.proofs.parse_vlq_segment.Goals.{in-Some-value+then-count-lt5, in-Some-value+else-count-lt5, in-None}

turned : (c : goal.Joined-value) → Turn c.args.mode c.args.s.now c.args.at c.loop-value.count c.loop-value.i c.match-value.nums c.match-value.wide c.in-Some.next
turned c =
    let p = c.loop-value.invariant in
    let w = found _ _ _ _ _ (sym (c.in_ok-value.was ∙ ap Ok c.in-Some.is) ∙ c.next_field.ensures) in
    elim c.match-value.branch [
      | in-Some-value+then-count-lt5 v ↦ rw (v.nums-is, v.wide-is) (stores _ _ _ _ _ _ _ p _ _ _ w.is _ (sym v.in-Some-value.is ∙ w.value) v.if-count-lt5.true)
      | in-Some-value+else-count-lt5 v ↦ rw (v.nums-is, v.wide-is) (counts _ _ _ _ _ _ _ p _ _ _ w.is _ (sym v.in-Some-value.is ∙ w.value) v.if-count-lt5.false)
      | in-None v ↦ rw (v.nums-is, v.wide-is) (widens _ _ _ _ _ _ _ p _ _ _ w.is (sym v.in-None.is ∙ w.value) _ v.first_wide-wide.ensures)
    ]

pub loop-value-init : goal.loop-value-init
loop-value-init c = start _ _ _

pub returns-in_err-value : goal.returns-in_err-value
returns-in_err-value c =
    rw (← breaks _ _ _ _ _ _ _ c.loop-value.invariant _ (broke _ _ _ _ (sym c.in_err-value.was ∙ c.next_field.ensures))) (search rules)

pub loop-value-smaller : goal.loop-value-smaller
loop-value-smaller c = (turned c).less

pub loop-value-preserved : goal.loop-value-preserved
loop-value-preserved c = (turned c).again

pub returns : goal.returns
returns c = ends _ _ _ _ _ _ _ c.loop-value.invariant (ended _ _ _ (sym (c.in_ok-value.was ∙ ap Ok c.in_default.is) ∙ c.next_field.ensures))
