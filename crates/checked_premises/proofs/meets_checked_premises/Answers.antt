-- `checked_premises::meets_checked_premises` meets its contract. The invariant: what is left of the table decides the whole. Assumes nothing.
use Rattle.checked_premises.proofs.Laws.{says_no, says_yes, refuses, begun_is, begin, ends, stops, stops_far, goes_on}
use mathlib.Core.Path.{ap}
use mathlib.Core.Bool.{not}
use Rattle.checked_premises.proofs.meets_checked_premises.Goals as goal

pub returns-then-bad_table : goal.returns-then-bad_table
returns-then-bad_table c = says_no _ _ _ (refuses _ _ _ _ c.bad_table.ensures c.if-bad_table.true)

pub loop-i-init : goal.loop-i-init
loop-i-init c = begin _ _ _ _ c.bad_table.ensures c.if-bad_table.false _ (begun_is _ c.default-p.ensures)

pub returns-then-not-follows_ok : goal.returns-then-not-follows_ok
returns-then-not-follows_ok c = says_no _ _ _ (stops _ _ _ _ _ c.loop-i.invariant _ c.places_in-i-end.ensures c.loop-i-test.true _ c.token_at-t.ensures _ c.follows_ok.ensures (ap not c.if-not-follows_ok.true))

pub returns-then-not-near_all : goal.returns-then-not-near_all
returns-then-not-near_all c = says_no _ _ _ (stops_far _ _ _ _ _ c.loop-i.invariant _ c.places_in-i-end.ensures c.loop-i-test.true _ c.token_at-t.ensures _ c.follows_ok.ensures _ c.near_all.ensures (ap not c.if-not-near_all.true))

pub loop-i-preserved : goal.loop-i-preserved
loop-i-preserved c = goes_on _ _ _ _ _ c.loop-i.invariant _ c.places_in-i-end.ensures c.loop-i-test.true _ c.token_at-t.ensures _ c.follows_ok.ensures _ c.near_all.ensures (ap not c.if-not-follows_ok.false) (ap not c.if-not-near_all.false) _ c.after-p.ensures

pub returns : goal.returns
returns c = says_yes _ _ _ (λ i. (c.type_inv.table i).fits) (ends _ _ _ _ _ c.loop-i.invariant _ c.places_in-i-end.ensures c.loop-i-test.false)
