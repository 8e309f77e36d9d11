-- `premises::meets_premises` meets its contract. The invariant: what is left of the table decides the whole. Assumes nothing.
use Rattle.premises.proofs.Laws.{says_no, says_yes, refuses, begin, ends, stops, goes_on}
use mathlib.Core.Path.{ap}
use mathlib.Core.Bool.{not}
use Rattle.premises.proofs.meets_premises.Goals as goal

pub returns-then-bad_table : goal.returns-then-bad_table
returns-then-bad_table c = says_no _ _ _ (refuses _ _ _ _ c.bad_table.ensures c.if-bad_table.true)

pub returns-then-not-follows_ok : goal.returns-then-not-follows_ok
returns-then-not-follows_ok c = says_no _ _ _ (stops _ _ _ _ _ _ _ c.loop-i.invariant _ c.places_in-i-end.ensures c.loop-i-test.true _ c.token_at-t.ensures _ c.follows_ok.ensures (ap not c.if-not-follows_ok.true))

pub loop-i-preserved : goal.loop-i-preserved
loop-i-preserved c = goes_on _ _ _ _ _ _ _ c.loop-i.invariant _ c.places_in-i-end.ensures c.loop-i-test.true _ c.token_at-t.ensures _ c.follows_ok.ensures (ap not c.if-not-follows_ok.false) _ c.after-before.ensures

pub returns : goal.returns
returns c = says_yes _ _ _ (λ i. (c.type_inv.table i).fits) (ends _ _ _ _ _ _ _ c.loop-i.invariant _ c.places_in-i-end.ensures c.loop-i-test.false)

pub loop-i-init : goal.loop-i-init
loop-i-init c = let h = c.default-before.ensures in rw (h.0, h.1.0, h.1.1) (begin _ _ _ _ c.bad_table.ensures c.if-bad_table.false)
