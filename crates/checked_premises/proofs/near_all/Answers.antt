-- `checked_premises::near_all` meets its contract. Assumes nothing.
use Rattle.checked_premises.proofs.Laws.{far_column, bare, far_source, far_src_line, far_src_column, unnamed, name}
use mathlib.Core.Path.{ap}
use mathlib.Core.Bool.{not}
use Rattle.checked_premises.proofs.near_all.Goals as goal

pub returns-then-not-near : goal.returns-then-not-near
returns-then-not-near c = far_column _ _ _ c.base_of.ensures _ c.near.ensures (ap not c.if-not-near.true)

pub returns-then-t-eq-NONE : goal.returns-then-t-eq-NONE
returns-then-t-eq-NONE c = bare _ _ _ c.base_of.ensures _ c.near.ensures (ap not c.if-not-near.false) c.if-t-eq-NONE.true

pub returns-then-not-near-2 : goal.returns-then-not-near-2
returns-then-not-near-2 c = far_source _ _ _ c.base_of.ensures _ c.near.ensures (ap not c.if-not-near.false) c.if-t-eq-NONE.false _ c.near-2.ensures (ap not c.if-not-near-2.true)

pub returns-then-not-near-3 : goal.returns-then-not-near-3
returns-then-not-near-3 c = far_src_line _ _ _ c.base_of.ensures _ c.near.ensures (ap not c.if-not-near.false) c.if-t-eq-NONE.false _ c.near-2.ensures (ap not c.if-not-near-2.false) _ c.near-3.ensures (ap not c.if-not-near-3.true)

pub returns-then-not-near-4 : goal.returns-then-not-near-4
returns-then-not-near-4 c = far_src_column _ _ _ c.base_of.ensures _ c.near.ensures (ap not c.if-not-near.false) c.if-t-eq-NONE.false _ c.near-2.ensures (ap not c.if-not-near-2.false) _ c.near-3.ensures (ap not c.if-not-near-3.false) _ c.near-4.ensures (ap not c.if-not-near-4.true)

pub returns-then-t-eq-NONE-2 : goal.returns-then-t-eq-NONE-2
returns-then-t-eq-NONE-2 c = unnamed _ _ _ c.base_of.ensures _ c.near.ensures (ap not c.if-not-near.false) c.if-t-eq-NONE.false _ c.near-2.ensures (ap not c.if-not-near-2.false) _ c.near-3.ensures (ap not c.if-not-near-3.false) _ c.near-4.ensures (ap not c.if-not-near-4.false) c.if-t-eq-NONE-2.true

pub returns : goal.returns
returns c = name _ _ _ c.base_of.ensures _ c.near.ensures (ap not c.if-not-near.false) c.if-t-eq-NONE.false _ c.near-2.ensures (ap not c.if-not-near-2.false) _ c.near-3.ensures (ap not c.if-not-near-3.false) _ c.near-4.ensures (ap not c.if-not-near-4.false) c.if-t-eq-NONE-2.false _ c.near-5.ensures
