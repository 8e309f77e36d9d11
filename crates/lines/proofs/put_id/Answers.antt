-- `lines::put_id` meets its contract, by the laws of `Numbers`. Assumes nothing.
use Rattle.lines.proofs.Numbers.{dash_fits, then_fits, dash_put, id_fits, id_put}
use Rattle.lines.proofs.put_id.Goals as goal

pub bounds-out-at : goal.bounds-out-at
bounds-out-at c = dash_fits c.args.out.now _ _ _ c.requires c.if-id-eq-NONE.true

pub bounds-out-at-then-id-eq-NONE : goal.bounds-out-at-then-id-eq-NONE
bounds-out-at-then-id-eq-NONE c = then_fits c.args.out.now _ _ _ c.requires c.if-id-eq-NONE.true

pub returns-then-id-eq-NONE : goal.returns-then-id-eq-NONE
returns-then-id-eq-NONE c = dash_put _ _ _ _ c.requires c.if-id-eq-NONE.true

pub put_number-requires : goal.put_number-requires
put_number-requires c = id_fits c.args.out.now _ _ _ c.requires c.if-id-eq-NONE.false

pub returns : goal.returns
returns c = id_put _ _ _ _ c.requires c.if-id-eq-NONE.false _ _ c.put_number.ensures
