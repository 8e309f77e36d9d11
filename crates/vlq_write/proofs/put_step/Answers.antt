use Rattle.std.proofs.Common.{ap, arith}
use Rattle.vlq_write.specs.Write.{write_of}
use Rattle.vlq_write.proofs.Loop.{one_fits, one}
use Rattle.vlq_write.proofs.NearSteps.{near_small, near_char, far_few}
use Rattle.list.proofs.Put.{put_is}
use Rattle.vlq_write.proofs.put_step.Goals as goal

pub bounds-out-at : goal.bounds-out-at
bounds-out-at c = one_fits c.args.out.now _ _ c.requires

pub returns-then-x-lt31 : goal.returns-then-x-lt31
returns-then-x-lt31 c = one _ _ _ c.requires (near_small _ _ _ c.off-x.ensures c.if-x-lt31.true) _ (near_char _ _ _ c.off-x.ensures c.if-x-lt31.true _ c.near_char.ensures)

pub put_few-requires : goal.put_few-requires
put_few-requires c = record { few = far_few _ _ _ c.off-x.ensures c.if-x-lt31.false _ c.vlq_value-v.ensures c.if-v-lt1048576.true; at_in_bounds = omega (arith, c.if-out-at-ge4.true) }

pub returns-then-out-at-ge4 : goal.returns-then-out-at-ge4
returns-then-out-at-ge4 c = put_is _ _ _ _ _ _ (ap write_of c.vlq_value-v.ensures) c.put_few.ensures

pub put_digits-requires : goal.put_digits-requires
put_digits-requires c = rw c.vlq_value-v.ensures c.requires

pub returns : goal.returns
returns c = put_is _ _ _ _ _ _ (ap write_of c.vlq_value-v.ensures) c.put_digits.ensures
