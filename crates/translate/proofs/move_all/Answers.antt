-- `translate::move_all` meets its contract, by the laws of `Moving`. Assumes nothing.
use Rattle.std.proofs.Common.{arith, refl}
use Rattle.translate.proofs.Moving.{start, fine, puts}
use Rattle.translate.proofs.move_all.Goals as goal

pub loop-i-init : goal.loop-i-init
loop-i-init c = start _ _ _ _ _ c.requires refl

pub moved-requires : goal.moved-requires
moved-requires c = fine _ _ _ _ _ _ _ c.loop-i.invariant (omega (arith, c.loop-i-test.true, c.places_in-i-end.ensures)) _ c.token_at-t.ensures

pub loop-i-preserved : goal.loop-i-preserved
loop-i-preserved c = puts _ _ _ _ _ _ _ c.loop-i.invariant (omega (arith, c.loop-i-test.true, c.places_in-i-end.ensures)) _ c.token_at-t.ensures _ _ c.moved.ensures c.put_token.ensures
