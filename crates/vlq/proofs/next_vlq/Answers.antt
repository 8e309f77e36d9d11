-- `vlq::next_vlq` meets its contract. Assumes nothing.
use Rattle.vlq.proofs.Steps.{past_end, begins_not, begins, ends, cut_at, over_at, last_at, turn_at}
use native.Mathlib.Omega.{arith}
use mathlib.Core.Path.{◌≡◌, refl, sym}
use lib.ListN.{length}
use Rattle.vlq.proofs.next_vlq.Goals as goal

pub returns-then-s-at : goal.returns-then-s-at
returns-then-s-at c = sym (past_end _ _ c.if-s-at.true)

pub returns-then-is_delim : goal.returns-then-is_delim
returns-then-is_delim c = begins_not _ _ (omega arith) _ c.is_delim.ensures c.if-is_delim.true

pub loop-i-init : goal.loop-i-init
loop-i-init c = begins _ _ (omega arith) _ c.is_delim.ensures c.if-is_delim.false

pub returns-then-d-eq64 : goal.returns-then-d-eq64
returns-then-d-eq64 c = cut_at _ _ _ _ _ c.loop-i.invariant c.loop-i-test.true (omega (arith, c.shared_slice_known-1.given c.loop-i.i)) _ c.code_of-d.ensures c.if-d-eq64.true

pub returns-then-k-ge13 : goal.returns-then-k-ge13
returns-then-k-ge13 c = over_at _ _ _ _ _ c.loop-i.invariant c.loop-i-test.true (omega (arith, c.shared_slice_known-1.given c.loop-i.i)) _ c.code_of-d.ensures c.if-d-eq64.false c.if-k-ge13.true

pub put_digit-next-requires : goal.put_digit-next-requires
put_digit-next-requires c = (c.if-k-ge13.false, c.loop-i.invariant.low c.if-k-ge13.false)

pub returns-then-d-lt32 : goal.returns-then-d-lt32
returns-then-d-lt32 c = last_at _ _ _ _ _ c.loop-i.invariant c.loop-i-test.true (omega (arith, c.shared_slice_known-1.given c.loop-i.i)) _ c.code_of-d.ensures c.if-d-eq64.false c.if-k-ge13.false _ refl _ c.put_digit-next.ensures c.if-d-lt32.true _ _ refl c.lost_of.ensures

pub loop-i-preserved : goal.loop-i-preserved
loop-i-preserved c = turn_at _ _ _ _ _ c.loop-i.invariant c.loop-i-test.true (omega (arith, c.shared_slice_known-1.given c.loop-i.i)) _ c.code_of-d.ensures c.if-d-eq64.false c.if-k-ge13.false _ refl _ c.put_digit-next.ensures c.if-d-lt32.false

pub returns : goal.returns
returns c =
    let e : length c.args.s.now ≡ c.loop-i.i = omega (arith, c.loop-i.auto.i-end) in
    rw e (sym (ends _ _ _ _ _ c.loop-i.invariant c.loop-i-test.false))
