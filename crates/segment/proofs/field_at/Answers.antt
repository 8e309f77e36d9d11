-- `segment::field_at` meets its contract. Assumes nothing.
use Rattle.std.proofs.Common.{◌≡◌, arith, sym, refl, ◌∙◌}
use Rattle.segment.proofs.Places.{none_left, none_due, passes, goes}
use Rattle.segment.proofs.field_at.Goals as goal
use Rattle.segment.proofs.field_at.Goals.{then-code_of-lt32, else-code_of-lt32}

pub loop-i-init : goal.loop-i-init
loop-i-init c = record { same = refl; within = omega arith }

pub returns-then-k-eq0 : goal.returns-then-k-eq0
returns-then-k-eq0 c = sym (none_due _ _ _ c.if-k-eq0.true) ∙ c.loop-i.invariant.same

pub loop-i-preserved : goal.loop-i-preserved
loop-i-preserved c =
    record {
      same =
          elim c.if-code_of-lt32.branch [
            | then-code_of-lt32 v ↦ rw v.k-is (sym (passes _ _ c.loop-i-test.true _ c.code_of.ensures _ c.if-k-eq0.false v.if-code_of-lt32.true) ∙ c.loop-i.invariant.same)
            | else-code_of-lt32 v ↦ rw v.k-is (sym (goes _ _ c.loop-i-test.true _ c.code_of.ensures _ c.if-k-eq0.false v.if-code_of-lt32.false) ∙ c.loop-i.invariant.same)
          ];
      within = omega arith;
    }

pub returns : goal.returns
returns c =
    let e : c.max.result ≡ c.loop-i.i = omega (arith, c.max.ensures, c.loop-i.invariant.within) in
    rw e (sym (none_left _ _ _ c.loop-i-test.false) ∙ c.loop-i.invariant.same)
