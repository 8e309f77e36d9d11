use Rattle.std.proofs.Common.{arith, rules}
use Rattle.chunk.proofs.State.{small_token, small_state}
use Rattle.encode.proofs.Measure.{measuring, measured_all, measured_back, measure_fits, measure_next}
use Rattle.encode.proofs.measured.Goals as goal

pub loop-i-init : goal.loop-i-init
loop-i-init c = measuring _ _ (small_state _ (search rules)) c.requires

pub returns-then-t-p : goal.returns-then-t-p
returns-then-t-p c = measured_back _ _ _ _ _ c.loop-i.invariant _ c.token_at-t.ensures c.loop-i-test.true c.if-t-p.true

pub overflow_add-n : goal.overflow_add-n
overflow_add-n c = record { fits = measure_fits _ _ _ _ _ c.loop-i.invariant _ c.token_at-t.ensures c.loop-i-test.true c.if-t-p.false (small_token _ (search rules)) _ c.token_size-n.ensures (omega arith) }

pub loop-i-preserved : goal.loop-i-preserved
loop-i-preserved c = measure_next _ _ _ _ _ c.loop-i.invariant _ c.token_at-t.ensures c.loop-i-test.true c.if-t-p.false (small_token _ (search rules)) _ c.token_size-n.ensures _ c.after-p.ensures

pub returns : goal.returns
returns c = measured_all _ _ _ _ _ c.loop-i.invariant c.loop-i-test.false
