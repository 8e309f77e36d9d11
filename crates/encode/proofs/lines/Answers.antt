use Rattle.std.proofs.Common.{rules}
use Rattle.chunk.proofs.State.{small_token, small_state}
use Rattle.encode.proofs.Passing.{passing, passed, goes_back, passes}
use Rattle.encode.proofs.lines.Goals as goal

pub loop-i-init : goal.loop-i-init
loop-i-init c = passing _ _ (small_state _ (search rules)) c.requires

pub returns-then-t-line : goal.returns-then-t-line
returns-then-t-line c = goes_back _ _ _ _ c.loop-i.invariant _ c.token_at-t.ensures c.loop-i-test.true c.if-t-line.true

pub loop-i-preserved : goal.loop-i-preserved
loop-i-preserved c = passes _ _ _ _ c.loop-i.invariant _ c.token_at-t.ensures c.loop-i-test.true c.if-t-line.false (small_token _ (search rules))

pub returns : goal.returns
returns c = passed _ _ _ _ c.loop-i.invariant c.loop-i-test.false
