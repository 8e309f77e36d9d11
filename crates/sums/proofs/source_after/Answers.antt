-- `sums::source_after` meets its contract. Assumes nothing.
use Rattle.std.proofs.Common.{arith}
use Rattle.sums.proofs.Sums.{inside, outside}
use Rattle.sums.proofs.source_after.Goals as goal

pub returns-then-sum-count : goal.returns-then-sum-count
returns-then-sum-count c =
    let a = c.args in
    inside a.base a.v c.ranges.v c.sum_of-sum.result (omega arith) c.sum_of-sum.ensures a.count (omega arith)
    c.if-sum-count.true

pub returns : goal.returns
returns c =
    let a = c.args in
    outside a.base a.v c.ranges.v c.sum_of-sum.result (omega arith) c.sum_of-sum.ensures a.count c.if-sum-count.false
