-- `sums::advance` meets its contract. Assumes nothing.
use Rattle.std.proofs.Common.{arith}
use Rattle.sums.proofs.Sums.{kept, negative, wide}
use Rattle.sums.proofs.advance.Goals as goal

pub returns-then-sum-widest : goal.returns-then-sum-widest
returns-then-sum-widest c =
    let a = c.args in
    kept a.base a.v c.ranges.v c.sum_of-sum.result (omega arith) c.sum_of-sum.ensures a.mode _
    c.widest.ensures c.if-sum-widest.true

pub returns-then-sum-ge9223372036854775808 : goal.returns-then-sum-ge9223372036854775808
returns-then-sum-ge9223372036854775808 c =
    let a = c.args in
    negative a.base a.v c.ranges.v c.sum_of-sum.result (omega arith) c.sum_of-sum.ensures a.mode
    c.if-sum-ge9223372036854775808.true

pub returns : goal.returns
returns c =
    let a = c.args in
    wide a.base a.v c.ranges.v c.sum_of-sum.result (omega arith) c.sum_of-sum.ensures a.mode _
    c.widest.ensures c.if-sum-widest.false c.if-sum-ge9223372036854775808.false
