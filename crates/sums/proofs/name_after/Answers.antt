-- `sums::name_after` meets its contract. Assumes nothing.
use Rattle.std.proofs.Common.{arith}
use Rattle.sums.proofs.Sums.{name_kept, name_reduced, name_wide}
use Rattle.sums.proofs.name_after.Goals as goal

pub returns-then-sum-lt4294967296 : goal.returns-then-sum-lt4294967296
returns-then-sum-lt4294967296 c =
    let a = c.args in
    name_kept a.base a.v c.ranges.v c.sum_of-sum.result (omega arith) c.sum_of-sum.ensures a.mode
    c.if-sum-lt4294967296.true

pub returns-in-Lenient : goal.returns-in-Lenient
returns-in-Lenient c =
    let a = c.args in
    rw c.in-Lenient.is
    (name_reduced a.base a.v c.ranges.v c.sum_of-sum.result (omega arith) c.sum_of-sum.ensures)

pub returns-in-Checked : goal.returns-in-Checked
returns-in-Checked c =
    let a = c.args in
    rw c.in-Checked.is
    (name_wide a.base a.v c.ranges.v c.sum_of-sum.result (omega arith) c.sum_of-sum.ensures
    c.if-sum-lt4294967296.false)
