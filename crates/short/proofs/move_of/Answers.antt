-- `short::move_of` meets its contract. Assumes nothing.
use Rattle.std.proofs.Common.{◌%◌, arith, eq-eqb, ne_eqb}
use Rattle.short.specs.Short.{move_of}
use Rattle.short.proofs.move_of.Goals as goal

pub returns-then-bits-eq1 : goal.returns-then-bits-eq1
unfolding move_of
returns-then-bits-eq1 c = rw (eq-eqb (c.args.bits % 2) 1 c.if-bits-eq1.true) (omega (arith, c.ranges.bits))

pub returns : goal.returns
unfolding move_of
returns c = rw (ne_eqb (c.args.bits % 2) 1 c.if-bits-eq1.false)
