-- `decimal::put_decimal`, which calls itself, meets its contract, by the laws of `Write`. Assumes nothing.
use Rattle.std.proofs.Common.{arith}
use Rattle.decimal.proofs.Write.{one_fits, one_put, others_fit, same, last_fits, last_put}
use Rattle.decimal.proofs.+put_decimal.Goals as goal

pub bounds-out-at : goal.bounds-out-at
bounds-out-at t c = one_fits c.args.out.now _ _ c.requires c.if-n-lt10.true

pub returns-then-n-lt10 : goal.returns-then-n-lt10
returns-then-n-lt10 t c = one_put _ _ _ c.requires c.if-n-lt10.true _ c.figure.ensures

pub put_decimal-i-requires : goal.put_decimal-i-requires
put_decimal-i-requires t c = (omega (arith, c.decreases, c.if-n-lt10.false), others_fit c.args.out.now _ _ c.requires c.if-n-lt10.false)

pub bounds-out-i : goal.bounds-out-i
bounds-out-i t c = last_fits _ _ _ c.requires c.if-n-lt10.false _ _ c.put_decimal-i.ensures

pub overflow_add-result-2 : goal.overflow_add-result-2
overflow_add-result-2 t c =
    omega (arith, last_fits _ _ _ c.requires c.if-n-lt10.false _ _ c.put_decimal-i.ensures, same _ _ _ c.requires c.if-n-lt10.false _ _ c.put_decimal-i.ensures)

pub returns : goal.returns
returns t c = last_put _ _ _ c.requires c.if-n-lt10.false _ _ c.put_decimal-i.ensures _ c.figure-2.ensures
