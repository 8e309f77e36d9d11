-- `lines::put_number` meets its contract, by the laws of `Numbers`. Assumes nothing.
use native.Mathlib.Omega.{arith}
use Rattle.lines.proofs.Numbers.{figures_fit, figures_same, after_fits, number_put}
use Rattle.lines.proofs.put_number.Goals as goal

pub put_decimal-i-requires : goal.put_decimal-i-requires
put_decimal-i-requires c = figures_fit c.args.out.now _ _ _ c.requires

pub bounds-out-i : goal.bounds-out-i
bounds-out-i c = after_fits _ _ _ _ c.requires _ _ c.put_decimal-i.ensures

pub overflow_add-result : goal.overflow_add-result
overflow_add-result c = omega (arith, after_fits _ _ _ _ c.requires _ _ c.put_decimal-i.ensures, figures_same _ _ _ _ c.requires _ _ c.put_decimal-i.ensures)

pub returns : goal.returns
returns c = number_put _ _ _ _ c.requires _ _ c.put_decimal-i.ensures
