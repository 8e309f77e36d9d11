-- `digits::is_delim` meets its contract. Assumes nothing.
use native.Mathlib.Omega.{arith}
use Rattle.digits.proofs.Tables.{delim_mark}
use Rattle.digits.proofs.is_delim.Goals as goal

pub returns : goal.returns
returns c = delim_mark c.args.b (omega (arith, c.ranges.b))
