-- `table_size::is_delim` meets its contract. Assumes nothing.
use native.Mathlib.Omega.{arith}
use Rattle.table_size.proofs.Count.{coded}
use Rattle.table_size.proofs.is_delim.Goals as goal

pub returns : goal.returns
returns c = coded _ _ (omega (arith, c.ranges.b)) c.code_of.ensures
