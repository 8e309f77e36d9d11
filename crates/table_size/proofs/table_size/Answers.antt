-- `table_size::table_size` meets its contract. Assumes nothing.
use Rattle.table_size.specs.Size.{table_size}
use Rattle.table_size.proofs.table_size.Goals as goal

pub returns : goal.returns
unfolding table_size
returns c = rw (← c.segments.ensures) c.numbers.ensures
