-- `table_size::counted` meets its contract. Assumes nothing.
use Rattle.table_size.proofs.counted.Goals as goal

pub returns : goal.returns
returns c = rw (c.if-delim.false, c.if-inside.false)
