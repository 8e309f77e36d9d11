-- `table_size::numbers` meets its contract. Assumes nothing.
use Rattle.table_size.proofs.Count.{more, fewer}
use Rattle.table_size.proofs.numbers.Goals as goal

pub returns-then-n : goal.returns-then-n
returns-then-n c = more _ c.if-n.true

pub returns : goal.returns
returns c = fewer _ c.if-n.false
