-- `short::five_or_four` meets its contract. Assumes nothing.
use Rattle.std.proofs.Common.{le-ltb, lt-ltb}
use Rattle.short.proofs.five_or_four.Goals as goal

pub returns-then-b-lt60 : goal.returns-then-b-lt60
returns-then-b-lt60 c = rw (lt-ltb c.args.b 60 c.if-b-lt60.true)

pub returns : goal.returns
returns c = rw (le-ltb c.args.b 60 c.if-b-lt60.false)
