-- `step::between` meets its contract. Assumes nothing.
use Rattle.step.proofs.Laws.{above}
use Rattle.step.proofs.between.Goals as goal

pub returns-then-b-ge60 : goal.returns-then-b-ge60
returns-then-b-ge60 c = above c.args.b c.if-b-ge60.true

pub returns : goal.returns
returns c = c.is_delim.ensures
