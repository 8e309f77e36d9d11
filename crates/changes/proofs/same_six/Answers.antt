-- `changes::same_six` meets its contract. Assumes nothing.
use Rattle.std.proofs.Common.{arith}
use Rattle.std.proofs.lemmas.Grind.{common_steps}
use Rattle.list.specs.Same.{same}
use Rattle.changes.proofs.same_six.Goals as goal

pub returns-then-t-u-5 : goal.returns-then-t-u-5
unfolding same
returns-then-t-u-5 c = grind (arith, common_steps)

pub returns-else-t-u-5 : goal.returns-else-t-u-5
unfolding same
returns-else-t-u-5 c = grind (arith, common_steps)
