-- `step::shown_name` meets its contract. Assumes nothing.
use borrow.Author.Tests.{eq-eqb, ne_eqb}
use Rattle.step.proofs.shown_name.Goals as goal

pub returns-then-k-eq5 : goal.returns-then-k-eq5
returns-then-k-eq5 c = rw (eq-eqb c.args.k 5 c.if-k-eq5.true)

pub returns : goal.returns
returns c = rw (ne_eqb c.args.k 5 c.if-k-eq5.false)
