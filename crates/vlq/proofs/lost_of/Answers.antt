-- `vlq::lost_of` meets its contract. Assumes nothing.
use borrow.Author.Tests.{eq-eqb, ne_eqb}
use Rattle.vlq.proofs.lost_of.Goals as goal

pub returns-then-k-eq12 : goal.returns-then-k-eq12
returns-then-k-eq12 c = rw (eq-eqb c.args.k 12 c.if-k-eq12.true)

pub returns : goal.returns
returns c = rw (ne_eqb c.args.k 12 c.if-k-eq12.false)
