-- `compose::made_token` meets its contract, by the laws of `Ask`. Assumes nothing.
use native.Mathlib.Omega.{arith}
use borrow.Author.Tests.{ne_eqb}
use Rattle.token.specs.Table.{no_id}
use Rattle.compose.proofs.Ask.{the_same}
use Rattle.compose.proofs.made_token.Goals as goal

pub returns-in_default-clause-lists : goal.returns-in_default-clause-lists
returns-in_default-clause-lists g c = rw c.in_default.is (the_same _ _ _ _ c.requires.askable)

pub returns-then-o-clause-lists : goal.returns-then-o-clause-lists
returns-then-o-clause-lists g c = rw (c.in-Some.is, ne_eqb c.in-Some.o.name_id no_id (λ e. omega (arith, e, c.if-o.true))) (the_same _ _ _ _ c.requires.askable)
