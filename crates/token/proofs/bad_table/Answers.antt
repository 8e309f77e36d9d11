-- `token::bad_table` meets its contract. Assumes nothing.
use borrow.Author.Tests.{eq-eqb, ne_eqb}
use Prim.Native.Nat.{◌%◌}
use Rattle.token.proofs.bad_table.Goals as goal

pub returns-then-numbers-eq0 : goal.returns-then-numbers-eq0
returns-then-numbers-eq0 c = rw (c.places_in.ensures, eq-eqb (c.args.numbers % 7) 0 c.if-numbers-eq0.true)

pub returns : goal.returns
returns c = rw (ne_eqb (c.args.numbers % 7) 0 c.if-numbers-eq0.false)
