-- `halving::best_at` meets its contract, by the laws of `Parts`. Assumes nothing.
use native.Mathlib.Omega.{arith}
use lib.ListN.{length}
use Rattle.token.proofs.Whole.{few}
use Rattle.order.proofs.Rise.{narrow}
use Rattle.halving.proofs.Parts.{other_line, past_it, found}
use Rattle.halving.proofs.best_at.Goals as goal

pub returns-then-t-p : goal.returns-then-t-p
returns-then-t-p c = other_line _ c.requires.0.1 (narrow _ (λ i. omega (arith, c.type_inv.table i))) _ _ _ (omega arith) c.requires.1 _ c.token_at-t.ensures (λ q. omega (arith, q, c.if-t-p.true))

pub returns-then-p-t : goal.returns-then-p-t
returns-then-p-t c = past_it _ c.requires.0.1 (narrow _ (λ i. omega (arith, c.type_inv.table i))) _ _ _ (omega arith) c.requires.1 _ c.token_at-t.ensures c.if-p-t.true

pub overflow_cast-result : goal.overflow_cast-result
overflow_cast-result c = omega (arith, c.requires.1.ends, few (length c.args.table.now) c.requires.0.0)

pub returns : goal.returns
returns c = found _ c.requires.0.1 (narrow _ (λ i. omega (arith, c.type_inv.table i))) _ _ _ (omega arith) c.requires.1 _ c.token_at-t.ensures c.if-t-p.false c.if-p-t.false
