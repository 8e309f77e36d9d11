-- `records::answer_for` meets its contract, by the laws of `Laws`. Assumes nothing.
use Rattle.std.proofs.Common.{rules}
use Rattle.records.proofs.Laws.{too_many, looked}
use Rattle.records.proofs.answer_for.Goals as goal

pub returns-then-ts-gt-MOST : goal.returns-then-ts-gt-MOST
returns-then-ts-gt-MOST c = too_many _ _ _ _ c.if-ts-gt-MOST.true

pub returns : goal.returns
returns c = looked _ _ _ _ _ c.if-ts-gt-MOST.false _ c.look.ensures (λ k t h p. search rules)
