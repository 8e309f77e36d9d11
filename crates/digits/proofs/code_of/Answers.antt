-- `digits::code_of` meets its contract. Assumes nothing.
use mathlib.Core.Path.{sym, ap, ◌∙◌}
use native.Mathlib.Omega.{arith}
use Rattle.digits.specs.Digits.{class_of}
use Rattle.digits.proofs.Ranges.{capital, small, figure, plus, other, comma, semicolon}
use Rattle.digits.proofs.code_of.Goals as goal

pub returns-in-43 : goal.returns-in-43
returns-in-43 c = sym (plus c.args.b (λ p. omega arith) (λ p. omega arith) (λ p q. omega arith) (λ p q. omega arith) (λ p q. omega arith) c.in-43.is)

pub returns-in-44 : goal.returns-in-44
returns-in-44 c = sym (ap class_of c.in-44.is ∙ comma)

pub returns-in-59 : goal.returns-in-59
returns-in-59 c = sym (ap class_of c.in-59.is ∙ semicolon)

pub returns-in-48-to-57 : goal.returns-in-48-to-57
returns-in-48-to-57 c = sym (figure c.args.b (λ p. omega arith) (λ p. omega arith) (λ p q. omega arith) (λ p q. omega arith) (omega arith) (omega arith))

pub returns-in-65-to-90 : goal.returns-in-65-to-90
returns-in-65-to-90 c = sym (capital c.args.b (λ p. omega arith) (λ p. omega arith) (omega arith) (omega arith))

pub returns-in-97-to-122 : goal.returns-in-97-to-122
returns-in-97-to-122 c = sym (small c.args.b (λ p. omega arith) (λ p. omega arith) (λ p q. omega arith) (omega arith) (omega arith))

pub returns-in_default : goal.returns-in_default
returns-in_default c = sym (other c.args.b (λ p. omega arith) (λ p. omega arith) (λ p q. omega arith) (λ p q. omega arith) (λ p q. omega arith) (λ p. omega arith))

pub returns-in_default-2 : goal.returns-in_default-2
returns-in_default-2 c = sym (other c.args.b (λ p. omega arith) (λ p. omega arith) (λ p q. omega arith) (λ p q. omega arith) (λ p q. omega arith) (λ p. omega arith))

pub returns-in_default-3 : goal.returns-in_default-3
returns-in_default-3 c = sym (other c.args.b (λ p. omega arith) (λ p. omega arith) (λ p q. omega arith) (λ p q. omega arith) (λ p q. omega arith) (λ p. omega arith))

pub returns-in_default-4 : goal.returns-in_default-4
returns-in_default-4 c = sym (other c.args.b (λ p. omega arith) (λ p. omega arith) (λ p q. omega arith) (λ p q. omega arith) (λ p q. omega arith) (λ p. omega arith))
