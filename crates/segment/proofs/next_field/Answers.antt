-- `segment::next_field` meets its contract. Assumes nothing.
use Rattle.std.proofs.Common.{arith}
use Rattle.segment.proofs.OneDigit.{capital_field}
use Rattle.segment.proofs.next_field.Goals as goal

pub returns-then-d-lt26 : goal.returns-then-d-lt26
returns-then-d-lt26 c = rw c.value_of.ensures (capital_field _ _ _ _ c.if-at-s.true (omega (arith, (c.type_inv.s c.args.at).fits)) c.if-d-lt26.true)
