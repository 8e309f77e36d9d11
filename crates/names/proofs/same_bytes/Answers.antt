-- `names::same_bytes` meets its contract, by the laws of `Bytes`. Assumes nothing.
use mathlib.Core.Path.{◌∙◌}
use Rattle.list.proofs.Same.{equal_same}
use Rattle.names.proofs.Bytes.{differs, unlike}
use Rattle.names.proofs.same_bytes.Goals as goal

pub returns-then-a-b : goal.returns-then-a-b
returns-then-a-b c = differs _ _ c.if-a-b.true

pub returns-then-a-b-2 : goal.returns-then-a-b-2
returns-then-a-b-2 c = unlike _ _ c.if-a-b-2.true

pub returns : goal.returns
returns c = c.eq.ensures ∙ equal_same _ _
