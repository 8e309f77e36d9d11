-- `lookup_many::block_of` meets its contract, by the laws of `Blocks`. Assumes nothing.
use Rattle.lookup_many.proofs.Blocks.{Spanned}
use Rattle.lookup_many.proofs.block_of.Given as goal

abbrev pub invariant-loop-i : goal.invariant-loop-i
invariant-loop-i l = Spanned l.table l.from l.to l.least l.most l.last l.i
