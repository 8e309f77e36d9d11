-- `short::try_few` meets its contract. Assumes nothing.
use Rattle.short.proofs.Laws.{few_three}
use Rattle.short.proofs.try_few.Goals as goal

pub few_after-requires : goal.few_after-requires
few_after-requires c = (c.requires.0, few_three _ c.args.at (λ i. (c.shared_slice_known-1.given i).fits) c.requires.0 c.requires.1 _ c.four_of.ensures _ c.in_ok-steps.ensures)
