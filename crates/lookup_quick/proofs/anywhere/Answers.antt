-- `lookup_quick::anywhere` meets its contract, by the laws of `Pairs`. Assumes nothing.
use Rattle.lookup_many.proofs.Pairs.{put_in_all}
use Rattle.lookup_quick.proofs.Steps.{at_first}
use Rattle.lookup_quick.proofs.anywhere.Goals as goal

pub returns : goal.returns
returns c = put_in_all _ _ _ _ _ c.requires.1 (c.fill.ensures.after (λ y e. e)) (λ k h. at_first _ _ c.requires.0)
