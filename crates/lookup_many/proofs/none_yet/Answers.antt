-- `lookup_many::none_yet` meets its contract, by the laws of `Pairs`. Assumes nothing.
use Rattle.lookup.proofs.Scan.{from_nothing}
use Rattle.lookup_many.specs.Places.{place_of}
use Rattle.lookup_many.proofs.Pairs.{put_in_all}
use mathlib.Core.Path.{ap}
use Rattle.lookup_many.proofs.none_yet.Goals as goal

pub returns : goal.returns
returns c = put_in_all _ _ _ _ _ c.requires (c.fill.ensures.after (λ y e. e)) (λ k h. ap place_of (from_nothing _ _ _))
