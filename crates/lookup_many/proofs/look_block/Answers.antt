-- `lookup_many::look_block` meets its contract, by the laws of `Pairs`. Assumes nothing.
use mathlib.Core.Path.{◌∙◌, ap}
use Rattle.lookup.proofs.Scan.{index_small}
use Rattle.lookup_many.specs.Places.{found_in}
use Rattle.lookup_many.proofs.Pairs.{placed}
use Rattle.lookup_many.proofs.look_block.Goals as goal

pub each_place-requires-clause-can : goal.each_place-requires-clause-can
each_place-requires-clause-can c = λ k h. (c.requires.0.0, (c.block_of-b.ensures, ap found_in (c.requires.1.1.each k h) ∙ placed _ (λ j e. index_small _ _ _ _ _ c.requires.0.0 j e)))

pub returns : goal.returns
returns c = record { each = λ k h. (c.each_place.ensures.each k h).1; kept = c.each_place.ensures.kept; sized = c.each_place.ensures.sized }
