-- `lookup_many::past_block` meets its contract, by the laws of `Blocks`. Assumes nothing.
use native.Mathlib.Omega.{arith}
use mathlib.Core.Path.{◌∙◌, ap}
use Rattle.lookup_many.specs.Places.{place_of}
use Rattle.lookup_many.proofs.Blocks.{all_after, all_before}
use Rattle.lookup_many.proofs.Pairs.{held_back}
use Rattle.lookup_many.proofs.past_block.Goals as goal

pub returns-then-key_of-b : goal.returns-then-key_of-b
returns-then-key_of-b c = held_back _ ∙ ap place_of (all_after _ _ _ _ _ _ c.requires.0 c.requires.1.0 _ c.requires.1.1 (omega (arith, c.key_of.ensures, c.if-key_of-b.true)))

pub returns-then-b-key_of : goal.returns-then-b-key_of
returns-then-b-key_of c = held_back _ ∙ ap place_of (all_before _ _ _ _ _ _ c.requires.0 c.requires.1.0 _ c.requires.1.1 (omega (arith, c.key_of-2.ensures, c.if-b-key_of.true)))
