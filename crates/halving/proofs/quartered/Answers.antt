-- `halving::quartered` meets its contract, by the laws of `Parts`. Assumes nothing.
use native.Mathlib.Omega.{arith}
use mathlib.Core.Path.{refl}
use Prim.Native.Nat.{◌*◌, ◌/◌}
use Rattle.halving.proofs.Parts.{at_most, counts_behind, quarter}
use Rattle.halving.proofs.quartered.Goals as goal

pub overflow_add-result : goal.overflow_add-result
overflow_add-result c = omega (arith, at_most _ _ _ c.counted_at-first.ensures, at_most _ _ _ c.counted_at-second.ensures, at_most _ _ _ c.counted_at-third.ensures)

pub overflow_add-result-2 : goal.overflow_add-result-2
overflow_add-result-2 c = omega (arith, at_most _ _ _ c.counted_at-first.ensures, at_most _ _ _ c.counted_at-second.ensures, at_most _ _ _ c.counted_at-third.ensures)

pub overflow_mul-result : goal.overflow_mul-result
overflow_mul-result c = omega (arith, (quarter _ c.requires.0.0 _ _ _ c.requires.1 c.requires.0.1 _ _ _ (counts_behind _ _ (c.args.size / 4) _ _ (omega arith) (omega (arith, c.requires.1.ends, c.requires.0.1)) refl _ _ c.counted_at-first.ensures) (counts_behind _ _ (2 * (c.args.size / 4)) _ _ (omega arith) (omega (arith, c.requires.1.ends, c.requires.0.1)) refl _ _ c.counted_at-second.ensures) (counts_behind _ _ (3 * (c.args.size / 4)) _ _ (omega arith) (omega (arith, c.requires.1.ends, c.requires.0.1)) refl _ _ c.counted_at-third.ensures)).ends, c.well_formed)

pub overflow_add-result-3 : goal.overflow_add-result-3
overflow_add-result-3 c = omega (arith, (quarter _ c.requires.0.0 _ _ _ c.requires.1 c.requires.0.1 _ _ _ (counts_behind _ _ (c.args.size / 4) _ _ (omega arith) (omega (arith, c.requires.1.ends, c.requires.0.1)) refl _ _ c.counted_at-first.ensures) (counts_behind _ _ (2 * (c.args.size / 4)) _ _ (omega arith) (omega (arith, c.requires.1.ends, c.requires.0.1)) refl _ _ c.counted_at-second.ensures) (counts_behind _ _ (3 * (c.args.size / 4)) _ _ (omega arith) (omega (arith, c.requires.1.ends, c.requires.0.1)) refl _ _ c.counted_at-third.ensures)).ends, c.well_formed)

pub returns : goal.returns
returns c = quarter _ c.requires.0.0 _ _ _ c.requires.1 c.requires.0.1 _ _ _ (counts_behind _ _ (c.args.size / 4) _ _ (omega arith) (omega (arith, c.requires.1.ends, c.requires.0.1)) refl _ _ c.counted_at-first.ensures) (counts_behind _ _ (2 * (c.args.size / 4)) _ _ (omega arith) (omega (arith, c.requires.1.ends, c.requires.0.1)) refl _ _ c.counted_at-second.ensures) (counts_behind _ _ (3 * (c.args.size / 4)) _ _ (omega arith) (omega (arith, c.requires.1.ends, c.requires.0.1)) refl _ _ c.counted_at-third.ensures)
