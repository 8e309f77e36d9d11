-- `vlq::put_digit` meets its contract. Assumes nothing.
use Prim.Native.Nat.{◌%◌}
use native.Mathlib.Omega.{arith}
use Rattle.vlq.proofs.Places.{put_is, put_fits, lost_least}
use Rattle.vlq.proofs.put_digit.Goals as goal

pub overflow_mul-result : goal.overflow_mul-result
overflow_mul-result c = omega (arith, lost_least _ _ (c.args.d % 32) _ c.requires.0 c.requires.1 (omega arith) c.lost_of-lost.ensures)

pub overflow_sub-result : goal.overflow_sub-result
overflow_sub-result c = lost_least _ _ (c.args.d % 32) _ c.requires.0 c.requires.1 (omega arith) c.lost_of-lost.ensures

pub overflow_add-result : goal.overflow_add-result
overflow_add-result c = record { fits = put_fits _ _ (c.args.d % 32) _ c.requires.0 c.requires.1 (omega arith) c.lost_of-lost.ensures }

pub returns : goal.returns
returns c = put_is _ _ (c.args.d % 32) _ c.requires.0 c.requires.1 (omega arith) c.lost_of-lost.ensures
