-- `vlq::few_of` meets its contract. Assumes nothing.
use mathlib.Core.Path.{refl}
use Prim.Native.Nat.{◌-◌}
use lib.Bits.{bit_xor}
use native.Mathlib.Omega.{arith}
use Rattle.vlq.proofs.Lanes.{lanes}
use Rattle.vlq.proofs.Several.{few}
use Rattle.vlq.proofs.few_of.Goals as goal

pub returns : goal.returns
returns c =
    few c.args.w (lanes c.args.w (omega (arith, c.ranges.w)) c.if-w-ne0.false)
    c.ends_of-f.result (bit_xor c.ends_of-f.result (c.ends_of-f.result - 1)) c.bad_of-bad.result c.fives_of.result c.bits_of.result c.count_of.result
    c.ends_of-f.ensures c.if-f-eq0.false refl c.bad_of-bad.ensures c.if-bad-m-ne0.false c.fives_of.ensures c.bits_of.ensures c.count_of.ensures
