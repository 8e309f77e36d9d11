-- `dump::dump` meets its contract, by the laws of `Printed`. Assumes nothing.
use Rattle.std.proofs.Common.{arith}
use Rattle.dump.proofs.Printed.{within, part_is}
use Rattle.dump.proofs.dump.Goals as goal

pub slice_bounds-out-end : goal.slice_bounds-out-end
slice_bounds-out-end g c = omega (arith, within _ _ _ _ c.render-n.ensures)

pub hand_over-requires : goal.hand_over-requires
hand_over-requires g c = part_is _ _ _ _ c.render-n.ensures
