-- `worked_run::row` meets its contract, by the laws of `dump`. Assumes nothing.
use native.Mathlib.Omega.{arith}
use Rattle.dump.proofs.Room.{same_room, written_fit}
use Rattle.worked_run.proofs.row.Goals as goal

pub print_decoded-requires : goal.print_decoded-requires
print_decoded-requires g c = omega (arith, same_room _ _ _ _ _ _ _ c.decode_lenient-lenient.ensures, written_fit _ _ _ _ _ _ _ c.decode_lenient-lenient.ensures)

pub print_decoded-requires-2 : goal.print_decoded-requires-2
print_decoded-requires-2 g c = omega (arith, same_room _ _ _ _ _ _ _ c.decode_checked-checked.ensures, written_fit _ _ _ _ _ _ _ c.decode_checked-checked.ensures)
