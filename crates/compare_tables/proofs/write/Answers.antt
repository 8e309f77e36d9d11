-- `compare_tables::write` meets its contract, by the laws of `Loops`. Assumes nothing.
use native.Mathlib.Omega.{arith}
use Rattle.compare_tables.proofs.Loops.{write_start, write_room, write_turn, write_end}
use Rattle.compare_tables.proofs.write.Goals as goal

pub loop-i-init : goal.loop-i-init
loop-i-init c = write_start _ _ _ c.requires.1

pub put_entry-at-requires : goal.put_entry-at-requires
put_entry-at-requires c = write_room _ _ _ _ _ _ _ c.loop-i.invariant _ c.next_turn-t.ensures _ c.in-Some.is

pub loop-i-preserved-in-Some : goal.loop-i-preserved-in-Some
loop-i-preserved-in-Some c = write_turn _ _ _ _ _ _ _ c.loop-i.invariant _ c.next_turn-t.ensures _ c.in-Some.is _ _ c.put_entry-at.ensures

pub returns : goal.returns
returns c = write_end _ _ _ _ _ _ _ c.loop-i.invariant _ (omega (arith, c.places_in.ensures, c.places_in-2.ensures)) c.loop-i-test.false
