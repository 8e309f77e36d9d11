-- `compare_tables::write` meets its contract, by the laws of `Loops`. Assumes nothing.
use Prim.Native.Nat.{◌+◌, ◌-◌}
use lib.ListN.{length}
use Rattle.token.specs.Table.{places}
use Rattle.compare_tables.proofs.Loops.{Written}
use Rattle.compare_tables.proofs.write.Given as goal

abbrev pub invariant-loop-i : goal.invariant-loop-i
invariant-loop-i l = Written l.left l.right l.initial.out l.i l.j l.at l.out

abbrev pub decreases-loop-i : goal.decreases-loop-i
decreases-loop-i l = places (length l.left) + places (length l.right) - (l.i + l.j)
