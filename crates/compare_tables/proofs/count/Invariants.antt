-- `compare_tables::count` meets its contract, by the laws of `Loops`. Assumes nothing.
use Prim.Native.Nat.{◌+◌, ◌-◌}
use lib.ListN.{length}
use Rattle.token.specs.Table.{places}
use Rattle.compare_tables.proofs.Loops.{Counted}
use Rattle.compare_tables.proofs.count.Given as goal

abbrev pub invariant-loop-i : goal.invariant-loop-i
invariant-loop-i l = Counted l.left l.right l.i l.j l.entries

abbrev pub decreases-loop-i : goal.decreases-loop-i
decreases-loop-i l = places (length l.left) + places (length l.right) - (l.i + l.j)
