-- `compare_tables::count` meets its contract, by the laws of `Loops`. Assumes nothing.
use native.Mathlib.Omega.{arith}
use Rattle.compare_tables.proofs.Loops.{count_end}
use Rattle.compare_tables.proofs.count.Goals as goal

pub returns : goal.returns
returns c = count_end _ _ _ _ _ _ c.loop-i.invariant (omega (arith, c.places_in.ensures, c.places_in-2.ensures)) c.loop-i-test.false
