-- `lookup::best_in` meets its contract, by the laws of `Scan`. Assumes nothing.
use Rattle.lookup.proofs.Scan.{Scanned}
use Rattle.lookup.proofs.best_in.Given as goal

abbrev pub invariant-loop-i : goal.invariant-loop-i
invariant-loop-i l = Scanned l.table l.p.line l.p.col l.best l.least l.i
