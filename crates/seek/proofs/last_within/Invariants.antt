-- `seek::last_within` meets its contract. Assumes nothing.
use Rattle.halving.specs.Within.{Within}
use Rattle.seek.proofs.last_within.Given as goal

abbrev pub invariant-loop-size : goal.invariant-loop-size
invariant-loop-size l = Within l.table l.asked l.base l.size

abbrev pub decreases-loop-size : goal.decreases-loop-size
decreases-loop-size l = l.size
