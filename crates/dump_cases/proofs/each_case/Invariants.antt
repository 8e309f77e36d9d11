-- `dump_cases::each_case` ends. Assumes nothing.
use lib.ListN.{length}
use Rattle.dump_cases.proofs.each_case.Given as goal

abbrev pub decreases-loop-size : goal.decreases-loop-size
decreases-loop-size g l = length l.rest
