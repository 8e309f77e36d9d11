-- `segment::parse_vlq_segment` meets its contract. Assumes nothing.
use Rattle.segment.proofs.Loop.{Parsing}
use Rattle.std.proofs.Common.{◌-◌, length}
use Rattle.segment.proofs.parse_vlq_segment.Given as goal

abbrev pub invariant-loop-value : goal.invariant-loop-value
invariant-loop-value l = Parsing l.mode l.s l.at l.nums l.wide l.count l.i

abbrev pub decreases-loop-value : goal.decreases-loop-value
decreases-loop-value l = length l.s - l.i
