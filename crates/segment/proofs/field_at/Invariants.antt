-- `segment::field_at` meets its contract. Assumes nothing.
use Rattle.std.proofs.Common.{◌≡◌, ◌≤◌, max, length, drop}
use Rattle.segment.specs.Fields.{place_from}
use Rattle.segment.proofs.field_at.Given as goal

abbrev pub invariant-loop-i : goal.invariant-loop-i
invariant-loop-i l =
    record {
      same : place_from l.k l.i (drop l.i l.s) ≡ place_from l.field l.at (drop l.at l.s);
      within : l.i ≤ max l.at (length l.s);
    }
