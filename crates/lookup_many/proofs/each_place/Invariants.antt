-- `lookup_many::each_place` meets its contract, by the laws of `Pairs`. Assumes nothing.
use mathlib.Core.Path.{◌≡◌}
use lib.ListN.{length, get_or}
use Rattle.lookup_many.specs.Many.{pairs}
use Rattle.lookup_many.specs.Places.{pair_at}
use Rattle.lookup_many.proofs.Pairs.{Partly}
use Rattle.lookup_many.proofs.each_place.Given as goal

abbrev pub invariant-loop-k : goal.invariant-loop-k
invariant-loop-k g l =
    Partly (λ j n. goal.F-post g l.f (pair_at l.positions j) (get_or l.initial.found j 0) n) (λ j n. n ≡ get_or l.initial.found j 0)
    (pairs (length l.positions)) l.k l.initial.found l.found
