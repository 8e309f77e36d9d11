-- `name_index::latest_same` meets its contract, by the laws of `Walk`. Assumes nothing.
use Prim.Native.Nat.{◌+◌}
use lib.ListN.{length}
use Rattle.names.specs.Names.{list_of}
use Rattle.name_index.specs.Index.{entry_name}
use Rattle.name_index.proofs.Walk.{Walking, one_more}
use Rattle.name_index.proofs.latest_same.Given as goal

abbrev pub invariant-loop-behind : goal.invariant-loop-behind
invariant-loop-behind l =
    Walking (length l.names.inner.ends.now + length l.names.outer.ends.now) (entry_name (list_of l.names.inner) (list_of l.names.outer) l.names.added.now) l.name
    (length l.names.inner.ends.now + length l.names.added.now) (one_more l.behind)

abbrev pub decreases-loop-behind : goal.decreases-loop-behind
decreases-loop-behind l = one_more l.behind
