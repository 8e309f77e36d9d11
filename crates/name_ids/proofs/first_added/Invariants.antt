-- `name_ids::first_added` meets its contract, by the laws of `Find`. Assumes nothing.
use Rattle.names.specs.Names.{list_of}
use Rattle.name_ids.proofs.Find.{Gone}
use Rattle.name_ids.proofs.first_added.Given as goal

abbrev pub invariant-loop-j : goal.invariant-loop-j
invariant-loop-j l = Gone (list_of l.outer) l.name l.ids l.j
