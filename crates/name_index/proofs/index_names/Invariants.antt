-- `name_index::index_names` meets its contract, by the laws of `Slots` and `Build`. Assumes nothing.
use Rattle.names.specs.Names.{list_of}
use Rattle.name_index.proofs.Build.{Building}
use Rattle.name_index.proofs.index_names.Given as goal

abbrev pub invariant-loop-entry : goal.invariant-loop-entry
invariant-loop-entry l = Building (list_of l.inner) (list_of l.outer) l.initial.work l.work l.entry
