-- `name_ids::first_name` meets its contract, by the laws of `Find`. Assumes nothing.
use mathlib.Core.Path.{◌≡◌}
use Rattle.names.specs.Names.{begin_of, list_of}
use Rattle.name_ids.proofs.Find.{Passed}
use Rattle.name_ids.proofs.first_name.Given as goal

abbrev pub invariant-loop-k : goal.invariant-loop-k
invariant-loop-k l = record { passed : Passed (list_of l.names) l.name l.k; begun : l.from ≡ begin_of l.names.ends.now l.k }
