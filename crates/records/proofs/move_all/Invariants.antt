-- `records::move_all` meets its contract, by the laws of `Laws`: at each turn the slice holds the list whose first records are moved.
use mathlib.Core.Path.{◌≡◌}
use Rattle.translate.specs.Translate.{moved}
use Rattle.records.proofs.Laws.{mapped_to}
use Rattle.records.proofs.move_all.Given as goal

abbrev pub invariant-loop-t : goal.invariant-loop-t
invariant-loop-t l = l.t-items ≡ mapped_to (moved l.by.line l.by.source l.by.name) l.fn.ts l.t-index
