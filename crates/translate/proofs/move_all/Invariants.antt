-- `translate::move_all` meets its contract, by the laws of `Moving`. Assumes nothing.
use lib.ListN.{length}
use Rattle.token.specs.Table.{places}
use Rattle.translate.proofs.Moving.{Moving}
use Rattle.translate.proofs.move_all.Given as goal

abbrev pub invariant-loop-i : goal.invariant-loop-i
invariant-loop-i l = Moving l.by.line l.by.source l.by.name l.initial.table l.table (places (length l.initial.table)) l.i
