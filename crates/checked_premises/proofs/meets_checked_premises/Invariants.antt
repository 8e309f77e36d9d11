-- `checked_premises::meets_checked_premises` meets its contract. The invariant: what is left of the table decides the whole. Assumes nothing.
use Rattle.checked_premises.proofs.Laws.{Passing}
use Rattle.checked_premises.proofs.meets_checked_premises.Given as goal

abbrev pub invariant-loop-i : goal.invariant-loop-i
invariant-loop-i l = Passing l.table l.sources l.names l.i l.p
