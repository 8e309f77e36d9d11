-- `premises::meets_premises` meets its contract. The invariant: what is left of the table decides the whole. Assumes nothing.
use Rattle.premises.proofs.Laws.{Passing}
use Rattle.premises.proofs.meets_premises.Given as goal

abbrev pub invariant-loop-i : goal.invariant-loop-i
invariant-loop-i l = Passing l.table l.sources l.names l.i l.before.line l.before.src_line l.before.src_col
