-- `lines::put_tokens` meets its contract, by the laws of `Tokens`. Assumes nothing.
use Rattle.lines.proofs.Tokens.{Listing}
use Rattle.lines.proofs.put_tokens.Given as goal

abbrev pub invariant-loop-i : goal.invariant-loop-i
invariant-loop-i l = Listing l.table l.n l.initial.out l.at l.out l.i l.next
