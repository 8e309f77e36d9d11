-- `translate::none_too_big` meets its contract, by the laws of `Pass`. Assumes nothing.
use Rattle.translate.proofs.Pass.{Laid}
use Rattle.translate.proofs.none_too_big.Given as goal

abbrev pub invariant-loop-i : goal.invariant-loop-i
invariant-loop-i g l = Laid (λ k t. goal.F-post g l.at k t) l.by.line l.by.source l.by.name l.other l.c l.i
