-- `translate::look` meets its contract, by the laws of `Pass`. Assumes nothing.
use Rattle.translate.specs.Looks.{AllSmall}
use Rattle.translate.proofs.look.Given as goal

abbrev pub invariant-loop-i : goal.invariant-loop-i
invariant-loop-i g l = AllSmall (λ k t. goal.F-post g l.at k t) l.by.line l.by.source l.by.name l.i
