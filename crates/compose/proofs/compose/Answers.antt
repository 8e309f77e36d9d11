-- `compose::compose` meets its contract, by the laws of `Whole`. Assumes nothing.
use Rattle.std.proofs.lemmas.Result.{err_from_is_err_and}
use Rattle.compose.proofs.Tests.{opens}
use Rattle.compose.proofs.Whole.{refusing, written}
use Rattle.compose.proofs.compose.Goals as goal

pub returns-in_err-tested : goal.returns-in_err-tested
returns-in_err-tested c =
    let p = err_from_is_err_and c.from_residual.result c.from_residual.ensures.1 in
    rw (p.1, p.2) (refusing _ _ _ _ c.in_err-tested.ensures)

pub write_tokens-requires-clause-ready : goal.write_tokens-requires-clause-ready
write_tokens-requires-clause-ready c = (opens _ _ _ c.in_ok-tested.ensures).ready

pub returns : goal.returns
returns c = written _ _ _ (opens _ _ _ c.in_ok-tested.ensures) _ _ _ c.write_tokens.ensures
