-- `compose::compose_with` meets its contract, by the laws of `Whole`. Assumes nothing.
use Rattle.std.proofs.lemmas.Result.{err_from_is_err_and}
use Rattle.compose.proofs.Tests.{opens}
use Rattle.compose.proofs.Whole.{few_inner, few_outer, refusing_with, short, room, written_with}
use Rattle.compose.proofs.compose_with.Goals as goal

pub returns-in_err-tested : goal.returns-in_err-tested
returns-in_err-tested c =
    let p = err_from_is_err_and c.from_residual.result c.from_residual.ensures.1 in
    rw (p.1, p.2) (refusing_with _ _ _ _ _ c.in_err-tested.ensures)

pub places_for-needed-requires : goal.places_for-needed-requires
places_for-needed-requires c = let o = opens _ _ _ c.in_ok-tested.ensures in (few_inner _ c.args.res.now c.args.added.now o, few_outer _ c.args.res.now c.args.added.now o)

pub returns-then-work-needed : goal.returns-then-work-needed
returns-then-work-needed c = short _ _ _ _ (opens _ _ _ c.in_ok-tested.ensures) _ c.places_for-needed.ensures c.if-work-needed.true

pub index_names-requires : goal.index_names-requires
index_names-requires c =
    let o = opens _ _ _ c.in_ok-tested.ensures in
    ((o.ready.first, o.ready.second), room _ c.args.res.now c.args.added.now c.args.work.now o _ c.places_for-needed.ensures c.if-work-needed.false)

pub write_tokens-requires-clause-ready : goal.write_tokens-requires-clause-ready
write_tokens-requires-clause-ready c = (opens _ _ _ c.in_ok-tested.ensures).ready

pub returns : goal.returns
returns c =
    written_with _ _ _ _ (opens _ _ _ c.in_ok-tested.ensures) _ c.places_for-needed.ensures c.if-work-needed.false _ _ _ _ c.write_tokens.ensures
