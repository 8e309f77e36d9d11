-- `lines::put_tokens` meets its contract, by the laws of `Tokens`. Assumes nothing.
use Rattle.lines.proofs.Tokens.{listing, listing_same, listed, token_inside, token_room, lists}
use Rattle.lines.proofs.put_tokens.Goals as goal

pub loop-i-init : goal.loop-i-init
loop-i-init c = listing _ _ _ _ c.requires.n_bound c.requires.n_in_bounds

pub token_at-requires : goal.token_at-requires
token_at-requires c = token_inside _ _ _ _ _ _ _ c.loop-i.invariant c.loop-i-test.true

pub put_token-next-requires : goal.put_token-next-requires
put_token-next-requires c = token_room _ _ _ _ _ _ _ c.loop-i.invariant c.loop-i-test.true

pub loop-i-preserved : goal.loop-i-preserved
loop-i-preserved c = lists _ _ _ _ _ _ _ c.loop-i.invariant c.loop-i-test.true _ c.token_at.ensures _ _ c.put_token-next.ensures

pub shape_of-out : goal.shape_of-out
shape_of-out c = listing_same _ _ _ _ _ _ _ c.loop-i.invariant

pub returns : goal.returns
returns c = listed _ _ _ _ _ _ _ c.loop-i.invariant c.loop-i-test.false
