-- `compose::write_tokens` meets its contract, by the laws of `Turn`. Assumes nothing.
use native.Mathlib.Omega.{arith}
use Rattle.compose.proofs.Turn.{begin, askable, listed_are, turn, ended}
use Rattle.compose.proofs.write_tokens.Goals as goal

pub loop-i-init : goal.loop-i-init
loop-i-init g c = record { sofar = begin _ _ _ _ _ _ c.requires.ready _ c.first_place-place.ensures; holds = c.requires.holds }

pub made_token-made-requires-clause-askable : goal.made_token-made-requires-clause-askable
made_token-made-requires-clause-askable g c = askable _ _ _ _ _ _ c.requires.ready _ _ _ _ _ c.loop-i.invariant.sofar

pub loop-i-preserved : goal.loop-i-preserved
loop-i-preserved g c =
    record {
      sofar =
          turn _ _ _ _ _ _ c.requires.ready _ _ _ _ _ c.loop-i.invariant.sofar _ _ _ c.origin-found.ensures _ _ c.made_token-made.ensures.lists c.token_at-t.ensures
          (omega (arith, c.places_in-i-end.ensures)) _ _ c.made_token-made.ensures.makes c.put_token.ensures;
      holds = rw (listed_are _ _ _ _ _ _ c.made_token-made.ensures.lists) c.made_token-made.ensures.holds;
    }

pub returns : goal.returns
returns g c = ended _ _ _ _ _ _ c.requires.ready _ _ _ _ _ c.loop-i.invariant.sofar (omega (arith, c.places_in-i-end.ensures))
