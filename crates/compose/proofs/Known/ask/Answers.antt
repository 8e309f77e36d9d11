-- `compose::Known::ask` meets its contract, by the laws of `Ask`. Assumes nothing.
use Rattle.compose.proofs.Ask.{remembered, has_room, found, new}
use Rattle.compose.proofs.Known.ask.Goals.{in-Found, in-New}
use Rattle.compose.proofs.Known.ask.Goals as goal

pub returns-then-id-self-clause-lists : goal.returns-then-id-self-clause-lists
returns-then-id-self-clause-lists g c = remembered _ _ _ _ c.requires.askable _ c.if-id-self.true

pub bounds-added-count : goal.bounds-added-count
bounds-added-count g c = has_room _ _ _ _ c.requires.askable _ _ c.in-New.ensures.is

pub returns-clause-lists : goal.returns-clause-lists
returns-clause-lists g c =
    elim c.match-outer_name_id.branch [
      | in-Found w ↦ rw (w.self-is, w.added-is, w.given-is) (found _ _ _ _ c.requires.askable _ _ w.in-Found.ensures.is)
      | in-New w ↦ rw (w.self-is, w.added-is, w.given-is) (new _ _ _ _ c.requires.askable _ _ w.in-New.ensures.is)
    ]
