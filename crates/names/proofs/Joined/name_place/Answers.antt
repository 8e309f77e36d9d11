use mathlib.Core.Path.{sym, ap, ◌∙◌}
use Rattle.std.specs.Prelude.{Some}
use Rattle.names.proofs.Ids.{added_place, added_name, inner_place, outer_place, no_place}
use Rattle.names.proofs.Joined.name_place.Goals as goal

pub returns-then-not-name_exists : goal.returns-then-not-name_exists
returns-then-not-name_exists c = no_place _ _ _ _ (sym c.name_exists.ensures ∙ c.if-not-name_exists.true)

pub returns-then-at-count : goal.returns-then-at-count
returns-then-at-count c = ap Some c.place_at.ensures ∙ inner_place _ _ _ _ (sym c.name_exists.ensures ∙ c.if-not-name_exists.false) c.if-at-count.true

pub bounds-self-at : goal.bounds-self-at
bounds-self-at c = added_place _ _ _ _ (sym c.name_exists.ensures ∙ c.if-not-name_exists.false) c.if-at-count.false

pub place_at-requires-2 : goal.place_at-requires-2
place_at-requires-2 c = added_name _ _ _ _ (sym c.name_exists.ensures ∙ c.if-not-name_exists.false) c.if-at-count.false

pub returns : goal.returns
returns c = ap Some c.place_at-2.ensures ∙ outer_place _ _ _ _ (sym c.name_exists.ensures ∙ c.if-not-name_exists.false) c.if-at-count.false
