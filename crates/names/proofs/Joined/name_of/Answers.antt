use mathlib.Core.Path.{sym, ◌∙◌}
use Rattle.names.proofs.Ids.{inner_sound, outer_sound, added_place, added_name, inner_name, outer_name, no_name}
use Rattle.names.proofs.Joined.name_of.Goals as goal

pub returns-then-not-name_exists : goal.returns-then-not-name_exists
returns-then-not-name_exists c = no_name _ _ _ _ (sym c.name_exists.ensures ∙ c.if-not-name_exists.true)

pub name_at-requires : goal.name_at-requires
name_at-requires c = (inner_sound _ _ _ _ (sym c.name_exists.ensures ∙ c.if-not-name_exists.false), c.if-k-count.true)

pub returns-then-k-count : goal.returns-then-k-count
returns-then-k-count c = c.name_at.ensures ∙ inner_name _ _ _ _ (sym c.name_exists.ensures ∙ c.if-not-name_exists.false) c.if-k-count.true

pub bounds-self-k : goal.bounds-self-k
bounds-self-k c = added_place _ _ _ _ (sym c.name_exists.ensures ∙ c.if-not-name_exists.false) c.if-k-count.false

pub name_at-requires-2 : goal.name_at-requires-2
name_at-requires-2 c = (outer_sound _ _ _ _ (sym c.name_exists.ensures ∙ c.if-not-name_exists.false), added_name _ _ _ _ (sym c.name_exists.ensures ∙ c.if-not-name_exists.false) c.if-k-count.false)

pub returns : goal.returns
returns c = c.name_at-2.ensures ∙ outer_name _ _ _ _ (sym c.name_exists.ensures ∙ c.if-not-name_exists.false) c.if-k-count.false
