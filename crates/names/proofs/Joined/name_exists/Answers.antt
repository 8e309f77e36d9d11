use mathlib.Core.Path.{sym, ◌∙◌, ap}
use lib.Dec.{ltb}
use lib.ListN.{length}
use Rattle.names.proofs.Ids.{inner_bad, outer_bad, in_inner, past_added, in_added}
use Rattle.names.proofs.Joined.name_exists.Goals.{then-not-is_sound-via-then-not-is_sound, then-not-is_sound-via-else-not-is_sound+then-not-is_sound-2}
use Rattle.names.proofs.Joined.name_exists.Goals as goal

pub returns-then-not-is_sound : goal.returns-then-not-is_sound
returns-then-not-is_sound c =
    elim c.then-not-is_sound.branch [
      | then-not-is_sound-via-then-not-is_sound w ↦ inner_bad _ _ _ _ (sym c.is_sound.ensures ∙ w.if-not-is_sound.true)
      | then-not-is_sound-via-else-not-is_sound+then-not-is_sound-2 w ↦
          outer_bad _ _ _ _ (sym c.is_sound.ensures ∙ w.if-not-is_sound.false) (sym w.is_sound-else-not-is_sound.ensures ∙ w.if-not-is_sound-2.true)
    ]

pub returns-then-at-count : goal.returns-then-at-count
returns-then-at-count c =
    in_inner _ _ _ _ (sym c.is_sound.ensures ∙ c.if-not-is_sound.false) (sym c.is_sound-else-not-is_sound.ensures ∙ c.if-not-is_sound-2.false) c.if-at-count.true

pub returns-in-Some : goal.returns-in-Some
returns-in-Some c =
    let l = c.in-Some.ensures.lookup.3 in
    let n = length c.args.self.outer.ends.now in
    ap (λ k. ltb k n) (l.1 0) ∙
    in_added _ _ _ _ (sym c.is_sound.ensures ∙ c.if-not-is_sound.false) (sym c.is_sound-else-not-is_sound.ensures ∙ c.if-not-is_sound-2.false) c.if-at-count.false l.0

pub returns-in-None : goal.returns-in-None
returns-in-None c =
    past_added _ _ _ _ (sym c.is_sound.ensures ∙ c.if-not-is_sound.false) (sym c.is_sound-else-not-is_sound.ensures ∙ c.if-not-is_sound-2.false) c.if-at-count.false c.in-None.ensures.lookup.3
