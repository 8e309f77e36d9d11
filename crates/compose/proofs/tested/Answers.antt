-- `compose::tested` meets its contract, by the laws of `Tests`. Assumes nothing.
use mathlib.Core.Path.{sym, ◌∙◌}
use native.Mathlib.Omega.{arith}
use Rattle.compose.proofs.Tests.{many, bad_outer, bad_inner, bad_outer_names, bad_inner_names, full, short, done}
use Rattle.compose.proofs.tested.Goals.{then-bad_table-via-then-bad_table, then-bad_table-via-else-bad_table+then-bad_table-2, then-not-is_sound-via-then-not-is_sound, then-not-is_sound-via-else-not-is_sound+then-not-is_sound-2}
use Rattle.compose.proofs.tested.Goals as goal

pub returns-then-outer_sources-gt1 : goal.returns-then-outer_sources-gt1
returns-then-outer_sources-gt1 c = many _ _ _ (omega (arith, c.if-outer_sources-gt1.true))

pub returns-then-bad_table : goal.returns-then-bad_table
returns-then-bad_table c =
    elim c.then-bad_table.branch [
      | then-bad_table-via-then-bad_table w ↦ bad_outer _ _ _ c.if-outer_sources-gt1.false (sym c.bad_table.ensures ∙ w.if-bad_table.true)
      | then-bad_table-via-else-bad_table+then-bad_table-2 w ↦
          bad_inner _ _ _ c.if-outer_sources-gt1.false (sym c.bad_table.ensures ∙ w.if-bad_table.false) (sym w.bad_table-else-bad_table.ensures ∙ w.if-bad_table-2.true)
    ]

pub returns-then-not-is_sound : goal.returns-then-not-is_sound
returns-then-not-is_sound c =
    let outer = sym c.bad_table.ensures ∙ c.if-bad_table.false in
    let inner = sym c.bad_table-else-bad_table.ensures ∙ c.if-bad_table-2.false in
    elim c.then-not-is_sound.branch [
      | then-not-is_sound-via-then-not-is_sound w ↦ bad_outer_names _ _ _ c.if-outer_sources-gt1.false outer inner (sym c.is_sound.ensures ∙ w.if-not-is_sound.true)
      | then-not-is_sound-via-else-not-is_sound+then-not-is_sound-2 w ↦
          bad_inner_names _ _ _ c.if-outer_sources-gt1.false outer inner (sym c.is_sound.ensures ∙ w.if-not-is_sound.false)
          (sym w.is_sound-else-not-is_sound.ensures ∙ w.if-not-is_sound-2.true)
    ]

pub returns-then-places_in : goal.returns-then-places_in
returns-then-places_in c =
    full _ _ _ c.if-outer_sources-gt1.false (sym c.bad_table.ensures ∙ c.if-bad_table.false) (sym c.bad_table-else-bad_table.ensures ∙ c.if-bad_table-2.false)
    (sym c.is_sound.ensures ∙ c.if-not-is_sound.false) (sym c.is_sound-else-not-is_sound.ensures ∙ c.if-not-is_sound-2.false)
    (omega (arith, c.places_in.ensures, c.places_in-2.ensures))

pub returns-then-room-outer : goal.returns-then-room-outer
returns-then-room-outer c =
    short _ _ _ c.if-outer_sources-gt1.false (sym c.bad_table.ensures ∙ c.if-bad_table.false) (sym c.bad_table-else-bad_table.ensures ∙ c.if-bad_table-2.false)
    (sym c.is_sound.ensures ∙ c.if-not-is_sound.false) (sym c.is_sound-else-not-is_sound.ensures ∙ c.if-not-is_sound-2.false)
    (omega (arith, c.places_in.ensures, c.places_in-2.ensures)) c.if-room-outer.true

pub returns : goal.returns
returns c =
    done _ _ _ c.if-outer_sources-gt1.false (sym c.bad_table.ensures ∙ c.if-bad_table.false) (sym c.bad_table-else-bad_table.ensures ∙ c.if-bad_table-2.false)
    (sym c.is_sound.ensures ∙ c.if-not-is_sound.false) (sym c.is_sound-else-not-is_sound.ensures ∙ c.if-not-is_sound-2.false)
    (omega (arith, c.places_in.ensures, c.places_in-2.ensures)) c.if-room-outer.false
