-- `name_index::index_names` meets its contract, by the laws of `Slots` and `Build`. Assumes nothing.
use Prim.Native.Nat.{◌≤◌}
use native.Mathlib.Omega.{arith}
use lib.ListN.{length}
use Rattle.names.proofs.Ends.{few}
use Rattle.name_index.proofs.Slots.{few_slots}
use Rattle.name_index.proofs.Build.{cleared, cleared_long, build_start, build_slot, build_step, built}
use Rattle.name_index.proofs.index_names.Goals as goal

pub places_for-requires : goal.places_for-requires
places_for-requires c = (omega (arith, few _ c.requires.0.0), omega (arith, few _ c.requires.0.1))

pub loop-entry-init : goal.loop-entry-init
loop-entry-init c =
    let h : c.places_for.result ≤ length c.args.work.now = omega (arith, c.requires.1, c.places_for.ensures) in
    let e = c.fill.ensures.after (λ y q. q) in
    build_start _ _ _ _ (omega (arith, c.requires.1, cleared_long _ _ _ h e)) c.places_for.ensures (cleared _ _ _ h e)

pub slot_of-requires : goal.slot_of-requires
slot_of-requires c = few_slots _ _ c.requires.0.0 c.requires.0.1

pub enter-requires : goal.enter-requires
enter-requires c = ((build_slot _ _ _ _ _ c.loop-entry.invariant c.loop-entry-test.true _ c.name_at-name.ensures _ c.slot_of.ensures, omega arith), (few_slots _ _ c.requires.0.0 c.requires.0.1, omega (arith, c.loop-entry.invariant.long)))

pub loop-entry-preserved : goal.loop-entry-preserved
loop-entry-preserved c = build_step _ _ _ _ _ c.loop-entry.invariant c.loop-entry-test.true _ c.name_at-name.ensures _ c.slot_of.ensures _ c.enter.ensures

pub returns : goal.returns
returns c = built _ _ _ _ _ c.loop-entry.invariant c.loop-entry-test.false
