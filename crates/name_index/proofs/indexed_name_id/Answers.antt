-- `name_index::indexed_name_id` meets its contract, by the laws of `Slots` and `Given`. Assumes nothing.
use mathlib.Core.Logic.{inl, inr, ◌⊎◌}
use mathlib.Core.Path.{◌≡◌}
use Prim.Native.Nat.{◌<◌, ◌≤◌, ◌-◌}
use lib.ListN.{length}
use native.Mathlib.Omega.{arith}
use Rattle.name_index.proofs.Slots.{few_slots}
use Rattle.name_index.proofs.Given.{none, known, slot_is, within, room, fresh_is, fresh, old}
use Rattle.name_index.proofs.indexed_name_id.Goals as goal
use Rattle.name_index.proofs.indexed_name_id.Goals.{then-entry-count, else-entry-count}

came : (c : goal.After-row_known-1) →
    ((c.in-Some-latest_same.entry < length c.args.names.inner.ends.now) × (c.if-entry-count.found ≡ length c.args.names.inner.ends.now - 1 - c.in-Some-latest_same.entry))
    ⊎ ((length c.args.names.inner.ends.now ≤ c.in-Some-latest_same.entry) × (c.if-entry-count.found ≡ c.in-Some-latest_same.entry))
came c = elim c.if-entry-count.branch [ then-entry-count w ↦ inl (w.if-entry-count.true, w.found-is) | else-entry-count w ↦ inr (w.if-entry-count.false, w.found-is) ]

small : (c : goal.After-row_known-1) → c.if-entry-count.found < 4294967294
small c =
    let n = within _ _ _ _ c.requires.0 c.requires.1 _ c.if-outer-k.false _ c.name_at-name.ensures _ c.latest_same.ensures _ c.in-Some-latest_same.is in
    omega (arith, few_slots _ _ c.requires.0.first c.requires.0.second, n, came c)

pub returns-then-outer-k-clause-is : goal.returns-then-outer-k-clause-is
returns-then-outer-k-clause-is c = (none _ _ _ _ c.requires.0 c.requires.1 _ c.if-outer-k.true).is

pub returns-then-outer-k-clause-index : goal.returns-then-outer-k-clause-index
returns-then-outer-k-clause-index c = (none _ _ _ _ c.requires.0 c.requires.1 _ c.if-outer-k.true).index

pub returns-in-Some-clause-is : goal.returns-in-Some-clause-is
returns-in-Some-clause-is c = (known _ _ _ _ c.requires.0 c.requires.1 _ c.if-outer-k.false _ c.in-Some.ensures).is

pub returns-in-Some-clause-index : goal.returns-in-Some-clause-index
returns-in-Some-clause-index c = (known _ _ _ _ c.requires.0 c.requires.1 _ c.if-outer-k.false _ c.in-Some.ensures).index

pub slot_of-slot-requires : goal.slot_of-slot-requires
slot_of-slot-requires c = few_slots _ _ c.requires.0.first c.requires.0.second

pub latest_same-requires : goal.latest_same-requires
latest_same-requires c =
    (c.requires, (slot_is _ _ _ _ c.requires.0 c.requires.1 _ c.if-outer-k.false _ c.name_at-name.ensures _ c.slot_of-slot.ensures, c.slot_of-slot.ensures))

pub enter-requires : goal.enter-requires
enter-requires c =
    let n = room _ _ _ _ c.requires.0 c.requires.1 _ c.if-outer-k.false _ c.name_at-name.ensures _ c.latest_same.ensures c.in_default-latest_same.is in (
      (omega (arith, slot_is _ _ _ _ c.requires.0 c.requires.1 _ c.if-outer-k.false _ c.name_at-name.ensures _ c.slot_of-slot.ensures), omega (arith, n)),
      (few_slots _ _ c.requires.0.first c.requires.0.second, omega (arith, c.requires.1.long)),
    )

pub overflow_cast-work : goal.overflow_cast-work
overflow_cast-work c =
    let n = room _ _ _ _ c.requires.0 c.requires.1 _ c.if-outer-k.false _ c.name_at-name.ensures _ c.latest_same.ensures c.in_default-latest_same.is in
    omega (arith, few_slots _ _ c.requires.0.first c.requires.0.second, n)

pub overflow_cast-result : goal.overflow_cast-result
overflow_cast-result c =
    let n = room _ _ _ _ c.requires.0 c.requires.1 _ c.if-outer-k.false _ c.name_at-name.ensures _ c.latest_same.ensures c.in_default-latest_same.is in
    omega (arith, few_slots _ _ c.requires.0.first c.requires.0.second, n)

pub returns-in_default-latest_same-clause-is : goal.returns-in_default-latest_same-clause-is
returns-in_default-latest_same-clause-is c =
    fresh_is _ _ _ _ c.requires.0 c.requires.1 _ c.if-outer-k.false _ c.name_at-name.ensures _ c.latest_same.ensures c.in_default-latest_same.is

pub returns-in_default-latest_same-clause-index : goal.returns-in_default-latest_same-clause-index
returns-in_default-latest_same-clause-index c =
    (fresh _ _ _ _ c.requires.0 c.requires.1 _ c.if-outer-k.false _ c.name_at-name.ensures _ c.latest_same.ensures c.in_default-latest_same.is _ c.slot_of-slot.ensures _ c.enter.ensures).index

pub overflow_add-work-2 : goal.overflow_add-work-2
overflow_add-work-2 c = omega (arith, small c)

pub overflow_cast-work-2 : goal.overflow_cast-work-2
overflow_cast-work-2 c = omega (arith, small c)

pub overflow_cast-result-2 : goal.overflow_cast-result-2
overflow_cast-result-2 c = omega (arith, small c)

pub returns-clause-is : goal.returns-clause-is
returns-clause-is c =
    (old _ _ _ _ c.requires.0 c.requires.1 _ c.if-outer-k.false _ c.name_at-name.ensures _ c.latest_same.ensures _ c.in-Some-latest_same.is _ (came c)).is

pub returns-clause-index : goal.returns-clause-index
returns-clause-index c =
    (old _ _ _ _ c.requires.0 c.requires.1 _ c.if-outer-k.false _ c.name_at-name.ensures _ c.latest_same.ensures _ c.in-Some-latest_same.is _ (came c)).index
