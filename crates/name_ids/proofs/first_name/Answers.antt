-- `name_ids::first_name` meets its contract, by the laws of `Find`. Assumes nothing.
use native.Mathlib.Numerals.{add-one}
use mathlib.Core.Path.{refl}
use Rattle.names.proofs.Ends.{name_within, part_low, part_is}
use Rattle.name_ids.proofs.Find.{told_same, start, found, goes_on, ended}
use Rattle.name_ids.proofs.first_name.Goals as goal

pub loop-k-init : goal.loop-k-init
loop-k-init c = record { passed = start _ _; begun = refl }

pub slice_bounds-same_bytes-count : goal.slice_bounds-same_bytes-count
slice_bounds-same_bytes-count c = part_low _ _ _ c.loop-k.invariant.begun c.requires c.loop-k-test.true

pub slice_bounds-same_bytes-start : goal.slice_bounds-same_bytes-start
slice_bounds-same_bytes-start c = part_low _ _ _ c.loop-k.invariant.begun c.requires c.loop-k-test.true

pub slice_bounds-same_bytes-end : goal.slice_bounds-same_bytes-end
slice_bounds-same_bytes-end c = (name_within _ _ c.requires c.loop-k-test.true).high

pub returns-then-same_bytes : goal.returns-then-same_bytes
returns-then-same_bytes c =
    found _ _ _ c.loop-k.invariant.passed c.loop-k-test.true
    (told_same _ _ _ _ _ c.same_bytes.ensures (part_is _ _ _ c.loop-k.invariant.begun) c.if-same_bytes.true)

pub loop-k-preserved : goal.loop-k-preserved
loop-k-preserved c =
    record {
      passed = goes_on _ _ _ c.loop-k.invariant.passed c.loop-k-test.true (told_same _ _ _ _ _ c.same_bytes.ensures (part_is _ _ _ c.loop-k.invariant.begun) c.if-same_bytes.false);
      begun = rw (add-one c.loop-k.k);
    }

pub returns : goal.returns
returns c = ended _ _ _ c.loop-k.invariant.passed c.loop-k-test.false
