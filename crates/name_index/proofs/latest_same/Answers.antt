-- `name_index::latest_same` meets its contract, by the laws of `Walk`. Assumes nothing.
use native.Mathlib.Omega.{arith}
use Rattle.name_ids.proofs.Find.{told}
use Rattle.name_ids.proofs.Grow.{kept_few}
use Rattle.name_index.proofs.Walk.{begin, inside, found, less, goes_on, ended}
use Rattle.name_index.proofs.latest_same.Goals as goal

pub loop-behind-init : goal.loop-behind-init
loop-behind-init c = begin _ _ _ _ _ c.requires.0.1.chained _ c.requires.1.0 c.requires.1.1 _ c.held-behind.ensures

pub entry_name-requires : goal.entry_name-requires
entry_name-requires c = (c.requires.0.0, inside _ _ _ _ _ c.requires.0.1.chained _ (rw c.in-Some.is at c.loop-behind.invariant))

pub returns-then-eq : goal.returns-then-eq
returns-then-eq c =
    found _ _ _ _ _ c.requires.0.1.chained _ (rw c.in-Some.is at c.loop-behind.invariant) (told _ _ _ _ _ c.eq.ensures c.entry_name.ensures c.if-eq.true)

pub bounds-work-slots : goal.bounds-work-slots
bounds-work-slots c =
    omega (arith, inside _ _ _ _ _ c.requires.0.1.chained _ (rw c.in-Some.is at c.loop-behind.invariant), kept_few _ _ _ c.requires.0.0.kept, c.requires.0.1.long)

pub loop-behind-smaller : goal.loop-behind-smaller
loop-behind-smaller c =
    rw c.in-Some.is
    (less _ _ _ _ _ c.requires.0.1.chained _ (rw c.in-Some.is at c.loop-behind.invariant) _ c.held-behind-in-Some.ensures)

pub loop-behind-preserved : goal.loop-behind-preserved
loop-behind-preserved c =
    goes_on _ _ _ _ _ c.requires.0.1.chained _ (rw c.in-Some.is at c.loop-behind.invariant) _ c.held-behind-in-Some.ensures
    (told _ _ _ _ _ c.eq.ensures c.entry_name.ensures c.if-eq.false)

pub returns : goal.returns
returns c = ended _ _ _ _ _ c.requires.0.1.chained (rw c.in_default.is at c.loop-behind.invariant)
