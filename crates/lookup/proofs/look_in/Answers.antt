-- `lookup::look_in` meets its contract, by the laws of `Scan`. Assumes nothing.
use Rattle.lookup.proofs.Scan.{whole, from_nothing}
use Rattle.lookup.proofs.look_in.Goals as goal

pub best_in-requires : goal.best_in-requires
best_in-requires c = (whole _ _ c.requires c.places_in.ensures, from_nothing _ _ _)
