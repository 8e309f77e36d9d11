use mathlib.Core.Path.{sym}
use lib.Seq.{length-take-le}
use Rattle.encode.proofs.Within.{within}
use Rattle.write_run.proofs.run.Goals as goal

pub slice_bounds-write_all-end : goal.slice_bounds-write_all-end
slice_bounds-write_all-end g c = within _ _ _ _ _ c.in-Ok.ensures

pub slice_bounds-write_all-end-in-Ok : goal.slice_bounds-write_all-end-in-Ok
slice_bounds-write_all-end-in-Ok g c = sym (length-take-le _ _ (within _ _ _ _ _ c.in-Ok.ensures))
