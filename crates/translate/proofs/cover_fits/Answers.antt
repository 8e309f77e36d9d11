-- `translate::cover_fits` meets its contract. Assumes nothing.
use Rattle.std.proofs.Common.{arith}
use Rattle.std.proofs.lemmas.Grind.{common_steps}
use Rattle.translate.specs.Covers.{cover_fits}
use Rattle.translate.proofs.cover_fits.Goals as goal

pub returns-then-by-c-2 : goal.returns-then-by-c-2
unfolding cover_fits
returns-then-by-c-2 c = grind (arith, common_steps)

pub returns-else-by-c-2 : goal.returns-else-by-c-2
unfolding cover_fits
returns-else-by-c-2 c = grind (arith, common_steps)
