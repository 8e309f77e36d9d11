-- `token::token_at` meets its contract. Assumes nothing.
use mathlib.Core.Path.{refl}
use Rattle.token.specs.Table.{token_at}
use Rattle.token.proofs.token_at.Goals as goal

pub returns : goal.returns
unfolding token_at
returns c = refl
