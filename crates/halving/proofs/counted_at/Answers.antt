-- `halving::counted_at` meets its contract. Assumes nothing.
use mathlib.Core.Path.{◌≡◌, refl, ◌∙◌, ap}
use mathlib.Core.Bool.{Bool, true, false}
use Prim.Native.Nat.{ℕ}
use lib.Dec.{leb}
use Rattle.list.specs.Pick.{pick}
use Rattle.std.specs.Int.{from_bool}
use Rattle.halving.specs.Within.{count_of}
use Rattle.halving.proofs.counted_at.Goals as goal

number_of : (b : Bool) → from_bool b ≡ pick b 1 0
number_of true = refl
number_of false = refl

pub returns : goal.returns
unfolding count_of
returns c = c.from.ensures ∙ number_of (leb c.key_of.result c.args.asked) ∙ ap (λ (k : ℕ). count_of k c.args.asked) c.key_of.ensures
