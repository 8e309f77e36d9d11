-- What holds of both answers of a choice, and what a test that joins two says. Assumes nothing.
use mathlib.Core.Path.{◌≡◌, refl, sym}
use mathlib.Core.Bool.{Bool, true, false}
use Rattle.list.specs.Pick.{pick, both}

pub pick_ind {ℓ} : {X : Type ℓ} (P : X → Type 0) (b : Bool) {x y : X} → (b ≡ true → P x) → (b ≡ false → P y) → P (pick b x y)
pick_ind P true f g = f refl
pick_ind P false f g = g refl

pub both_true : (a b : Bool) → both a b ≡ true → (a ≡ true) × (b ≡ true)
both_true true b e = (refl, e)
both_true false b e = let z : true ≡ false = sym e in (sym z, cc)
