-- Each contract leaves one answer. Assumes nothing.
use mathlib.Core.Path.{◌≡◌, sym, ◌∙◌}
use mathlib.Core.Bool.{Bool}
use mathlib.Core.List.{List}
use Rattle.std.specs.Prelude.{Option}
use Prim.Native.Nat.{ℕ}
use Rattle.names.specs.declared.NamePlace.{NamePlace}
use Rattle.names.specs.Names.{NameList, sound, exists, place_of, name_of}

pub one_sound : (l : NameList) (r s : Bool) → r ≡ sound l → s ≡ sound l → r ≡ s
one_sound l r s e f = e ∙ sym f

module _ (inner outer : NameList) (added : List ℕ) (id : ℕ) where
  pub one_exists : (r s : Bool) → r ≡ exists inner outer added id → s ≡ exists inner outer added id → r ≡ s
  one_exists r s e f = e ∙ sym f

  pub one_name : (r s : List ℕ) → r ≡ name_of inner outer added id → s ≡ name_of inner outer added id → r ≡ s
  one_name r s e f = e ∙ sym f

  pub one_place : (r s : Option NamePlace) → r ≡ place_of inner outer added id → s ≡ place_of inner outer added id → r ≡ s
  one_place r s e f = e ∙ sym f
