-- The test of two lists: it is `==` of two slices, and holds exactly of equal lists. Assumes nothing.
use mathlib.Core.Path.{◌≡◌, refl, sym, ◌∙◌}
use mathlib.Core.Bool.{Bool, true, false, ◌&&◌}
use mathlib.Core.List.{List, [], ◌∷◌}
use Prim.Native.Nat.{ℕ}
use lib.Dec.{eqb}
use Rattle.std.specs.Cmp.Lexicographic.{pointwise}
use Rattle.std.proofs.lemmas.Slice.Eq.{bytes_eq-Decides}
use Rattle.list.specs.Pick.{both}
use Rattle.list.specs.Same.{same}

-- what `==` says of two slices of numbers
pub equal_same : (a b : List ℕ) → pointwise eqb a b ≡ same a b
unfolding same
equal_same [] [] = refl
equal_same [] (y ∷ ys) = refl
equal_same (x ∷ xs) [] = refl
equal_same (x ∷ xs) (y ∷ ys) = go (eqb x y) (equal_same xs ys)
  where
    go : (t : Bool) → pointwise eqb xs ys ≡ same xs ys → (t && pointwise eqb xs ys) ≡ both t (same xs ys)
    go true e = e
    go false e = refl

pub same_is : (a b : List ℕ) → same a b ≡ true → a ≡ b
same_is a b e = (bytes_eq-Decides a b).0 (equal_same a b ∙ e)

pub is_same : (a b : List ℕ) → a ≡ b → same a b ≡ true
is_same a b e = sym (equal_same a b) ∙ (bytes_eq-Decides a b).1 e

pub same_self : (a : List ℕ) → same a a ≡ true
same_self a = is_same a a refl
