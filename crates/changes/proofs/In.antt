-- What is in two lists, one behind the other. Assumes nothing.
use mathlib.Core.Logic.{◌⊎◌, inl, inr}
use mathlib.Core.List.{List, [], ◌∷◌, ◌++◌}
use Rattle.changes.specs.Once.{In}

module _ {A : Type 0} (a : A) where
  pub in_first : (xs ys : List A) → In a xs → In a (xs ++ ys)
  in_first [] ys h = absurd h
  in_first (x ∷ xs) ys (inl e) = inl e
  in_first (x ∷ xs) ys (inr h) = inr (in_first xs ys h)

  pub in_second : (xs ys : List A) → In a ys → In a (xs ++ ys)
  in_second [] ys h = h
  in_second (x ∷ xs) ys h = inr (in_second xs ys h)

  later : (x : A) (xs ys : List A) → In a xs ⊎ In a ys → In a (x ∷ xs) ⊎ In a ys
  later x xs ys (inl k) = inl (inr k)
  later x xs ys (inr k) = inr k

  pub in_either : (xs ys : List A) → In a (xs ++ ys) → In a xs ⊎ In a ys
  in_either [] ys h = inr h
  in_either (x ∷ xs) ys (inl e) = inl (inl e)
  in_either (x ∷ xs) ys (inr h) = later x xs ys (in_either xs ys h)

  -- in any order
  pub in_swapped : (xs ys : List A) → In a (xs ++ ys) → In a (ys ++ xs)
  in_swapped xs ys h = by (in_either xs ys h)
    where
      by : In a xs ⊎ In a ys → In a (ys ++ xs)
      by (inl k) = in_second ys xs k
      by (inr k) = in_first ys xs k
