-- Pairwise different numbers below n are n at the most. Assumes nothing.
use mathlib.Core.Path.{◌≡◌, refl, sym, ◌∙◌}
use mathlib.Core.Bool.{Bool, true, false, ◌||◌}
use mathlib.Core.List.{List, [], ◌∷◌}
use Prim.Native.Nat.{ℕ, suc, ◌≤◌, ◌<◌}
use native.Mathlib.Omega.{arith}
use lib.Dec.{eqb}
use lib.ListN.{length, get_or}
use borrow.Author.Tests.{eqb-true, ne_eqb}
use Rattle.std.specs.List.{list_any}
use Rattle.std.proofs.lemmas.Grind.{get_or_default_zero}
use Rattle.std.proofs.lemmas.Map.Keys.{IsDistinct-from_apart}
use Rattle.std.proofs.lemmas.Map.Steps.{length-le_from_distinct_below}

-- a number of the list has what each place's number has
below : (n : ℕ) (xs : List ℕ) → ((j : ℕ) → j < length xs → get_or xs j 0 < n) → (q : ℕ) → list_any (eqb q) xs ≡ true → q < n
below n [] f q e = let z : ◌≡◌ {A = ℕ} 0 1 = cc in absurd (omega arith)
below n (x ∷ xs) f q e = go (eqb q x) refl e (below n xs (λ j h. f (suc j) (omega arith)) q)
  where
    go : (t : Bool) → eqb q x ≡ t → (t || list_any (eqb q) xs) ≡ true → (list_any (eqb q) xs ≡ true → q < n) → q < n
    go true s r ih = omega (arith, eqb-true q x s, f 0 (omega arith))
    go false s r ih = ih r

pub at_most : (n : ℕ) (xs : List ℕ) → ((j : ℕ) → j < length xs → get_or xs j 0 < n)
    → ((i j : ℕ) → i < j → j < length xs → get_or xs i 0 ≡ get_or xs j 0 → ⊥) → length xs ≤ n
at_most n xs b a =
    length-le_from_distinct_below xs n
    (IsDistinct-from_apart eqb xs
    (λ i j d h k.
    ne_eqb (get_or xs i d) (get_or xs j d)
    (λ e. a i j h k (sym (get_or_default_zero xs i d (omega arith)) ∙ e ∙ get_or_default_zero xs j d k))))
    (below n xs b)
