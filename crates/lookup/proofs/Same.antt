-- Looking up goes by the first six numbers of each token. Assumes nothing.
use mathlib.Core.Path.{◌≡◌, refl, ◌∙◌, ap, ap₂}
use mathlib.Core.List.{List}
use Rattle.std.specs.Prelude.{Option, Some, None}
use Prim.Native.Nat.{ℕ, zero, suc, ◌<◌}
use native.Mathlib.Omega.{arith}
use lib.Dec.{eqb, leb, ltb}
use lib.ListN.{length}
use Rattle.list.specs.Pick.{pick, both}
use Rattle.token.specs.Table.{SameTokens, places, token_at, tokens_of}
use Rattle.token.specs.declared.Token.{Token}
use Rattle.token.proofs.Same.{bare, same_at, same_places}
use Rattle.lookup.specs.Lookup.{fits, later, best_of, lookup_of}
use Rattle.lookup.proofs.Best.{among_first}

module _ (a b : List ℕ) (line col : ℕ) where
  -- the first n tokens agree
  abbrev Agree : ℕ → Type 0
  Agree n = (i : ℕ) → i < n → bare (token_at a i) ≡ bare (token_at b i)

  later_same : (n : ℕ) → Agree (suc n) → (o : Option ℕ) → ((j : ℕ) → o ≡ Some j → j < n) → later a n o ≡ later b n o
  later_same n h None w = refl
  later_same n h (Some j) w =
      ap₂ (λ (t u : Token). pick (ltb t.dst_col u.dst_col) (Some j) (Some n)) (h n (omega arith)) (h j (omega (arith, w j refl)))

  best_same : (n : ℕ) → Agree n → best_of a line col n ≡ best_of b line col n
  unfolding best_of
  best_same zero h = refl
  best_same (suc n) h =
      ap₂ (λ (t : Token) (o : Option ℕ). pick (both (eqb t.dst_line line) (leb t.dst_col col)) o (best_of a line col n)) (h n (omega arith))
      (later_same n h (best_of a line col n) (among_first a line col n))
      ∙ ap (λ (o : Option ℕ). pick (fits b line col n) (later b n o) o) (best_same n (λ i l. h i (omega arith)))

  -- tables whose tokens agree in the first six: the same token is found
  pub lookup_same : SameTokens (tokens_of a) (tokens_of b) → lookup_of a line col ≡ lookup_of b line col
  lookup_same e = best_same (places (length a)) (same_at a b e) ∙ ap (best_of b line col) (same_places a b e)
