-- The indices of the tokens at a position. Assumes nothing.
use mathlib.Core.Path.{◌≡◌, refl, sym, ◌∙◌, ap}
use mathlib.Core.Bool.{true, false}
use mathlib.Core.Logic.{◌⊎◌, inl, inr}
use mathlib.Core.List.{List, [], ◌∷◌, ◌++◌}
use Prim.Native.Nat.{ℕ, zero, suc, ◌+◌, ◌-◌, ◌≤◌, ◌<◌}
use native.Mathlib.Omega.{arith}
use native.Mathlib.Nat.{eq-or-lt_of_le}
use lib.ListN.{length}
use Rattle.token.specs.Table.{places, token_at, tokens_from, tokens_of}
use Rattle.changes.specs.Changes.{Position, position_of, together, positions_of, there_from}
use Rattle.changes.specs.Turns.{there_on}
use Rattle.changes.specs.Once.{In}
use Rattle.changes.proofs.In.{in_first, in_second}
use Rattle.changes.proofs.Positions.{Order, equal, before, behind, order, not_one, positions_have}

module _ (p q : Position) where
  pub together_yes : p ≡ q → together p q ≡ true
  together_yes e = by (order p q)
    where
      by : Order p q → together p q ≡ true
      by (equal t z) = t
      by (before t s h) = absurd (not_one p q h e)
      by (behind t s h) = absurd (not_one q p h (sym e))

  pub together_no : (p ≡ q → ⊥) → together p q ≡ false
  together_no n = by (order p q)
    where
      by : Order p q → together p q ≡ false
      by (equal t z) = absurd (n z)
      by (before t s h) = t
      by (behind t s h) = t

module _ (table : List ℕ) where
  -- where the i-th token stands
  abbrev pub position_at : ℕ → Position
  position_at i = position_of (token_at table i)

  module _ (p : Position) where
    pub from_here : (i n : ℕ) → p ≡ position_at i → there_from table p i (suc n) ≡ i ∷ there_from table p (i + 1) n
    unfolding there_from
    from_here i n e = rw (together_yes p (position_at i) e)

    pub from_else : (i n : ℕ) → (p ≡ position_at i → ⊥) → there_from table p i (suc n) ≡ there_from table p (i + 1) n
    unfolding there_from
    from_else i n e = rw (together_no p (position_at i) e)

    pub none_from : (n i : ℕ) → ((k : ℕ) → i ≤ k → k < i + n → p ≡ position_at k → ⊥) → there_from table p i n ≡ []
    unfolding there_from
    none_from zero i h = refl
    none_from (suc n) i h = from_else i n (h i (omega arith) (omega arith)) ∙ none_from n (i + 1) (λ k l g. h k (omega arith) (omega arith))

    -- from the i-th token on
    pub none_on : (i : ℕ) → ((k : ℕ) → i ≤ k → k < places (length table) → p ≡ position_at k → ⊥) → there_on table i p ≡ []
    none_on i h = none_from (places (length table) - i) i (λ k l g. h k l (omega arith))

    module _ (i : ℕ) (h : i < places (length table)) where
      one_more : places (length table) - i ≡ suc (places (length table) - (i + 1))
      one_more = omega arith

      pub here_on : p ≡ position_at i → there_on table i p ≡ i ∷ there_on table (i + 1) p
      here_on e = ap (there_from table p i) one_more ∙ from_here i (places (length table) - (i + 1)) e

      pub else_on : (p ≡ position_at i → ⊥) → there_on table i p ≡ there_on table (i + 1) p
      else_on e = ap (there_from table p i) one_more ∙ from_else i (places (length table) - (i + 1)) e

-- every token's position is among those of both tables
in_from : (xs : List ℕ) (n i k : ℕ) → i ≤ k → k < i + n → In (token_at xs k) (tokens_from xs i n)
unfolding tokens_from
in_from xs zero i k l h = absurd (omega arith)
in_from xs (suc n) i k l h = by (eq-or-lt_of_le l) (λ g. in_from xs n (i + 1) k g (omega arith))
  where
    by : (i ≡ k) ⊎ (i < k) → (i + 1 ≤ k → In (token_at xs k) (tokens_from xs (i + 1) n)) → In (token_at xs k) (token_at xs i ∷ tokens_from xs (i + 1) n)
    by (inl e) f = inl (ap (token_at xs) (sym e))
    by (inr g) f = inr (f (omega arith))

module _ (left right : List ℕ) (k : ℕ) where
  pub left_among : k < places (length left) → In (position_at left k) (positions_of (tokens_of left ++ tokens_of right))
  left_among h =
      positions_have (token_at left k) (tokens_of left ++ tokens_of right)
      (in_first (token_at left k) (tokens_of left) (tokens_of right) (in_from left (places (length left)) 0 k (omega arith) (omega arith)))

  pub right_among : k < places (length right) → In (position_at right k) (positions_of (tokens_of left ++ tokens_of right))
  right_among h =
      positions_have (token_at right k) (tokens_of left ++ tokens_of right)
      (in_second (token_at right k) (tokens_of left) (tokens_of right) (in_from right (places (length right)) 0 k (omega arith) (omega arith)))
