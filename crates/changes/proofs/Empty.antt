-- No difference exactly where the first six numbers of all tokens agree, of two sorted tables. Assumes nothing.
use mathlib.Core.Path.{◌≡◌, refl, sym, ◌∙◌, ap, ap₂, subst}
use mathlib.Core.Bool.{Bool, true, false}
use mathlib.Core.Logic.{◌⊎◌, inl, inr}
use mathlib.Core.List.{List, [], ◌∷◌, ◌++◌, map}
use Prim.Native.Nat.{ℕ, zero, suc, ◌+◌, ◌≤◌, ◌<◌}
use native.Mathlib.Omega.{arith}
use native.Mathlib.Nat.{eq-or-lt_of_le}
use lib.Dec.{ltb}
use lib.ListN.{length}
use borrow.Author.Tests.{ltb-true, ltb-false}
use Rattle.list.specs.Pick.{pick}
use Rattle.list.proofs.Same.{same_is, is_same}
use Rattle.token.specs.Table.{first_six, places, token_at, tokens_from, tokens_of, SameTokens}
use Rattle.token.proofs.Same.{same_places, same_at}
use Rattle.order.specs.Order.{sorted}
use Rattle.changes.specs.Changes.{position_of, Entry, only_left, only_right, different, agree, changes}
use Rattle.changes.specs.Turns.{changes_on}
use Rattle.changes.proofs.Positions.{Order, equal, before, behind, order}
use Rattle.changes.proofs.There.{position_at}
use Rattle.changes.proofs.Walk.{all_behind, left_alone, right_alone, both_here, all_done, from_start}

pub record EmptyIsSame (left right : List ℕ) : Type 0 where
  pub same : changes left right ≡ [] → SameTokens (tokens_of left) (tokens_of right)
  pub empty : SameTokens (tokens_of left) (tokens_of right) → changes left right ≡ []

not_empty : (e : Entry) (es : List Entry) → e ∷ es ≡ [] → ⊥
not_empty e es q = (let z : ◌≡◌ {A = ℕ} 0 1 = cc in omega arith)

module _ (left right : List ℕ) (sl : sorted left ≡ true) (sr : sorted right ≡ true) where
  -- from the k-th token of both on, the numbers agree
  pub record Alike (k : ℕ) : Type 0 where
    pub as_many : places (length left) ≡ places (length right)
    pub agrees : (j : ℕ) → k ≤ j → j < places (length left) → first_six (token_at left j) ≡ first_six (token_at right j)

  one_before : (k : ℕ) → first_six (token_at left k) ≡ first_six (token_at right k) → Alike (k + 1) → Alike k
  one_before k e a = record { as_many = a.as_many; agrees = λ j l h. by j h (eq-or-lt_of_le l) }
    where
      by : (j : ℕ) → j < places (length left) → (k ≡ j) ⊎ (k < j) → first_six (token_at left j) ≡ first_six (token_at right j)
      by j h (inl q) = subst (λ (m : ℕ). first_six (token_at left m) ≡ first_six (token_at right m)) q e
      by j h (inr l) = a.agrees j (omega arith) h

  -- both have a k-th token
  module _ (k : ℕ) (g : k < places (length left)) (h : k < places (length right)) (z : changes_on left right k k ≡ []) where
    alike_if : (b : Bool) → agree (token_at left k) (token_at right k) ≡ b
        → changes_on left right k k ≡ pick b [] (different k k ∷ []) ++ changes_on left right (k + 1) (k + 1)
        → (first_six (token_at left k) ≡ first_six (token_at right k)) × (changes_on left right (k + 1) (k + 1) ≡ [])
    alike_if true e q = (same_is (first_six (token_at left k)) (first_six (token_at right k)) e, sym q ∙ z)
    alike_if false e q = absurd (not_empty (different k k) (changes_on left right (k + 1) (k + 1)) (sym q ∙ z))

    both_alike : (first_six (token_at left k) ≡ first_six (token_at right k)) × (changes_on left right (k + 1) (k + 1) ≡ [])
    both_alike = by (order (position_at left k) (position_at right k))
      where
        by : Order (position_at left k) (position_at right k) → (first_six (token_at left k) ≡ first_six (token_at right k)) × (changes_on left right (k + 1) (k + 1) ≡ [])
        by (equal t e) = alike_if (agree (token_at left k) (token_at right k)) refl (both_here left right k k sr h sl g e)
        by (before t s b) =
            absurd (not_empty (only_left k) (changes_on left right (k + 1) k)
            (sym (left_alone left right k k sl g (all_behind right sr k h (position_at left k) b)) ∙ z))
        by (behind t s b) =
            absurd (not_empty (only_right k) (changes_on left right k (k + 1))
            (sym (right_alone left right k k sr h (all_behind left sl k g (position_at right k) b)) ∙ z))

  step : (k : ℕ) → k ≤ places (length left) → k ≤ places (length right) → changes_on left right k k ≡ []
      → (k < places (length left) → k < places (length right) → changes_on left right (k + 1) (k + 1) ≡ [] → Alike (k + 1)) → Alike k
  step k l r z f = by (ltb k (places (length left))) refl (ltb k (places (length right))) refl
    where
      by : (a : Bool) → ltb k (places (length left)) ≡ a → (b : Bool) → ltb k (places (length right)) ≡ b → Alike k
      by false ea false eb =
          let x = ltb-false k (places (length left)) ea in
          let y = ltb-false k (places (length right)) eb in
          record { as_many = omega arith; agrees = λ j u v. absurd (omega arith) }
      by true ea false eb =
          let h = ltb-false k (places (length right)) eb in
          absurd (not_empty (only_left k) (changes_on left right (k + 1) k)
          (sym (left_alone left right k k sl (ltb-true k (places (length left)) ea) (λ m x y. absurd (omega arith))) ∙ z))
      by false ea true eb =
          let h = ltb-false k (places (length left)) ea in
          absurd (not_empty (only_right k) (changes_on left right k (k + 1))
          (sym (right_alone left right k k sr (ltb-true k (places (length right)) eb) (λ m x y. absurd (omega arith))) ∙ z))
      by true ea true eb =
          let g = ltb-true k (places (length left)) ea in
          let h = ltb-true k (places (length right)) eb in
          let b = both_alike k g h z in
          one_before k b.0 (f g h b.1)

  alike : (n k : ℕ) → places (length left) ≤ n + k → k ≤ places (length left) → k ≤ places (length right) → changes_on left right k k ≡ [] → Alike k
  alike zero k en l r z = step k l r z (λ g h y. absurd (omega arith))
  alike (suc n) k en l r z = step k l r z (λ g h y. alike n (k + 1) (omega arith) (omega arith) (omega arith) y)

  numbers_agree : (n i : ℕ) → ((j : ℕ) → i ≤ j → j < i + n → first_six (token_at left j) ≡ first_six (token_at right j))
      → map first_six (tokens_from left i n) ≡ map first_six (tokens_from right i n)
  unfolding tokens_from
  numbers_agree zero i h = refl
  numbers_agree (suc n) i h =
      ap₂ (λ (x : List ℕ) (l : List (List ℕ)). x ∷ l) (h i (omega arith) (omega arith)) (numbers_agree n (i + 1) (λ j l g. h j (omega arith) (omega arith)))

  same_if : changes left right ≡ [] → SameTokens (tokens_of left) (tokens_of right)
  same_if z =
      let a = alike (places (length left)) 0 (omega arith) (omega arith) (omega arith) (from_start left right ∙ z) in
      numbers_agree (places (length left)) 0 (λ j l g. a.agrees j l (omega arith))
      ∙ ap (λ (n : ℕ). map first_six (tokens_from right 0 n)) a.as_many

  module _ (e : SameTokens (tokens_of left) (tokens_of right)) where
    as_many : places (length left) ≡ places (length right)
    as_many = same_places left right e

    one_turn : (k : ℕ) → k < places (length left) → changes_on left right k k ≡ changes_on left right (k + 1) (k + 1)
    one_turn k h =
        let q = same_at left right e k h in
        both_here left right k k sr (omega (arith, as_many)) sl h (ap position_of q)
        ∙ ap (λ (b : Bool). pick b [] (different k k ∷ []) ++ changes_on left right (k + 1) (k + 1)) (is_same (first_six (token_at left k)) (first_six (token_at right k)) (ap first_six q))

    none_from : (n k : ℕ) → places (length left) ≡ n + k → changes_on left right k k ≡ []
    none_from zero k en = all_done left right k k (omega (arith, en)) (omega (arith, en, as_many)) (omega (arith, en, as_many))
    none_from (suc n) k en = one_turn k (omega (arith, en)) ∙ none_from n (k + 1) (omega (arith, en))

    empty_if : changes left right ≡ []
    empty_if = sym (from_start left right) ∙ none_from (places (length left)) 0 (omega arith)

  pub empty_is_same : EmptyIsSame left right
  empty_is_same = record { same = same_if; empty = empty_if }
