-- Positions in the order of line, then column, and as numbers. Assumes nothing.
use mathlib.Core.Path.{◌≡◌, refl, sym, ◌∙◌}
use mathlib.Core.Bool.{Bool, true, false}
use mathlib.Core.Logic.{◌⊎◌, inl, inr}
use Prim.Native.Nat.{ℕ, ◌<◌, ◌≤◌}
use native.Mathlib.Omega.{arith}
use native.Mathlib.Nat.{eq-or-lt_of_le}
use lib.Dec.{eqb, ltb}
use borrow.Author.Tests.{eq-eqb, ne_eqb, eqb-true, eqb-false, le-ltb, ltb-true, ltb-false}
use Rattle.list.specs.Pick.{pick}
use Rattle.order.specs.Order.{stands_before}
use Rattle.order.specs.Keys.{key_of}

pub impossible : {A : Type 0} → true ≡ false → A
impossible e = let z : ◌≡◌ {A = ℕ} 0 1 = cc in absurd (omega arith)

-- at or before, as a fact: the line is less, or the same and the column is no more
abbrev pub UpTo : ℕ → ℕ → ℕ → ℕ → Type 0
UpTo line col line' col' = (line < line') ⊎ ((line ≡ line') × (col ≤ col'))

module _ (line col line' col' : ℕ) where
  if_line : (b : Bool) → eqb line line' ≡ b → pick b (ltb col col') (ltb line line') ≡ false → UpTo line' col' line col
  if_line true e h = inr (sym (eqb-true line line' e), ltb-false col col' h)
  if_line false e h = inl (let z = ltb-false line line' h in let ne = eqb-false line line' e in less z ne)
    where
      less : line' ≤ line → (line ≡ line' → ⊥) → line' < line
      less z ne = go (eq-or-lt_of_le z)
        where
          go : (line' ≡ line) ⊎ (line' < line) → line' < line
          go (inl q) = absurd (ne (sym q))
          go (inr l) = l

  -- what does not stand before is at or past
  pub up_to : stands_before line col line' col' ≡ false → UpTo line' col' line col
  up_to h = if_line (eqb line line') refl h

  pub not_before : UpTo line' col' line col → stands_before line col line' col' ≡ false
  not_before (inl l) = simp (ne_eqb line line' (λ q. (let z : line ≡ line' = q in omega arith)), le-ltb line line' (let z : line' ≤ line = omega arith in z))
  not_before (inr e) = simp (eq-eqb line line' (sym e.0), le-ltb col col' e.1)

-- one after another
pub up_to_up : (a b c d e f : ℕ) → UpTo a b c d → UpTo c d e f → UpTo a b e f
up_to_up a b c d e f (inl x) (inl y) = inl (omega arith)
up_to_up a b c d e f (inl x) (inr y) = inl (omega (arith, y.0))
up_to_up a b c d e f (inr x) (inl y) = inl (omega (arith, x.0))
up_to_up a b c d e f (inr x) (inr y) = inr (x.0 ∙ y.0, omega (arith, x.1, y.1))

-- as numbers, where columns have 32 bits
module _ (line col line' col' : ℕ) (narrow : col < 4294967296) where
  pub key_up : UpTo line col line' col' → key_of line col ≤ key_of line' col'
  key_up (inl l) = omega arith
  key_up (inr e) = omega (arith, e.0, e.1)

  pub up_key : col' < 4294967296 → key_of line col ≤ key_of line' col' → UpTo line col line' col'
  up_key narrow' h = go (ltb line line') refl
    where
      go : (b : Bool) → ltb line line' ≡ b → UpTo line col line' col'
      go true e = inl (ltb-true line line' e)
      go false e =
          let l = ltb-false line line' e in
          let q : line ≡ line' = omega arith in
          inr (q, omega arith)

-- less as a number: before
pub before_key : (line col line' col' : ℕ) → col' < 4294967296 → key_of line col < key_of line' col' → stands_before line col line' col' ≡ true
before_key line col line' col' narrow h = by (stands_before line col line' col') refl
  where
    by : (b : Bool) → stands_before line col line' col' ≡ b → b ≡ true
    by true e = refl
    by false e = let z = key_up line' col' line col narrow (up_to line col line' col' e) in absurd (omega arith)
