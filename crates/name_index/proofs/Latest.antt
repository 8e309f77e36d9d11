-- The latest entry of a property. Assumes nothing.
use mathlib.Core.Path.{◌≡◌, refl, sym, ◌∙◌, subst}
use mathlib.Core.Bool.{Bool, true, false}
use Prim.Native.Nat.{ℕ, zero, suc, ◌≤◌, ◌<◌}
use native.Mathlib.Omega.{arith}
use native.Mathlib.Decide.{dec_lt, ℕ_discrete}
use Rattle.list.specs.Pick.{pick}
use Rattle.name_index.specs.Index.{latest}

pub differ : {A : Type 0} → false ≡ true → A
differ e = let z : ◌≡◌ {A = ℕ} 0 1 = cc in absurd (omega arith)

-- what holds of the numbers below n, and of n
pub up_to : (P : ℕ → Type 0) (n : ℕ) → ((i : ℕ) → i < n → P i) → P n → (i : ℕ) → i < suc n → P i
up_to P n f p i h = elim (dec_lt i n) [ yes l ↦ f i l | no l ↦ let e : n ≡ i = omega (arith, l) in subst P e p ]

-- of two numbers: they are equal, or not
pub either : (P : Type 0) (i j : ℕ) → (i ≡ j → P) → ((i ≡ j → ⊥) → P) → P
either P i j f g = elim (ℕ_discrete i j) [ yes e ↦ f e | no n ↦ g n ]

-- the latest of the first n entries is e: it has the property, and none after it has
pub record Last (p : ℕ → Bool) (n e : ℕ) : Type 0 where
  pub below : e < n
  pub holds : p e ≡ true
  pub after : (i : ℕ) → i < n → e < i → p i ≡ false

module _ (p : ℕ → Bool) where
  pub latest_here : (n : ℕ) → p n ≡ true → latest p (suc n) ≡ suc n
  unfolding latest
  latest_here n e = rw e

  pub latest_back : (n : ℕ) → p n ≡ false → latest p (suc n) ≡ latest p n
  unfolding latest
  latest_back n e = rw e

  pub latest_zero : latest p 0 ≡ 0
  unfolding latest
  latest_zero = refl

  pub latest_most : (n : ℕ) → latest p n ≤ n
  unfolding latest
  latest_most zero = omega arith
  latest_most (suc n) = go (p n) (latest_most n)
    where
      go : (t : Bool) → latest p n ≤ n → pick t (suc n) (latest p n) ≤ suc n
      go true h = omega arith
      go false h = omega arith

  pub latest_last : (n e : ℕ) → latest p n ≡ suc e → Last p n e
  unfolding latest
  latest_last zero e q = absurd (omega arith)
  latest_last (suc n) e q = go (p n) refl q (latest_last n e)
    where
      go : (t : Bool) → p n ≡ t → pick t (suc n) (latest p n) ≡ suc e → (latest p n ≡ suc e → Last p n e) → Last p (suc n) e
      go true f x ih =
          let z : n ≡ e = omega arith in
          record { below = omega arith; holds = rw z at f; after = λ i high low. absurd (omega arith) }
      go false f x ih =
          let l = ih x in
          record {
            below = omega (arith, l.below);
            holds = l.holds;
            after = up_to (λ (i : ℕ). e < i → p i ≡ false) n l.after (λ low. f);
          }

  pub latest_none : (n : ℕ) → latest p n ≡ 0 → (i : ℕ) → i < n → p i ≡ false
  unfolding latest
  latest_none zero q i h = absurd (omega arith)
  latest_none (suc n) q i h = go (p n) refl q (latest_none n)
    where
      go : (t : Bool) → p n ≡ t → pick t (suc n) (latest p n) ≡ 0 → (latest p n ≡ 0 → (j : ℕ) → j < n → p j ≡ false) → p i ≡ false
      go true f x ih = absurd (omega arith)
      go false f x ih = up_to (λ (j : ℕ). p j ≡ false) n (ih x) f i h

-- it goes by the entries below alone
pub latest_alike : (p q : ℕ → Bool) (n : ℕ) → ((e : ℕ) → e < n → p e ≡ q e) → latest p n ≡ latest q n
unfolding latest
latest_alike p q zero f = refl
latest_alike p q (suc n) f = rw (f n (omega arith), latest_alike p q n (λ e h. f e (omega arith)))

-- where q holds only of what p holds of, the latest of q is searched from the latest of p
pub latest_through : (p q : ℕ → Bool) → ((e : ℕ) → q e ≡ true → p e ≡ true) → (n : ℕ) → latest q n ≡ latest q (latest p n)
latest_through p q f zero = rw (latest_zero p)
latest_through p q f (suc n) = go (p n) (q n) refl refl (latest_through p q f n)
  where
    go : (s t : Bool) → p n ≡ s → q n ≡ t → latest q n ≡ latest q (latest p n) → latest q (suc n) ≡ latest q (latest p (suc n))
    go true t a b ih = rw (latest_here p n a)
    go false true a b ih = differ (sym a ∙ f n b)
    go false false a b ih = rw (latest_back p n a, latest_back q n b) ih
