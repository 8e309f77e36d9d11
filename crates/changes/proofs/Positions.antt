-- Positions in order, each once: what `positions_of` makes. Assumes nothing.
use mathlib.Core.Path.{◌≡◌, refl, sym, ◌∙◌, ap, ap₂, subst}
use mathlib.Core.Bool.{Bool, true, false}
use mathlib.Core.Logic.{◌⊎◌, inl, inr}
use mathlib.Core.List.{List, [], ◌∷◌}
use Prim.Native.Nat.{ℕ, ◌<◌, ◌≤◌}
use native.Mathlib.Omega.{arith}
use native.Mathlib.Nat.{eq-or-lt_of_le}
use lib.Dec.{eqb, ltb}
use borrow.Author.Tests.{eqb-true, eqb-false, ltb-true, ltb-false}
use Rattle.token.specs.declared.Token.{Token}
use Rattle.order.specs.Order.{stands_before}
use Rattle.changes.specs.Changes.{Position, position_of, together, among, positions_of}
use Rattle.changes.specs.Once.{In}

-- before, as a fact: the line is less, or it is the same and the column is less
abbrev pub Before : Position → Position → Type 0
Before p q = (p.line < q.line) ⊎ ((p.line ≡ q.line) × (p.col < q.col))

pub before_before : (p q r : Position) → Before p q → Before q r → Before p r
before_before p q r (inl a) (inl b) = inl (omega arith)
before_before p q r (inl a) (inr b) = inl (omega (arith, b.0))
before_before p q r (inr a) (inl b) = inl (omega (arith, a.0))
before_before p q r (inr a) (inr b) = inr (a.0 ∙ b.0, omega (arith, a.1, b.1))

pub not_itself : (p : Position) → Before p p → ⊥
not_itself p (inl a) = omega arith
not_itself p (inr a) = omega (arith, a.1)

pub not_one : (p q : Position) → Before p q → p ≡ q → ⊥
not_one p q b e = not_itself q (subst (λ (x : Position). Before x q) e b)

-- two positions are one, or one stands before the other; and what the tests say
pub data Order (p q : Position) : Type 0 where
  equal : together p q ≡ true → p ≡ q → Order p q
  before : together p q ≡ false → stands_before p.line p.col q.line q.col ≡ true → Before p q → Order p q
  behind : together p q ≡ false → stands_before p.line p.col q.line q.col ≡ false → Before q p → Order p q

pub position_is : (p q : Position) → p.line ≡ q.line → p.col ≡ q.col → p ≡ q
position_is p q e f = ap₂ (λ (l c : ℕ). record { line = l; col = c }) e f

strict : (a b : ℕ) → b ≤ a → (a ≡ b → ⊥) → b < a
strict a b h n = go (eq-or-lt_of_le h)
  where
    go : (b ≡ a) ⊎ (b < a) → b < a
    go (inl e) = absurd (n (sym e))
    go (inr l) = l

module _ (p q : Position) where
  pub order : Order p q
  order = by (eqb p.line q.line) refl (eqb p.col q.col) refl (ltb p.col q.col) refl (ltb p.line q.line) refl
    where
      by : (a : Bool) → eqb p.line q.line ≡ a → (b : Bool) → eqb p.col q.col ≡ b → (c : Bool) → ltb p.col q.col ≡ c → (d : Bool) → ltb p.line q.line ≡ d
          → Order p q
      by true a true b c z d y = equal (rw (a, b)) (position_is p q (eqb-true p.line q.line a) (eqb-true p.col q.col b))
      by true a false b true z d y = before (rw (a, b)) (rw (a, z)) (inr (eqb-true p.line q.line a, ltb-true p.col q.col z))
      by true a false b false z d y =
          let l = ltb-false p.col q.col z in
          let n = eqb-false p.col q.col b in
          behind (rw (a, b)) (rw (a, z)) (inr (sym (eqb-true p.line q.line a), strict p.col q.col l n))
      by false a b x c z true y = before (rw a) (rw (a, y)) (inl (ltb-true p.line q.line y))
      by false a b x c z false y =
          let l = ltb-false p.line q.line y in
          let n = eqb-false p.line q.line a in
          behind (rw a) (rw (a, y)) (inl (strict p.line q.line l n))

-- ---- positions that rise, each once
abbrev pub Rises : List Position → Type 0
Rises [] = Unit {0}
Rises (p ∷ ps) = ((q : Position) → In q ps → Before p q) × Rises ps

module _ (p q : Position) (qs : List Position) where
  -- what putting p among q and those behind it makes, with what it is to have
  among_by : (P : List Position → Type 0) → (p ≡ q → P (q ∷ qs)) → (Before p q → P (p ∷ q ∷ qs)) → (Before q p → P (q ∷ among p qs)) → P (among p (q ∷ qs))
  unfolding among
  among_by P a b c = by (order p q)
    where
      by : Order p q → P (among p (q ∷ qs))
      by (equal t e) = rw t (a e)
      by (before t s h) = rw (t, s) (b h)
      by (behind t s h) = rw (t, s) (c h)

-- p is among them, those before stay, and there is no other
pub among_has : (p : Position) (qs : List Position) → In p (among p qs)
unfolding among
among_has p [] = inl refl
among_has p (q ∷ qs) = among_by p q qs (In p) (λ e. inl e) (λ b. inl refl) (λ b. inr (among_has p qs))

pub among_keeps : (p r : Position) (qs : List Position) → In r qs → In r (among p qs)
unfolding among
among_keeps p r [] h = absurd h
among_keeps p r (q ∷ qs) (inl e) = among_by p q qs (In r) (λ _. inl e) (λ _. inr (inl e)) (λ _. inl e)
among_keeps p r (q ∷ qs) (inr h) = among_by p q qs (In r) (λ _. inr h) (λ _. inr (inr h)) (λ _. inr (among_keeps p r qs h))

or_later : (p q r : Position) (qs : List Position) → (r ≡ p) ⊎ In r qs → (r ≡ p) ⊎ In r (q ∷ qs)
or_later p q r qs (inl e) = inl e
or_later p q r qs (inr h) = inr (inr h)

behind_first : (p q r : Position) (qs rest : List Position) → (In r rest → (r ≡ p) ⊎ In r qs) → In r (q ∷ rest) → (r ≡ p) ⊎ In r (q ∷ qs)
behind_first p q r qs rest f (inl e) = inr (inl e)
behind_first p q r qs rest f (inr h) = or_later p q r qs (f h)

pub among_only : (p r : Position) (qs : List Position) → In r (among p qs) → (r ≡ p) ⊎ In r qs
unfolding among
among_only p r [] h = h
among_only p r (q ∷ qs) h =
    among_by p q qs (λ (l : List Position). In r l → (r ≡ p) ⊎ In r (q ∷ qs)) (λ _ k. inr k) (λ _ k. k)
    (λ _. behind_first p q r qs (among p qs) (among_only p r qs)) h

-- and they rise
pub among_rises : (p : Position) (qs : List Position) → Rises qs → Rises (among p qs)
unfolding among
among_rises p [] r = ((λ q h. absurd h), tt)
among_rises p (q ∷ qs) r =
    among_by p q qs Rises (λ _. r) (λ b. (first b, r)) (λ b. ((λ x h. second b x (among_only p x qs h)), among_rises p qs r.1))
  where
    first : Before p q → (x : Position) → In x (q ∷ qs) → Before p x
    first b x (inl e) = subst (Before p) (sym e) b
    first b x (inr h) = before_before p q x b (r.0 x h)

    second : Before q p → (x : Position) → (x ≡ p) ⊎ In x qs → Before q x
    second b x (inl e) = subst (Before q) (sym e) b
    second b x (inr h) = r.0 x h

-- of tokens
pub positions_rise : (ts : List Token) → Rises (positions_of ts)
unfolding positions_of
positions_rise [] = tt
positions_rise (t ∷ ts) = among_rises (position_of t) (positions_of ts) (positions_rise ts)

pub positions_have : (t : Token) (ts : List Token) → In t ts → In (position_of t) (positions_of ts)
unfolding positions_of
positions_have t [] h = absurd h
positions_have t (u ∷ ts) (inl e) = subst (λ (x : Position). In x (among (position_of u) (positions_of ts))) (ap position_of (sym e)) (among_has (position_of u) (positions_of ts))
positions_have t (u ∷ ts) (inr h) = among_keeps (position_of u) (position_of t) (positions_of ts) (positions_have t ts h)

-- a position of some token
pub record Stands (p : Position) (ts : List Token) : Type 0 where
  pub token : Token
  pub within : In token ts
  pub at : p ≡ position_of token

pub positions_only : (p : Position) (ts : List Token) → In p (positions_of ts) → Stands p ts
unfolding positions_of
positions_only p [] h = absurd h
positions_only p (t ∷ ts) h = by (among_only (position_of t) p (positions_of ts) h) (positions_only p ts)
  where
    by : (p ≡ position_of t) ⊎ In p (positions_of ts) → (In p (positions_of ts) → Stands p ts) → Stands p (t ∷ ts)
    by (inl e) f = record { token = t; within = inl refl; at = e }
    by (inr k) f = (let s = f k in record { token = s.token; within = inr s.within; at = s.at })

-- ---- two lists that rise and have the same positions are one
module _ (p q : Position) (ps qs : List Position) (a : Rises (p ∷ ps)) (b : Rises (q ∷ qs)) where
  one_head : In p (q ∷ qs) → In q (p ∷ ps) → p ≡ q
  one_head (inl e) h = e
  one_head (inr k) (inl e) = sym e
  one_head (inr k) (inr h) = absurd (not_itself p (before_before p q p (a.0 q h) (b.0 p k)))

  -- of what is behind the first
  tail_has : p ≡ q → ((r : Position) → In r (p ∷ ps) → In r (q ∷ qs)) → (r : Position) → In r ps → In r qs
  tail_has e f r h = by (f r (inr h))
    where
      by : In r (q ∷ qs) → In r qs
      by (inl z) = absurd (not_one p r (a.0 r h) (e ∙ sym z))
      by (inr k) = k

pub one_list : (ps qs : List Position) → Rises ps → Rises qs → ((r : Position) → In r ps → In r qs) → ((r : Position) → In r qs → In r ps) → ps ≡ qs
one_list [] [] a b f g = refl
one_list [] (q ∷ qs) a b f g = absurd (g q (inl refl))
one_list (p ∷ ps) [] a b f g = absurd (f p (inl refl))
one_list (p ∷ ps) (q ∷ qs) a b f g =
    let e = one_head p q ps qs a b (f p (inl refl)) (g q (inl refl)) in
    ap₂ (λ (x : Position) (xs : List Position). x ∷ xs) e
    (one_list ps qs a.1 b.1 (tail_has p q ps qs a b e f) (tail_has q p qs ps b a (sym e) g))
