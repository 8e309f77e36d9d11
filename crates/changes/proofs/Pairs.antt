-- Which entries come of the tokens at one position: those of each place. Assumes nothing.
use mathlib.Core.Path.{◌≡◌, refl, sym, ◌∙◌, ap, ap₂, subst}
use mathlib.Core.Bool.{Bool, true, false}
use mathlib.Core.Logic.{◌⊎◌, inl, inr}
use mathlib.Core.List.{List, [], ◌∷◌, map}
use Prim.Native.Nat.{ℕ, zero, suc, ◌+◌, ◌-◌, ◌≤◌, ◌<◌}
use native.Mathlib.Omega.{arith}
use native.Mathlib.Nat.{sub_self, eq-or-lt_of_le}
use lib.ListN.{length}
use Rattle.list.specs.Pick.{pick}
use Rattle.token.specs.Table.{token_at}
use Rattle.order.proofs.Before.{impossible}
use Rattle.changes.specs.Changes.{Position, there_from, Entry, only_left, only_right, different, agree, held}
use Rattle.changes.specs.Once.{In, Apart}
use Rattle.changes.proofs.Positions.{Order, equal, before, behind, order, not_one}
use Rattle.changes.proofs.There.{position_at, from_here, from_else}

-- ---- the k-th of a list
abbrev pub Nth : ℕ → ℕ → List ℕ → Type 0
Nth k i [] = ⊥
Nth zero i (x ∷ xs) = i ≡ x
Nth (suc k) i (x ∷ xs) = Nth k i xs

pub nth_short : (k i : ℕ) (xs : List ℕ) → Nth k i xs → k < length xs
nth_short k i [] h = absurd h
nth_short zero i (x ∷ xs) h = omega arith
nth_short (suc k) i (x ∷ xs) h = (let z = nth_short k i xs h in omega arith)

pub nth_there : (k : ℕ) (xs : List ℕ) → k < length xs → (i : ℕ) × Nth k i xs
nth_there k [] h = absurd (omega arith)
nth_there zero (x ∷ xs) h = (x, refl)
nth_there (suc k) (x ∷ xs) h = nth_there k xs (omega arith)

-- none comes twice
abbrev pub Once : List ℕ → Type 0
Once xs = (k l i : ℕ) → Nth k i xs → Nth l i xs → k ≡ l

once_tail : (x : ℕ) (xs : List ℕ) → Once (x ∷ xs) → Once xs
once_tail x xs o k l i a b = (let z : suc k ≡ suc l = o (suc k) (suc l) i a b in omega (arith, z))

once_head : (x : ℕ) (xs : List ℕ) → Once (x ∷ xs) → (k : ℕ) → Nth k x xs → ⊥
once_head x xs o k h = (let z : suc k ≡ 0 = o (suc k) zero x h refl in omega (arith, z))

-- ---- the indices at a position, by their place
module _ (table : List ℕ) (p : Position) where
  -- the i-th token is at p, and so many from the a-th on and before it are
  pub record Kth (a n k i : ℕ) : Type 0 where
    pub from : a ≤ i
    pub to : i < a + n
    pub at : p ≡ position_at table i
    pub place : k ≡ length (there_from table p a (i - a))

  -- one token more before them
  module _ (a i : ℕ) (l : a + 1 ≤ i) where
    one_less : i - a ≡ suc (i - (a + 1))
    one_less = omega arith

    counted_here : p ≡ position_at table a → length (there_from table p a (i - a)) ≡ suc (length (there_from table p (a + 1) (i - (a + 1))))
    counted_here e = ap (λ (m : ℕ). length (there_from table p a m)) one_less ∙ ap length (from_here table p a (i - (a + 1)) e)

    counted_else : (p ≡ position_at table a → ⊥) → length (there_from table p a (i - a)) ≡ length (there_from table p (a + 1) (i - (a + 1)))
    counted_else e = ap (λ (m : ℕ). length (there_from table p a m)) one_less ∙ ap length (from_else table p a (i - (a + 1)) e)

  none_before : (a i : ℕ) → i ≡ a → 0 ≡ length (there_from table p a (i - a))
  unfolding there_from
  none_before a i e = rw (e, sub_self a)

  by_place : (a : ℕ) (P : Type 0) → (p ≡ position_at table a → P) → ((p ≡ position_at table a → ⊥) → P) → P
  by_place a P f g = by (order p (position_at table a))
    where
      by : Order p (position_at table a) → P
      by (equal t e) = f e
      by (before t s b) = g (not_one p (position_at table a) b)
      by (behind t s b) = g (λ e. not_one (position_at table a) p b (sym e))

  first_or_later : (a n k i : ℕ) → p ≡ position_at table a → ((k' : ℕ) → Nth k' i (there_from table p (a + 1) n) → Kth (a + 1) n k' i) → Nth k i (a ∷ there_from table p (a + 1) n) → Kth a (suc n) k i
  first_or_later a n zero i e f h = record { from = omega (arith, h); to = omega (arith, h); at = e ∙ ap (position_at table) (sym h); place = none_before a i h }
  first_or_later a n (suc k) i e f h =
      let q = f k h in
      record { from = omega (arith, q.from); to = omega (arith, q.to); at = q.at; place = ap suc q.place ∙ sym (counted_here a i q.from e) }

  later : (a n k i : ℕ) → (p ≡ position_at table a → ⊥) → Kth (a + 1) n k i → Kth a (suc n) k i
  later a n k i e q = record { from = omega (arith, q.from); to = omega (arith, q.to); at = q.at; place = q.place ∙ sym (counted_else a i q.from e) }

  none_of : (a k i : ℕ) → Nth k i (there_from table p a zero) → ⊥
  unfolding there_from
  none_of a k i h = h

  pub kth : (n a k i : ℕ) → Nth k i (there_from table p a n) → Kth a n k i
  kth zero a k i h = absurd (none_of a k i h)
  kth (suc n) a k i h =
      by_place a (Kth a (suc n) k i)
      (λ e. first_or_later a n k i e (λ k'. kth n (a + 1) k' i) (subst (Nth k i) (from_here table p a n e) h))
      (λ e. later a n k i e (kth n (a + 1) k i (subst (Nth k i) (from_else table p a n e) h)))

  -- and the other way
  shown : (a n i : ℕ) → p ≡ position_at table a → (a + 1 ≤ i → Nth (length (there_from table p (a + 1) (i - (a + 1)))) i (there_from table p (a + 1) n)) → (a ≡ i) ⊎ (a < i)
      → Nth (length (there_from table p a (i - a))) i (a ∷ there_from table p (a + 1) n)
  shown a n i e f (inl q) = subst (λ (m : ℕ). Nth m i (a ∷ there_from table p (a + 1) n)) (none_before a i (sym q)) (sym q)
  shown a n i e f (inr l) = subst (λ (m : ℕ). Nth m i (a ∷ there_from table p (a + 1) n)) (sym (counted_here a i (omega arith) e)) (f (omega arith))

  behind_it : (a i : ℕ) → (p ≡ position_at table a → ⊥) → p ≡ position_at table i → (a ≡ i) ⊎ (a < i) → a + 1 ≤ i
  behind_it a i n e (inl q) = absurd (n (e ∙ ap (position_at table) (sym q)))
  behind_it a i n e (inr l) = omega arith

  pub nth_of : (n a i : ℕ) → a ≤ i → i < a + n → p ≡ position_at table i → Nth (length (there_from table p a (i - a))) i (there_from table p a n)
  nth_of zero a i l h e = absurd (omega arith)
  nth_of (suc n) a i l h e =
      by_place a (Nth (length (there_from table p a (i - a))) i (there_from table p a (suc n)))
      (λ q. subst (Nth (length (there_from table p a (i - a))) i) (sym (from_here table p a n q))
      (shown a n i q (λ g. nth_of n (a + 1) i g (omega arith) e) (eq-or-lt_of_le l)))
      (λ q.
      (let g : a + 1 ≤ i = behind_it a i q e (eq-or-lt_of_le l) in
      subst (Nth (length (there_from table p a (i - a))) i) (sym (from_else table p a n q))
      (subst (λ (m : ℕ). Nth m i (there_from table p (a + 1) n)) (sym (counted_else a i g q)) (nth_of n (a + 1) i g (omega arith) e))))

  -- so none comes twice
  pub there_once : (a n : ℕ) → Once (there_from table p a n)
  there_once a n k l i x y = (kth n a k i x).place ∙ sym (kth n a l i y).place

-- ---- what is held against what
module _ (left right : List ℕ) where
  -- the entry of a place
  abbrev pub Paired : Entry → List ℕ → List ℕ → Type 0
  Paired (only_left i) is js = (k : ℕ) × (Nth k i is × (length js ≤ k))
  Paired (only_right j) is js = (k : ℕ) × (Nth k j js × (length is ≤ k))
  Paired (different i j) is js = (k : ℕ) × (Nth k i is × (Nth k j js × (agree (token_at left i) (token_at right j) ≡ false)))

  next_place : (e : Entry) (i j : ℕ) (is js : List ℕ) → Paired e is js → Paired e (i ∷ is) (j ∷ js)
  next_place (only_left x) i j is js h = (suc h.0, (h.1.0, (let z = h.1.1 in omega arith)))
  next_place (only_right x) i j is js h = (suc h.0, (h.1.0, (let z = h.1.1 in omega arith)))
  next_place (different x y) i j is js h = (suc h.0, h.1)

  in_map : (f : ℕ → Entry) (e : Entry) (xs : List ℕ) → In e (map f xs) → (k : ℕ) × ((i : ℕ) × (Nth k i xs × (e ≡ f i)))
  in_map f e [] h = absurd h
  in_map f e (x ∷ xs) (inl q) = (zero, (x, (refl, q)))
  in_map f e (x ∷ xs) (inr h) = (let r = in_map f e xs h in (suc r.0, r.1))

  map_in : (f : ℕ → Entry) (k i : ℕ) (xs : List ℕ) → Nth k i xs → In (f i) (map f xs)
  map_in f k i [] h = absurd h
  map_in f zero i (x ∷ xs) h = inl (ap f h)
  map_in f (suc k) i (x ∷ xs) h = inr (map_in f k i xs h)

  -- the entry of the first place, if there is one, and then the others
  in_first : (e : Entry) (i j : ℕ) (is js : List ℕ) (b : Bool) → agree (token_at left i) (token_at right j) ≡ b → (In e (held left right is js) → Paired e is js)
      → In e (pick b (held left right is js) (different i j ∷ held left right is js)) → Paired e (i ∷ is) (j ∷ js)
  in_first e i j is js true q f h = next_place e i j is js (f h)
  in_first e i j is js false q f (inl z) = subst (λ (x : Entry). Paired x (i ∷ is) (j ∷ js)) (sym z) (zero, (refl, (refl, q)))
  in_first e i j is js false q f (inr h) = next_place e i j is js (f h)

  pub paired : (e : Entry) (is js : List ℕ) → In e (held left right is js) → Paired e is js
  unfolding held
  paired e [] js h =
      let r = in_map only_right e js h in
      subst (λ (x : Entry). Paired x [] js) (sym r.1.1.1) (r.0, (r.1.1.0, (let z : 0 ≤ r.0 = omega arith in z)))
  paired e (i ∷ is) [] h =
      let r = in_map only_left e (i ∷ is) h in
      subst (λ (x : Entry). Paired x (i ∷ is) []) (sym r.1.1.1) (r.0, (r.1.1.0, (let z : 0 ≤ r.0 = omega arith in z)))
  paired e (i ∷ is) (j ∷ js) h = in_first e i j is js (agree (token_at left i) (token_at right j)) refl (paired e is js) h

  later_in : (e : Entry) (i j : ℕ) (is js : List ℕ) (b : Bool) → In e (held left right is js) → In e (pick b (held left right is js) (different i j ∷ held left right is js))
  later_in e i j is js true h = h
  later_in e i j is js false h = inr h

  first_in : (x y i j : ℕ) (is js : List ℕ) (b : Bool) → agree (token_at left i) (token_at right j) ≡ b → x ≡ i → y ≡ j → agree (token_at left x) (token_at right y) ≡ false
      → In (different x y) (pick b (held left right is js) (different i j ∷ held left right is js))
  first_in x y i j is js true q ex ey n = impossible (sym q ∙ rw (ex, ey) at n)
  first_in x y i j is js false q ex ey n = inl (ap₂ different ex ey)

  pub in_held : (e : Entry) (is js : List ℕ) → Paired e is js → In e (held left right is js)
  unfolding held
  in_held (only_left x) [] js h = absurd h.1.0
  in_held (only_left x) (i ∷ is) [] h = map_in only_left h.0 x (i ∷ is) h.1.0
  in_held (only_left x) (i ∷ is) (j ∷ js) (zero, h) = absurd (let z = h.1 in omega arith)
  in_held (only_left x) (i ∷ is) (j ∷ js) (suc k, h) =
      later_in (only_left x) i j is js (agree (token_at left i) (token_at right j)) (in_held (only_left x) is js (k, (h.0, (let z = h.1 in omega arith))))
  in_held (only_right y) [] js h = map_in only_right h.0 y js h.1.0
  in_held (only_right y) (i ∷ is) [] h = absurd h.1.0
  in_held (only_right y) (i ∷ is) (j ∷ js) (zero, h) = absurd (let z = h.1 in omega arith)
  in_held (only_right y) (i ∷ is) (j ∷ js) (suc k, h) =
      later_in (only_right y) i j is js (agree (token_at left i) (token_at right j)) (in_held (only_right y) is js (k, (h.0, (let z = h.1 in omega arith))))
  in_held (different x y) [] js h = absurd h.1.0
  in_held (different x y) (i ∷ is) [] h = absurd h.1.1.0
  in_held (different x y) (i ∷ is) (j ∷ js) (zero, h) = first_in x y i j is js (agree (token_at left i) (token_at right j)) refl h.0 h.1.0 h.1.1
  in_held (different x y) (i ∷ is) (j ∷ js) (suc k, h) =
      later_in (different x y) i j is js (agree (token_at left i) (token_at right j)) (in_held (different x y) is js (k, h))

  -- and no entry comes twice
  apart_map : (f : ℕ → Entry) → ((i j : ℕ) → f i ≡ f j → i ≡ j) → (xs : List ℕ) → Once xs → Apart (map f xs)
  apart_map f inj [] o = tt
  apart_map f inj (x ∷ xs) o = (
    (λ h. (let r = in_map f (f x) xs h in once_head x xs o r.0 (subst (λ (i : ℕ). Nth r.0 i xs) (sym (inj x r.1.0 r.1.1.1)) r.1.1.0))),
    apart_map f inj xs (once_tail x xs o),
  )

  apart_first : (i j : ℕ) (is js : List ℕ) (b : Bool) → Once (i ∷ is) → Apart (held left right is js) → Apart (pick b (held left right is js) (different i j ∷ held left right is js))
  apart_first i j is js true o a = a
  apart_first i j is js false o a = ((λ h. (let r = paired (different i j) is js h in once_head i is o r.0 r.1.0)), a)

  pub apart_held : (is js : List ℕ) → Once is → Once js → Apart (held left right is js)
  unfolding held
  apart_held [] js o p = apart_map only_right (λ i j q. cc) js p
  apart_held (i ∷ is) [] o p = apart_map only_left (λ a b q. cc) (i ∷ is) o
  apart_held (i ∷ is) (j ∷ js) o p =
      apart_first i j is js (agree (token_at left i) (token_at right j)) o (apart_held is js (once_tail i is o) (once_tail j js p))
