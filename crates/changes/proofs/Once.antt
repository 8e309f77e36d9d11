-- Every entry is a difference, every difference is there once, and they rise by position. Assumes nothing.
use mathlib.Core.Path.{◌≡◌, refl, sym, ◌∙◌, ap, subst}
use mathlib.Core.Bool.{Bool, true, false}
use mathlib.Core.Logic.{◌⊎◌, inl, inr}
use mathlib.Core.List.{List, [], ◌∷◌, ◌++◌}
use Prim.Native.Nat.{ℕ, ◌≤◌, ◌<◌}
use native.Mathlib.Omega.{arith}
use native.Mathlib.Nat.{sub-zero}
use lib.Dec.{ltb}
use lib.ListN.{length}
use borrow.Author.Tests.{eq-eqb, le-ltb, ltb-true, ltb-false}
use Rattle.list.proofs.Same.{same_is, is_same}
use Rattle.token.specs.Table.{first_six, places, token_at, tokens_of}
use Rattle.order.specs.Order.{stands_before}
use Rattle.order.proofs.Before.{impossible}
use Rattle.changes.specs.Changes.{Position, positions_of, there_from, there, Entry, only_left, only_right, different, agree, changes_at, each, changes}
use Rattle.changes.specs.Once.{In, Apart, place_among, Opposite, Difference, entry_position, Rising, ChangesOnce}
use Rattle.changes.proofs.In.{in_first, in_second, in_either}
use Rattle.changes.proofs.Positions.{Before, Order, equal, before, behind, order, not_one, not_itself, before_before, Rises, positions_rise}
use Rattle.changes.proofs.There.{position_at, left_among, right_among}
use Rattle.changes.proofs.Pairs.{Nth, nth_short, nth_there, Kth, kth, nth_of, there_once, Paired, paired, in_held, apart_held}

-- ---- over all positions
-- where an entry is from
pub record From (f : Position → List Entry) (e : Entry) (ps : List Position) : Type 0 where
  pub position : Position
  pub among : In position ps
  pub within : In e (f position)

module _ (f : Position → List Entry) where
  pub from : (e : Entry) (ps : List Position) → In e (each f ps) → From f e ps
  unfolding each
  from e [] h = absurd h
  from e (p ∷ ps) h = by (in_either e (f p) (each f ps) h) (from e ps)
    where
      by : In e (f p) ⊎ In e (each f ps) → (In e (each f ps) → From f e ps) → From f e (p ∷ ps)
      by (inl k) g = record { position = p; among = inl refl; within = k }
      by (inr k) g = (let r = g k in record { position = r.position; among = inr r.among; within = r.within })

  pub in_each : (e : Entry) (p : Position) (ps : List Position) → In p ps → In e (f p) → In e (each f ps)
  unfolding each
  in_each e p [] h k = absurd h
  in_each e p (q ∷ ps) (inl z) k = in_first e (f q) (each f ps) (subst (λ (x : Position). In e (f x)) z k)
  in_each e p (q ∷ ps) (inr h) k = in_second e (f q) (each f ps) (in_each e p ps h k)

apart_append : (a b : List Entry) → Apart a → Apart b → ((e : Entry) → In e a → In e b → ⊥) → Apart (a ++ b)
apart_append [] b x y n = y
apart_append (e ∷ a) b x y n = ((λ h. by (in_either e a b h)), apart_append a b x.1 y (λ f k l. n f (inr k) l))
  where
    by : In e a ⊎ In e b → ⊥
    by (inl k) = x.0 k
    by (inr k) = n e (inl refl) k

module _ (left right : List ℕ) where
  abbrev positions : List Position
  positions = positions_of (tokens_of left ++ tokens_of right)

  -- the i-th token of a table, at its place among those at p
  module _ (table : List ℕ) (p : Position) (k i : ℕ) (h : Nth k i (there table p)) where
    abbrev this : Kth table p 0 (places (length table)) k i
    this = kth table p (places (length table)) 0 k i h

    is_token : i < places (length table)
    is_token = omega (arith, this.to)

    is_place : k ≡ place_among table i
    is_place = this.place ∙ ap (λ (m : ℕ). length (there_from table p 0 m)) (sub-zero i) ∙ ap (λ (q : Position). length (there_from table q 0 i)) this.at

  -- and back
  at_place : (table : List ℕ) (p : Position) (i : ℕ) → i < places (length table) → p ≡ position_at table i → Nth (place_among table i) i (there table p)
  at_place table p i h e =
      subst (λ (k : ℕ). Nth k i (there table p))
      (ap (λ (m : ℕ). length (there_from table p 0 m)) (sub-zero i) ∙ ap (λ (q : Position). length (there_from table q 0 i)) e)
      (nth_of table p (places (length table)) 0 i (omega arith) (omega arith) e)

  opposite : (p : Position) (k i j : ℕ) → Nth k i (there left p) → Nth k j (there right p) → Opposite left right i j
  opposite p k i j x y =
      record {
        in_left = is_token left p k i x;
        in_right = is_token right p k j y;
        one_position = sym (this left p k i x).at ∙ (this right p k j y).at;
        one_place = sym (is_place left p k i x) ∙ is_place right p k j y;
      }

  -- a token opposite to another has a place among those there
  right_of : (p : Position) (k i j : ℕ) → Nth k i (there left p) → Opposite left right i j → k < length (there right p)
  right_of p k i j x o =
      nth_short k j (there right p)
      (subst (λ (m : ℕ). Nth m j (there right p)) (sym (is_place left p k i x ∙ o.one_place))
      (at_place right p j o.in_right ((this left p k i x).at ∙ o.one_position)))

  left_of : (p : Position) (k i j : ℕ) → Nth k j (there right p) → Opposite left right i j → k < length (there left p)
  left_of p k i j y o =
      nth_short k i (there left p)
      (subst (λ (m : ℕ). Nth m i (there left p)) (sym (is_place right p k j y ∙ sym o.one_place))
      (at_place left p i o.in_left ((this right p k j y).at ∙ sym o.one_position)))

  -- ---- every entry is a difference
  is_difference : (p : Position) (e : Entry) → Paired left right e (there left p) (there right p) → Difference left right e
  is_difference p (only_left i) (k, h) = (is_token left p k i h.0, (λ j o. (let z = right_of p k i j h.0 o in let y = h.1 in omega arith)))
  is_difference p (only_right j) (k, h) = (is_token right p k j h.0, (λ i o. (let z = left_of p k i j h.0 o in let y = h.1 in omega arith)))
  is_difference p (different i j) (k, h) =
      (opposite p k i j h.0 h.1.0, (λ q. impossible (sym (is_same (first_six (token_at left i)) (first_six (token_at right j)) q) ∙ h.1.1)))

  every_entry : (e : Entry) → In e (changes left right) → Difference left right e
  every_entry e h =
      let r = from (changes_at left right) e positions h in
      is_difference r.position e (paired left right e (there left r.position) (there right r.position) r.within)

  -- ---- and every difference an entry
  listed_at : (e : Entry) (p : Position) → In p positions → Paired left right e (there left p) (there right p) → In e (changes left right)
  listed_at e p m h = in_each (changes_at left right) e p positions m (in_held left right e (there left p) (there right p) h)

  agree_no : (i j : ℕ) → (first_six (token_at left i) ≡ first_six (token_at right j) → ⊥) → agree (token_at left i) (token_at right j) ≡ false
  agree_no i j n = by (agree (token_at left i) (token_at right j)) refl
    where
      by : (b : Bool) → agree (token_at left i) (token_at right j) ≡ b → b ≡ false
      by true e = absurd (n (same_is (first_six (token_at left i)) (first_six (token_at right j)) e))
      by false e = refl

  every_difference : (e : Entry) → Difference left right e → In e (changes left right)
  every_difference (only_left i) (h, n) = listed_at (only_left i) p (left_among left right i h) (k, (x, by (ltb k (length (there right p))) refl))
    where
      p : Position
      p = position_at left i

      k : ℕ
      k = place_among left i

      x : Nth k i (there left p)
      x = at_place left p i h refl

      by : (b : Bool) → ltb k (length (there right p)) ≡ b → length (there right p) ≤ k
      by true e = (let y = nth_there k (there right p) (ltb-true k (length (there right p)) e) in absurd (n y.0 (opposite p k i y.0 x y.1)))
      by false e = ltb-false k (length (there right p)) e
  every_difference (only_right j) (h, n) = listed_at (only_right j) p (right_among left right j h) (k, (y, by (ltb k (length (there left p))) refl))
    where
      p : Position
      p = position_at right j

      k : ℕ
      k = place_among right j

      y : Nth k j (there right p)
      y = at_place right p j h refl

      by : (b : Bool) → ltb k (length (there left p)) ≡ b → length (there left p) ≤ k
      by true e = (let x = nth_there k (there left p) (ltb-true k (length (there left p)) e) in absurd (n x.0 (opposite p k x.0 j x.1 y)))
      by false e = ltb-false k (length (there left p)) e
  every_difference (different i j) (o, n) =
      listed_at (different i j) (position_at left i) (left_among left right i o.in_left) (
        place_among left i,
        (
          at_place left (position_at left i) i o.in_left refl,
          (subst (λ (m : ℕ). Nth m j (there right (position_at left i))) (sym o.one_place) (at_place right (position_at left i) j o.in_right o.one_position), agree_no i j n),
        ),
      )

  -- ---- where an entry stands
  stands_at : (p : Position) (e : Entry) → Paired left right e (there left p) (there right p) → p ≡ entry_position left right e
  stands_at p (only_left i) (k, h) = (this left p k i h.0).at
  stands_at p (only_right j) (k, h) = (this right p k j h.0).at
  stands_at p (different i j) (k, h) = (this left p k i h.0).at

  stands : (p : Position) (e : Entry) → In e (changes_at left right p) → p ≡ entry_position left right e
  stands p e h = stands_at p e (paired left right e (there left p) (there right p) h)

  -- among the positions behind p
  behind_p : (p : Position) (ps : List Position) → Rises (p ∷ ps) → (e : Entry) → In e (each (changes_at left right) ps) → Before p (entry_position left right e)
  behind_p p ps r e h =
      let f = from (changes_at left right) e ps h in
      subst (Before p) (stands f.position e f.within) (r.0 f.position f.among)

  -- ---- each once
  once_in : (ps : List Position) → Rises ps → Apart (each (changes_at left right) ps)
  unfolding each
  once_in [] r = tt
  once_in (p ∷ ps) r =
      apart_append (changes_at left right p) (each (changes_at left right) ps)
      (apart_held left right (there left p) (there right p) (there_once left p 0 (places (length left))) (there_once right p 0 (places (length right))))
      (once_in ps r.1) (λ e h k. not_one p (entry_position left right e) (behind_p p ps r e k) (stands p e h))

  -- ---- in order
  abbrev NotBefore : Position → Position → Type 0
  NotBefore q p = stands_before q.line q.col p.line p.col ≡ false

  itself : (q p : Position) → q ≡ p → NotBefore q p
  itself q p e = subst (λ (x : Position). NotBefore x p) (sym e) (rw (eq-eqb p.line p.line refl, le-ltb p.col p.col (let z : p.col ≤ p.col = omega arith in z)))

  not_before : (p q : Position) → (p ≡ q) ⊎ Before p q → NotBefore q p
  not_before p q h = by (order q p) h
    where
      by : Order q p → (p ≡ q) ⊎ Before p q → NotBefore q p
      by (equal t e) h = itself q p e
      by (before t s b) (inl e) = absurd (not_one q p b (sym e))
      by (before t s b) (inr c) = absurd (not_itself q (before_before q p q b c))
      by (behind t s b) h = s

  rising_append : (a b : List Entry) → Rising left right a → Rising left right b
      → ((e f : Entry) → In e a → In f b → NotBefore (entry_position left right f) (entry_position left right e)) → Rising left right (a ++ b)
  rising_append [] b x y n = y
  rising_append (e ∷ a) b x y n = ((λ f h. by f (in_either f a b h)), rising_append a b x.1 y (λ g f k l. n g f (inr k) l))
    where
      by : (f : Entry) → In f a ⊎ In f b → NotBefore (entry_position left right f) (entry_position left right e)
      by f (inl k) = x.0 f k
      by f (inr k) = n e f (inl refl) k

  rising_flat : (p : Position) (a : List Entry) → ((e : Entry) → In e a → p ≡ entry_position left right e) → Rising left right a
  rising_flat p [] h = tt
  rising_flat p (e ∷ a) h = (
    (λ f k. not_before (entry_position left right e) (entry_position left right f) (inl (sym (h e (inl refl)) ∙ h f (inr k)))),
    rising_flat p a (λ f k. h f (inr k)),
  )

  rising_in : (ps : List Position) → Rises ps → Rising left right (each (changes_at left right) ps)
  unfolding each
  rising_in [] r = tt
  rising_in (p ∷ ps) r =
      rising_append (changes_at left right p) (each (changes_at left right) ps) (rising_flat p (changes_at left right p) (stands p)) (rising_in ps r.1)
      (λ e f h k. not_before (entry_position left right e) (entry_position left right f) (inr (subst (λ (x : Position). Before x (entry_position left right f)) (stands p e h) (behind_p p ps r f k))))

  pub changes_once : ChangesOnce left right
  changes_once =
      record {
        every_entry = every_entry;
        every_difference = every_difference;
        once = once_in positions (positions_rise (tokens_of left ++ tokens_of right));
        rising = rising_in positions (positions_rise (tokens_of left ++ tokens_of right));
      }
