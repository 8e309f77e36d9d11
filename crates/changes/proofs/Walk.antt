-- Both tables side by side: what a turn takes from what is left. Assumes nothing.
use mathlib.Core.Path.{◌≡◌, refl, sym, ◌∙◌, ap, ap₂, subst}
use mathlib.Core.Bool.{Bool, true, false}
use mathlib.Core.Logic.{inl, inr}
use mathlib.Core.List.{List, [], ◌∷◌, ◌++◌, append_assoc, map}
use Prim.Native.Nat.{ℕ, ◌+◌, ◌≤◌, ◌<◌}
use native.Mathlib.Omega.{arith}
use native.Mathlib.Nat.{sub-zero}
use lib.ListN.{length}
use Rattle.std.specs.Prelude.{Option, Some, None}
use Rattle.list.specs.Pick.{pick}
use Rattle.token.specs.Table.{places, token_at, tokens_of}
use Rattle.order.specs.Order.{sorted}
use Rattle.order.specs.Keys.{key_of, key_at}
use Rattle.order.proofs.Before.{UpTo, up_to}
use Rattle.order.proofs.Falls.{sorted_never}
use Rattle.changes.specs.Changes.{Position, positions_of, Entry, only_left, only_right, different, agree, held, each, changes}
use Rattle.changes.specs.Turns.{there_on, changes_on, given, turn_of, Ahead, Turns}
use Rattle.changes.specs.Once.{In}
use Rattle.changes.specs.declared.Kind.{Kind}
use Rattle.changes.specs.declared.Turn.{Turn}
use Rattle.changes.proofs.Positions.{Before, Order, equal, before, behind, order, before_before, not_itself, not_one, position_is, Rises, positions_rise}
use Rattle.changes.proofs.There.{position_at, none_on, here_on, else_on, left_among, right_among}

-- ---- what all positions give, one after the other
pub each_alike : (f g : Position → List Entry) (ps : List Position) → ((q : Position) → In q ps → f q ≡ g q) → each f ps ≡ each g ps
unfolding each
each_alike f g [] h = refl
each_alike f g (p ∷ ps) h = ap₂ (λ (x y : List Entry). x ++ y) (h p (inl refl)) (each_alike f g ps (λ q k. h q (inr k)))

each_none : (ps : List Position) → each (λ _. []) ps ≡ []
unfolding each
each_none [] = refl
each_none (p ∷ ps) = each_none ps

-- f and g differ at p alone, where f has es more, and before p there is nothing
module _ (f g : Position → List Entry) (es : List Entry) (p : Position) (more : f p ≡ es ++ g p) (none : (q : Position) → Before q p → f q ≡ [])
    (alike : (q : Position) → (q ≡ p → ⊥) → f q ≡ g q) where
  at_it : (ps : List Position) → ((q : Position) → In q ps → Before p q) → f p ++ each f ps ≡ es ++ (g p ++ each g ps)
  at_it ps r =
      ap₂ (λ (x y : List Entry). x ++ y) more (each_alike f g ps (λ q h. alike q (λ e. not_one p q (r q h) (sym e))))
      ∙ append_assoc es (g p) (each g ps)

  pub each_more : (ps : List Position) → Rises ps → In p ps → each f ps ≡ es ++ each g ps
  unfolding each
  each_more [] r h = absurd h
  each_more (q ∷ ps) r h = by (order q p) (each_more ps r.1)
    where
      by : Order q p → (In p ps → each f ps ≡ es ++ each g ps) → f q ++ each f ps ≡ es ++ (g q ++ each g ps)
      by (equal t e) deeper = subst (λ (x : Position). f x ++ each f ps ≡ es ++ (g x ++ each g ps)) (sym e) (at_it ps (λ y k. subst (λ (x : Position). Before x y) e (r.0 y k)))
      by (before t s b) deeper =
          let z = none q b in
          let y : g q ≡ [] = sym (alike q (not_one q p b)) ∙ z in
          rw (z, y) (deeper (later h))
        where
          later : In p (q ∷ ps) → In p ps
          later (inl e) = absurd (not_one q p b (sym e))
          later (inr k) = k
      by (behind t s b) deeper = absurd (never h)
        where
          never : In p (q ∷ ps) → ⊥
          never (inl e) = not_one p q b e
          never (inr k) = not_itself p (before_before p q p b (r.0 p k))

-- ---- tokens at one position, where one table has none left
pub none_right : (left right is : List ℕ) → held left right is [] ≡ map only_left is
unfolding held
none_right left right [] = refl
none_right left right (i ∷ is) = refl

pub none_left : (left right js : List ℕ) → held left right [] js ≡ map only_right js
unfolding held
none_left left right js = refl

both_there : (left right : List ℕ) (i j : ℕ) (is js : List ℕ) → held left right (i ∷ is) (j ∷ js)
    ≡ pick (agree (token_at left i) (token_at right j)) [] (different i j ∷ []) ++ held left right is js
unfolding held
both_there left right i j is js = by (agree (token_at left i) (token_at right j))
  where
    by : (b : Bool) → pick b (held left right is js) (different i j ∷ held left right is js) ≡ pick b [] (different i j ∷ []) ++ held left right is js
    by true = refl
    by false = refl

-- ---- a sorted table from its i-th token on

-- no token from the i-th on stands before p
abbrev pub NoneBefore : List ℕ → ℕ → Position → Type 0
NoneBefore table i p = (k : ℕ) → i ≤ k → k < places (length table) → Before (position_at table k) p → ⊥

-- all of them stand behind p
abbrev pub AllBehind : List ℕ → ℕ → Position → Type 0
AllBehind table i p = (k : ℕ) → i ≤ k → k < places (length table) → Before p (position_at table k)

pub behind_none : (table : List ℕ) (i : ℕ) (p : Position) → AllBehind table i p → NoneBefore table i p
behind_none table i p h k l g b = not_itself p (before_before p (position_at table k) p (h k l g) b)

-- nothing is there at a position before p, or at p itself
none_earlier : (table : List ℕ) (i : ℕ) (p q : Position) → NoneBefore table i p → Before q p → there_on table i q ≡ []
none_earlier table i p q h b = none_on table q i (λ k l g e. h k l g (subst (λ (x : Position). Before x p) e b))

none_at : (table : List ℕ) (i : ℕ) (p : Position) → AllBehind table i p → there_on table i p ≡ []
none_at table i p h = none_on table p i (λ k l g e. not_one p (position_at table k) (h k l g) e)

before_up : (p q r : Position) → Before p q → UpTo q.line q.col r.line r.col → Before p r
before_up p q r (inl a) (inl b) = inl (omega arith)
before_up p q r (inl a) (inr b) = inl (omega (arith, b.0))
before_up p q r (inr a) (inl b) = inl (omega (arith, a.0))
before_up p q r (inr a) (inr b) = inr (a.0 ∙ b.0, omega (arith, a.1, b.1))

module _ (table : List ℕ) (s : sorted table ≡ true) (i : ℕ) (h : i < places (length table)) where
  upward : (k : ℕ) → i ≤ k → k < places (length table)
      → UpTo (position_at table i).line (position_at table i).col (position_at table k).line (position_at table k).col
  upward k l g = up_to _ _ _ _ (sorted_never table s i k l g)

  pub none_before : NoneBefore table i (position_at table i)
  none_before k l g b = not_itself (position_at table k) (before_up (position_at table k) (position_at table i) (position_at table k) b (upward k l g))

  pub all_behind : (p : Position) → Before p (position_at table i) → AllBehind table i p
  all_behind p b k l g = before_up p (position_at table i) (position_at table k) b (upward k l g)

-- ---- the turns
module _ (left right : List ℕ) (i j : ℕ) where
  abbrev at : ℕ → ℕ → Position → List Entry
  at a b p = held left right (there_on left a p) (there_on right b p)

  -- at p the entries es are due, at no other position anything changes
  turned : (p : Position) (es : List Entry) (i' j' : ℕ) → In p (positions_of (tokens_of left ++ tokens_of right)) → NoneBefore left i p → NoneBefore right j p
      → at i j p ≡ es ++ at i' j' p → ((q : Position) → (q ≡ p → ⊥) → at i j q ≡ at i' j' q) → changes_on left right i j ≡ es ++ changes_on left right i' j'
  turned p es i' j' m nl nr e alike =
      each_more (at i j) (at i' j') es p e
      (λ q b. ap₂ (held left right) (none_earlier left i p q nl b) (none_earlier right j p q nr b) ∙ none_left left right [])
      alike (positions_of (tokens_of left ++ tokens_of right)) (positions_rise (tokens_of left ++ tokens_of right)) m

  module _ (s : sorted left ≡ true) (h : i < places (length left)) where
    -- the left token stands before all that are left of the right table
    pub left_alone : AllBehind right j (position_at left i) → changes_on left right i j ≡ only_left i ∷ [] ++ changes_on left right (i + 1) j
    left_alone b =
        turned p (only_left i ∷ []) (i + 1) j (left_among left right i h) (none_before left s i h) (behind_none right j p b)
        (ap₂ (held left right) (here_on left p i h refl) (none_at right j p b)
        ∙ none_right left right (i ∷ there_on left (i + 1) p)
        ∙ ap (λ (l : List Entry). only_left i ∷ l) (sym (none_right left right (there_on left (i + 1) p)) ∙ ap (held left right (there_on left (i + 1) p)) (sym (none_at right j p b))))
        (λ q n. ap (λ (l : List ℕ). held left right l (there_on right j q)) (else_on left q i h n))
      where
        p : Position
        p = position_at left i

  module _ (s : sorted right ≡ true) (h : j < places (length right)) where
    pub right_alone : AllBehind left i (position_at right j) → changes_on left right i j ≡ only_right j ∷ [] ++ changes_on left right i (j + 1)
    right_alone b =
        turned p (only_right j ∷ []) i (j + 1) (right_among left right j h) (behind_none left i p b) (none_before right s j h)
        (ap₂ (held left right) (none_at left i p b) (here_on right p j h refl)
        ∙ none_left left right (j ∷ there_on right (j + 1) p)
        ∙ ap (λ (l : List Entry). only_right j ∷ l) (sym (none_left left right (there_on right (j + 1) p)) ∙ ap (λ (l : List ℕ). held left right l (there_on right (j + 1) p)) (sym (none_at left i p b))))
        (λ q n. ap (held left right (there_on left i q)) (else_on right q j h n))
      where
        p : Position
        p = position_at right j

    -- both stand at one position
    module _ (s' : sorted left ≡ true) (g : i < places (length left)) (e : position_at left i ≡ position_at right j) where
      pub both_here : changes_on left right i j
          ≡ pick (agree (token_at left i) (token_at right j)) [] (different i j ∷ []) ++ changes_on left right (i + 1) (j + 1)
      both_here =
          turned p (pick (agree (token_at left i) (token_at right j)) [] (different i j ∷ [])) (i + 1) (j + 1) (left_among left right i g) (none_before left s' i g)
          (subst (NoneBefore right j) (sym e) (none_before right s j h))
          (ap₂ (held left right) (here_on left p i g refl) (here_on right p j h e) ∙ both_there left right i j (there_on left (i + 1) p) (there_on right (j + 1) p))
          (λ q n. ap₂ (held left right) (else_on left q i g n) (else_on right q j h (λ z. n (z ∙ sym e))))
        where
          p : Position
          p = position_at left i

-- ---- positions as numbers, where columns have 32 bits
abbrev pub key : Position → ℕ
key p = key_of p.line p.col

module _ (p q : Position) (np : p.col < 4294967296) (nq : q.col < 4294967296) where
  not_less : Before q p → key p < key q → ⊥
  not_less (inl b) h = omega arith
  not_less (inr b) h = omega (arith, b.0, b.1)

  pub key_before : key p < key q → Before p q
  key_before h = by (order p q)
    where
      by : Order p q → Before p q
      by (equal t e) = absurd (let z : key p ≡ key q = ap key e in omega arith)
      by (before t s b) = b
      by (behind t s b) = absurd (not_less b h)

  pub key_one : key p ≡ key q → p ≡ q
  key_one e = position_is p q (omega (arith, e)) (omega (arith, e))

-- ---- what a turn answers
pub answers : (left right : List ℕ) (i j : ℕ) (r t : Turn) → r ≡ t → Turns left right i j t → Turns left right i j r
answers left right i j r t e u = rw e u

module _ (left right : List ℕ) (i j : ℕ) (a : Ahead left right i j) where
  pub right_ended : places (length right) ≤ j → Turns left right i j (turn_of (Some Kind.OnlyLeft) (i + 1) j)
  right_ended h =
      let g : i < places (length left) = omega (arith, a.in_right, a.more) in
      record {
        in_left = omega arith;
        in_right = a.in_right;
        on = omega arith;
        gives = left_alone left right i j a.left_sorted g (λ k l m. absurd (omega arith));
      }

  pub left_ended : places (length left) ≤ i → Turns left right i j (turn_of (Some Kind.OnlyRight) i (j + 1))
  left_ended h =
      let g : j < places (length right) = omega (arith, a.in_left, a.more) in
      record {
        in_left = a.in_left;
        in_right = omega arith;
        on = omega arith;
        gives = right_alone left right i j a.right_sorted g (λ k l m. absurd (omega arith));
      }

  module _ (g : i < places (length left)) (h : j < places (length right)) (nl : (position_at left i).col < 4294967296) (nr : (position_at right j).col < 4294967296)
      (p q : ℕ) (ep : p ≡ key_at left i) (eq : q ≡ key_at right j) where
    pub left_first : p < q → Turns left right i j (turn_of (Some Kind.OnlyLeft) (i + 1) j)
    left_first l =
        record {
          in_left = omega arith;
          in_right = a.in_right;
          on = omega arith;
          gives =
              left_alone left right i j a.left_sorted g
              (all_behind right a.right_sorted j h (position_at left i) (key_before (position_at left i) (position_at right j) nl nr (omega (arith, ep, eq))));
        }

    pub right_first : q < p → Turns left right i j (turn_of (Some Kind.OnlyRight) i (j + 1))
    right_first l =
        record {
          in_left = a.in_left;
          in_right = omega arith;
          on = omega arith;
          gives =
              right_alone left right i j a.right_sorted h
              (all_behind left a.left_sorted i g (position_at right j) (key_before (position_at right j) (position_at left i) nr nl (omega (arith, ep, eq))));
        }

    module _ (le : p ≤ q) (ge : q ≤ p) (b : Bool) (eb : b ≡ agree (token_at left i) (token_at right j)) where
      pair : changes_on left right i j ≡ pick b [] (different i j ∷ []) ++ changes_on left right (i + 1) (j + 1)
      pair =
          both_here left right i j a.right_sorted h a.left_sorted g (key_one (position_at left i) (position_at right j) nl nr (omega (arith, ep, eq)))
          ∙ ap (λ (z : Bool). pick z [] (different i j ∷ []) ++ changes_on left right (i + 1) (j + 1)) (sym eb)

      on_both : (k : Option Kind) → pick b [] (different i j ∷ []) ≡ given k i j → Turns left right i j (turn_of k (i + 1) (j + 1))
      on_both k e =
          record {
            in_left = omega arith;
            in_right = omega arith;
            on = omega arith;
            gives = pair ∙ ap (λ (l : List Entry). l ++ changes_on left right (i + 1) (j + 1)) e;
          }

      pub same_here : b ≡ true → Turns left right i j (turn_of None (i + 1) (j + 1))
      same_here e = on_both None (rw e)

      pub other_here : b ≡ false → Turns left right i j (turn_of (Some Kind.Different) (i + 1) (j + 1))
      other_here e = on_both (Some Kind.Different) (rw e)

-- ---- at both ends nothing is left
pub all_done : (left right : List ℕ) (i j : ℕ) → i ≤ places (length left) → j ≤ places (length right) → places (length left) + places (length right) ≤ i + j
    → changes_on left right i j ≡ []
all_done left right i j a b h = nothing (positions_of (tokens_of left ++ tokens_of right))
  where
    nothing_at : (p : Position) → held left right (there_on left i p) (there_on right j p) ≡ []
    nothing_at p =
        ap₂ (held left right) (none_on left p i (λ k l g. absurd (omega arith))) (none_on right p j (λ k l g. absurd (omega arith)))
        ∙ none_left left right []

    nothing : (ps : List Position) → each (λ (p : Position). held left right (there_on left i p) (there_on right j p)) ps ≡ []
    nothing ps = each_alike _ (λ _. []) ps (λ q _. nothing_at q) ∙ each_none ps

-- ---- and at the start everything is
pub from_start : (left right : List ℕ) → changes_on left right 0 0 ≡ changes left right
from_start left right = simp sub-zero
