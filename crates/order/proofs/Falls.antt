-- Where a table first falls: from neighbours to all tokens. Assumes nothing.
use mathlib.Core.Path.{◌≡◌, refl, sym, subst}
use mathlib.Core.Bool.{Bool, true, false}
use mathlib.Core.Logic.{◌⊎◌, inl, inr}
use mathlib.Core.List.{List}
use Rattle.std.specs.Prelude.{Option, Some, None, is_none}
use Prim.Native.Nat.{ℕ, zero, suc, ◌+◌, ◌-◌, ◌<◌, ◌≤◌}
use native.Mathlib.Omega.{arith}
use native.Mathlib.Nat.{eq-or-lt_of_le, add-zero}
use lib.ListN.{length}
use Rattle.list.specs.Pick.{pick}
use Rattle.token.specs.Table.{places, token_at, tokens_from}
use Rattle.order.specs.Order.{falls, fall_from, fall_in, first_fall, sorted, NeverFalls, FallSays, SortedSays}
use Rattle.order.proofs.Before.{impossible, UpTo, up_to, not_before, up_to_up}

module _ (table : List ℕ) where
  -- token j + 1 does not stand before token j
  abbrev pub Steps : ℕ → Type 0
  Steps j = falls (token_at table j) (token_at table (j + 1)) ≡ false

  -- of the n tokens behind the i-th: none falls, or the k-th is the first that does
  pub record First (i n k : ℕ) : Type 0 where
    pub behind : i < k
    pub ends : k ≤ i + n
    pub steps : (j : ℕ) → i ≤ j → j + 1 < k → Steps j
    pub falls_at : (j : ℕ) → j + 1 ≡ k → falls (token_at table j) (token_at table k) ≡ true

  abbrev pub Next : ℕ → ℕ → Option ℕ → Type 0
  Next i n None = (j : ℕ) → i ≤ j → j < i + n → Steps j
  Next i n (Some k) = First i n k

  from_first : (i n : ℕ) → Steps i → (o : Option ℕ) → Next (i + 1) n o → Next i (suc n) o
  from_first i n s None h = λ j l g. go j g (eq-or-lt_of_le l)
    where
      go : (j : ℕ) → j < i + suc n → (i ≡ j) ⊎ (i < j) → Steps j
      go j g (inl q) = subst Steps q s
      go j g (inr l) = h j (omega arith) (omega arith)
  from_first i n s (Some k) h =
      record {
        behind = omega (arith, h.behind);
        ends = omega (arith, h.ends);
        steps = λ j l g. go j g (eq-or-lt_of_le l);
        falls_at = h.falls_at;
      }
    where
      go : (j : ℕ) → j + 1 < k → (i ≡ j) ⊎ (i < j) → Steps j
      go j g (inl q) = subst Steps q s
      go j g (inr l) = h.steps j (omega arith) g

  here : (i n : ℕ) → falls (token_at table i) (token_at table (i + 1)) ≡ true → First i (suc n) (i + 1)
  here i n e =
      record {
        behind = omega arith;
        ends = omega arith;
        steps = λ j l g. absurd (omega arith);
        falls_at = λ j q. (let z : j ≡ i = omega (arith, q) in subst (λ (m : ℕ). falls (token_at table m) (token_at table (i + 1)) ≡ true) (sym z) e);
      }

  branch : (i n : ℕ) (b : Bool) → falls (token_at table i) (token_at table (i + 1)) ≡ b → (o : Option ℕ) → Next (i + 1) n o → Next i (suc n) (pick b (Some (i + 1)) o)
  branch i n true e o h = here i n e
  branch i n false e o h = from_first i n e o h

  pub next : (i n : ℕ) → Next i n (fall_from (i + 1) (token_at table i) (tokens_from table (i + 1) n))
  unfolding fall_from tokens_from
  next i zero = λ j l g. absurd (omega arith)
  next i (suc n) = branch i n (falls (token_at table i) (token_at table (i + 1))) refl (fall_from (i + 1 + 1) (token_at table (i + 1)) (tokens_from table (i + 1 + 1) n)) (next (i + 1) n)

  -- of the whole table
  pub all_of : (m n : ℕ) → m ≡ suc n → Next 0 n (fall_in (tokens_from table 0 m))
  unfolding tokens_from
  all_of m n e = rw e (next 0 n)

  -- one step after another
  far : (n : ℕ) → ((j : ℕ) → j + 1 < n → Steps j) → (i d : ℕ) → i + d < n → falls (token_at table i) (token_at table (i + d)) ≡ false
  far n s i d h = not_before _ _ _ _ (reach d h)
    where
      Reach : ℕ → Type 0
      Reach k = UpTo (token_at table i).dst_line (token_at table i).dst_col (token_at table (i + k)).dst_line (token_at table (i + k)).dst_col

      reach : (k : ℕ) → i + k < n → Reach k
      reach zero g = rw add-zero (inr (refl, omega arith))
      reach (suc k) g =
          let e : i + k + 1 ≡ i + suc k = omega arith in
          up_to_up _ _ _ _ _ _ (reach k (omega arith))
          (up_to _ _ _ _ (subst (λ (m : ℕ). falls (token_at table (i + k)) (token_at table m) ≡ false) e (s (i + k) (omega arith))))

  never : (n : ℕ) → ((j : ℕ) → j + 1 < n → Steps j) → NeverFalls table n
  never n s i j l h =
      let e : i + (j - i) ≡ j = omega arith in
      subst (λ (m : ℕ). falls (token_at table i) (token_at table m) ≡ false) e (far n s i (j - i) (omega arith))

  no_tokens : places (length table) ≡ 0 → first_fall table ≡ None
  unfolding tokens_from
  no_tokens e = rw e

  of_all : (n : ℕ) → places (length table) ≡ suc n → (o : Option ℕ) → Next 0 n o → FallSays table o
  of_all n e None h = never (places (length table)) (λ j g. h j (omega arith) (omega (arith, e)))
  of_all n e (Some k) h =
      record {
        behind = h.behind;
        within = omega (arith, h.ends, e);
        before_it = never k (λ j g. h.steps j (omega arith) g);
        at_it = h.falls_at;
      }

  pub says : FallSays table (first_fall table)
  says = by (places (length table)) refl
    where
      by : (m : ℕ) → places (length table) ≡ m → FallSays table (first_fall table)
      by zero e = subst (FallSays table) (sym (no_tokens e)) (λ i j l h. absurd (omega (arith, e)))
      by (suc n) e = of_all n e (first_fall table) (all_of (places (length table)) n e)

-- what the index says
pub sorted_says : SortedSays
sorted_says table = says table

-- a sorted table never falls
pub sorted_never : (table : List ℕ) → sorted table ≡ true → NeverFalls table (places (length table))
sorted_never table e = by (first_fall table) (says table) e
  where
    by : (o : Option ℕ) → FallSays table o → is_none o ≡ true → NeverFalls table (places (length table))
    by None f q = f
    by (Some k) f q = impossible (sym q)
