-- Tables by the numbers of their positions: what the loops find, and that it is what `sorted` says. Assumes nothing.
use mathlib.Core.Path.{◌≡◌, refl, sym, ◌∙◌, ap, subst}
use mathlib.Core.Bool.{Bool, true, false}
use mathlib.Core.List.{List}
use Rattle.std.specs.Prelude.{Option, Some, None, is_some, is_none, not}
use Prim.Native.Nat.{ℕ, ◌+◌, ◌*◌, ◌-◌, ◌<◌, ◌≤◌}
use native.Mathlib.Omega.{arith}
use lib.Dec.{ltb}
use lib.ListN.{length, get_or}
use borrow.Author.Tests.{ltb-true, ltb-false}
use Rattle.token.specs.Table.{width, places, token_at}
use Rattle.order.specs.Order.{first_fall, sorted, NeverFalls, FirstFall, FallSays}
use Rattle.order.specs.Keys.{key_at, Rise, Rising, Settles, FirstBehind, FallsBehind}
use Rattle.order.proofs.Before.{impossible, up_to, not_before, key_up, up_key}
use Rattle.order.proofs.Falls.{says, sorted_never}

-- a table's numbers have 32 bits
pub narrow : (table : List ℕ) → ((i : ℕ) → get_or table i 0 < 4294967296) → (j : ℕ) → (token_at table j).dst_col < 4294967296
unfolding token_at
narrow table h j = h (width * j + 1)

module _ (table : List ℕ) where
  -- k is where the token at `at` stands, and none falls from the one at `from` up to it
  pub record Upward (from at k : ℕ) : Type 0 where
    pub is : k ≡ key_at table at
    pub rise : Rise table from at

  -- where one falls they do not rise
  falls_so : (from to k : ℕ) → FirstBehind table from to k → (low : ℕ) → low ≤ from → Rise table low to → ⊥
  falls_so from to k f low l r =
      let e : k - 1 + 1 ≡ k = omega (arith, f.behind) in
      let h : key_at table (k - 1) ≤ key_at table k = subst (λ (m : ℕ). key_at table (k - 1) ≤ key_at table m) e (r (k - 1) (omega (arith, f.behind)) (omega (arith, f.behind, f.ends))) in
      omega (arith, f.falls)

  -- one part behind the other
  join : (a b b' c : ℕ) → b' ≤ b → Rise table a b → Rise table b' c → Rise table a c
  join a b b' c o x y j l g = go (ltb j b) refl
    where
      go : (t : Bool) → ltb j b ≡ t → key_at table j ≤ key_at table (j + 1)
      go true e = x j l (ltb-true j b e)
      go false e = y j (let z = ltb-false j b e in omega arith) g

  -- four parts side by side, i tokens of each
  pub record Sides (part i a b c d : ℕ) : Type 0 where
    pub within : i ≤ part
    pub one : Upward 0 i a
    pub two : Upward part (part + i) b
    pub three : Upward (2 * part) (2 * part + i) c
    pub four : Upward (3 * part) (3 * part + i) d

  -- what the numbers say, where columns have 32 bits
  module _ (cols : (j : ℕ) → (token_at table j).dst_col < 4294967296) where
    by_keys : NeverFalls table (places (length table)) → Rising table
    by_keys f i j l h = key_up _ _ _ _ (cols i) (up_to _ _ _ _ (f i j l h))

    -- a sorted table rises
    pub rising : sorted table ≡ true → Rising table
    rising e = by_keys (sorted_never table e)

    -- and one that rises from each token to the next is sorted
    module _ (to : ℕ) (last : to + 1 ≡ places (length table)) where
      sorted_if : Rise table 0 to → (o : Option ℕ) → FallSays table o → None ≡ o
      sorted_if r None f = refl
      sorted_if r (Some k) f =
          let e : k - 1 + 1 ≡ k = omega (arith, f.behind) in
          let h : key_at table (k - 1) ≤ key_at table k = subst (λ (m : ℕ). key_at table (k - 1) ≤ key_at table m) e (r (k - 1) (omega arith) (omega (arith, f.within, f.behind))) in
          impossible (sym (f.at_it (k - 1) e) ∙ not_before _ _ _ _ (up_key _ _ _ _ (cols (k - 1)) (cols k) h))

      never_falls : Rise table 0 to → None ≡ first_fall table
      never_falls r = sorted_if r (first_fall table) (says table)

      unsorted_if : (Rise table 0 to → ⊥) → (o : Option ℕ) → FallSays table o → false ≡ is_none o
      unsorted_if n None f = absurd (n (λ j l g. by_keys f j (j + 1) (omega arith) (omega (arith, last))))
      unsorted_if n (Some k) f = refl

      not_sorted : (Rise table 0 to → ⊥) → false ≡ sorted table
      not_sorted n = unsorted_if n (first_fall table) (says table)

      -- up to `mid`, and from there on
      module _ (mid : ℕ) (r : Bool) (h : mid ≤ to) (d : Settles (Rise table 0 mid) r) where
        pub by_parts : r ≡ false → false ≡ sorted table
        by_parts e = not_sorted (λ x. d.no e (λ j l g. x j l (omega arith)))

        by_rest_if : r ≡ true → (o : Option ℕ) → FallsBehind table mid to o → is_none o ≡ sorted table
        by_rest_if e None f = ap is_none (never_falls (join 0 mid mid to (omega arith) (d.yes e) f))
        by_rest_if e (Some k) f = not_sorted (λ x. falls_so mid to k f 0 (omega arith) x)

        pub by_rest : r ≡ true → (o : Option ℕ) → FallsBehind table mid to o → (t : Bool) → is_some o ≡ not t → t ≡ sorted table
        by_rest e o f true q = ap not (sym q) ∙ by_rest_if e o f
        by_rest e o f false q = ap not (sym q) ∙ by_rest_if e o f

  pub empty : places (length table) ≡ 0 → true ≡ sorted table
  empty e = empty_if (first_fall table) (says table)
    where
      empty_if : (o : Option ℕ) → FallSays table o → true ≡ is_none o
      empty_if None f = refl
      empty_if (Some k) f = absurd (omega (arith, f.within, e))

  -- the first token that falls
  module _ (cols : (j : ℕ) → (token_at table j).dst_col < 4294967296) (to : ℕ) (last : to + 1 ≡ places (length table)) where
    module _ (r k : ℕ) (f : FirstBehind table 0 to r) (s : FirstFall table k) where
      back : (n : ℕ) → 0 < n → n - 1 + 1 ≡ n
      back n h = omega arith

      not_past : k < r → ⊥
      not_past h =
          let e = back k s.behind in
          let up : key_at table (k - 1) ≤ key_at table k = subst (λ (m : ℕ). key_at table (k - 1) ≤ key_at table m) e (f.rise (k - 1) (omega arith) (omega (arith, s.behind))) in
          let z : true ≡ false = sym (s.at_it (k - 1) e) ∙ not_before _ _ _ _ (up_key _ _ _ _ (cols (k - 1)) (cols k) up) in
          impossible z

      not_before_it : r < k → ⊥
      not_before_it h =
          let up : key_at table (r - 1) ≤ key_at table r = key_up _ _ _ _ (cols (r - 1)) (up_to _ _ _ _ (s.before_it (r - 1) r (omega arith) h)) in
          omega (arith, f.falls)

      is_it : r ≡ k
      is_it = go (ltb k r) refl (ltb r k) refl
        where
          go : (a : Bool) → ltb k r ≡ a → (b : Bool) → ltb r k ≡ b → r ≡ k
          go true e b g = absurd (not_past (ltb-true k r e))
          go false e true g = absurd (not_before_it (ltb-true r k g))
          go false e false g = let x = ltb-false k r e in let y = ltb-false r k g in omega arith

    first_if : (r : ℕ) → FirstBehind table 0 to r → (o : Option ℕ) → FallSays table o → Some r ≡ o
    first_if r f None s = absurd (falls_so 0 to r f 0 (omega arith) (λ j l g. by_keys cols s j (j + 1) (omega arith) (omega (arith, last))))
    first_if r f (Some k) s = ap Some (is_it r k f s)

    pub first_is : (o : Option ℕ) → FallsBehind table 0 to o → o ≡ first_fall table
    first_is None f = never_falls cols to last f
    first_is (Some r) f = first_if r f (first_fall table) (says table)

  pub none_falls : sorted table ≡ true → None ≡ first_fall table
  none_falls e = by (first_fall table) e
    where
      by : (o : Option ℕ) → is_none o ≡ true → None ≡ o
      by None q = refl
      by (Some k) q = impossible (sym q)

  -- a table that is not sorted has a token
  pub some_token : sorted table ≡ false → 0 < places (length table)
  some_token e = go (ltb 0 (places (length table))) refl
    where
      go : (b : Bool) → ltb 0 (places (length table)) ≡ b → 0 < places (length table)
      go true g = ltb-true 0 (places (length table)) g
      go false g = impossible (empty (let z = ltb-false 0 (places (length table)) g in omega arith) ∙ e)
