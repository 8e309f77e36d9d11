-- The definition that computes gives the best token; there is one best token, and one answer. Assumes nothing.
use mathlib.Core.Path.{◌≡◌, refl, sym, ◌∙◌, ap, subst}
use mathlib.Core.Bool.{Bool, true, false}
use mathlib.Core.Logic.{inl, inr, ⊎_elim}
use mathlib.Core.List.{List}
use Rattle.std.specs.Prelude.{Option, Some, None, Result, Ok, Err}
use Prim.Native.Nat.{ℕ, zero, suc, ◌<◌, ◌≤◌}
use native.Mathlib.Omega.{arith}
use native.Mathlib.Nat.{eq-or-lt_of_le}
use lib.Dec.{eqb, leb, ltb}
use lib.ListN.{length}
use borrow.Author.Count.{below_more}
use borrow.Author.Tests.{eqb-true, eq-eqb, leb-true, le-leb, ltb-true, ltb-false}
use Rattle.list.proofs.Pick.{both_true}
use Rattle.list.specs.Pick.{pick}
use Rattle.code.specs.declared.Code.{Code}
use Rattle.token.specs.Table.{places, bad_table, token_at}
use Rattle.lookup.specs.Lookup.{Fits, NotAfter, Best, Looks, fits, later, best_of, lookup_of}

never : {A : Type 0} → true ≡ false → A
never e = let z : ◌≡◌ {A = ℕ} 0 1 = cc in absurd (omega arith)

-- what holds below n and at n holds below its successor
upto : (P : ℕ → Type 0) (n : ℕ) → ((j : ℕ) → j < n → P j) → P n → (j : ℕ) → j < suc n → P j
upto P n f g j h = below_more P n f g j (omega arith)

module _ (table : List ℕ) (line col : ℕ) where
  abbrev column : ℕ → ℕ
  column i = (token_at table i).dst_col

  -- the test and the property
  pub holds : (i : ℕ) → Fits table line col i → fits table line col i ≡ true
  holds i f = rw (eq-eqb (token_at table i).dst_line line f.on) (le-leb (column i) col f.before)

  pub held : (i : ℕ) → i < places (length table) → fits table line col i ≡ true → Fits table line col i
  held i h e =
      let b = both_true (eqb (token_at table i).dst_line line) (leb (column i) col) e in
      record { within = h; on = eqb-true (token_at table i).dst_line line b.0; before = leb-true (column i) col b.1 }

  -- what an answer says of the first n tokens
  abbrev pub Among : ℕ → Option ℕ → Type 0
  Among n None = (j : ℕ) → j < n → fits table line col j ≡ true → ⊥
  Among n (Some i) = (i < n) × ((fits table line col i ≡ true) × ((j : ℕ) → j < n → fits table line col j ≡ true → NotAfter table j i))

  -- what does not come after i does not come after a later k whose column is no less
  pub past : (j i k : ℕ) → column i ≤ column k → j < k → NotAfter table j i → NotAfter table j k
  past j i k c h (inl l) = inl (omega arith)
  past j i k c h (inr e) = ⊎_elim (λ q. inr (e.0 ∙ q, omega arith)) (λ l. inl (omega (arith, e.0))) (eq-or-lt_of_le c)

  -- the next token fits, and something was found before: c is the test of their columns
  against : (n i : ℕ) → fits table line col n ≡ true → Among n (Some i) → (c : Bool) → ltb (column n) (column i) ≡ c → Among (suc n) (pick c (Some i) (Some n))
  against n i f a true e =
      (omega (arith, a.0), (a.1.0, upto _ n a.1.1 (λ _. inl (ltb-true (column n) (column i) e))))
  against n i f a false e =
      (omega arith, (f, upto _ n (λ j h g. past j i n (ltb-false (column n) (column i) e) h (a.1.1 j h g)) (λ _. inr (refl, omega arith))))

  step : (n : ℕ) (o : Option ℕ) (b : Bool) → fits table line col n ≡ b → Among n o → Among (suc n) (pick b (later table n o) o)
  step n None true f a = (omega arith, (f, upto _ n (λ j h g. absurd (a j h g)) (λ _. inr (refl, omega arith))))
  step n (Some i) true f a = against n i f a (ltb (column n) (column i)) refl
  step n None false f a = upto _ n a (λ g. never (sym g ∙ f))
  step n (Some i) false f a = (omega (arith, a.0), (a.1.0, upto _ n a.1.1 (λ g. never (sym g ∙ f))))

  pub among : (n : ℕ) → Among n (best_of table line col n)
  unfolding best_of
  among zero = λ j h g. omega arith
  among (suc n) = step n (best_of table line col n) (fits table line col n) refl (among n)

  -- what is found among the first n is one of them
  pub among_first : (n i : ℕ) → best_of table line col n ≡ Some i → i < n
  among_first n i e = (subst (Among n) e (among n)).0

  of : (o : Option ℕ) → lookup_of table line col ≡ o → Among (places (length table)) o
  of o e = subst (Among (places (length table))) e (among (places (length table)))

  -- what is computed is the best
  pub best : (i : ℕ) → lookup_of table line col ≡ Some i → Best table line col i
  best i e =
      let a = of (Some i) e in
      record { fits = held i a.0 a.1.0; most = λ j f. a.1.1 j f.within (holds j f) }

  pub nothing : lookup_of table line col ≡ None → (j : ℕ) → Fits table line col j → ⊥
  nothing e j f = of None e j f.within (holds j f)

  -- neither comes after the other: they are the same
  same : (i j : ℕ) → NotAfter table i j → NotAfter table j i → i ≡ j
  same i j (inl x) (inl y) = absurd (omega arith)
  same i j (inl x) (inr y) = absurd (omega (arith, y.0))
  same i j (inr x) (inl y) = absurd (omega (arith, x.0))
  same i j (inr x) (inr y) = omega (arith, x.1, y.1)

  -- there is one best
  pub only : (i j : ℕ) → Best table line col i → Best table line col j → i ≡ j
  only i j a b = same i j (b.most i a.fits) (a.most j b.fits)

  -- and one among the first n
  pub one_among : (n : ℕ) (o p : Option ℕ) → Among n o → Among n p → o ≡ p
  one_among n None None a b = refl
  one_among n None (Some j) a b = absurd (a j b.0 b.1.0)
  one_among n (Some i) None a b = absurd (b i a.0 a.1.0)
  one_among n (Some i) (Some j) a b = ap Some (same i j (b.1.1 i a.0 a.1.0) (a.1.1 j b.0 b.1.0))

  -- the best is what is computed
  pub is_best : (i : ℕ) → Best table line col i → lookup_of table line col ≡ Some i
  is_best i b =
      one_among (places (length table)) (lookup_of table line col) (Some i) (among (places (length table)))
      (b.fits.within, (holds i b.fits, λ j h g. b.most j (held j h g)))

  pub is_none : ((j : ℕ) → Fits table line col j → ⊥) → lookup_of table line col ≡ None
  is_none n =
      one_among (places (length table)) (lookup_of table line col) None (among (places (length table))) (λ j h g. n j (held j h g))

  -- the computed answer is one
  pub looks : bad_table (length table) ≡ false → (o : Option ℕ) → lookup_of table line col ≡ o → Looks table line col (Ok o)
  looks f None e = ((λ t. never (sym t ∙ f)), nothing e)
  looks f (Some i) e = ((λ t. never (sym t ∙ f)), best i e)

  pub looked : bad_table (length table) ≡ false → (o : Option ℕ) → o ≡ lookup_of table line col → Looks table line col (Ok o)
  looked f o e = looks f o (sym e)

  abbrev pub answer : Bool → Result (Option ℕ) Code
  answer bad = pick bad (Err Code.BadTable) (Ok (lookup_of table line col))

  computed_if : (b : Bool) → bad_table (length table) ≡ b → Looks table line col (answer b)
  computed_if true e = (e, refl)
  computed_if false e = looks e (lookup_of table line col) refl

  pub computed : Looks table line col (answer (bad_table (length table)))
  computed = computed_if (bad_table (length table)) refl

  -- there is one answer
  pub one_answer : (r s : Result (Option ℕ) Code) → Looks table line col r → Looks table line col s → r ≡ s
  one_answer (Ok (Some i)) (Ok (Some j)) a b = ap (λ (k : ℕ). Ok (Some k)) (only i j a.1 b.1)
  one_answer (Ok (Some i)) (Ok None) a b = absurd (b.1 i a.1.fits)
  one_answer (Ok (Some i)) (Err d) a b = absurd (a.0 b.0)
  one_answer (Ok None) (Ok (Some j)) a b = absurd (a.1 j b.1.fits)
  one_answer (Ok None) (Ok None) a b = refl
  one_answer (Ok None) (Err d) a b = absurd (a.0 b.0)
  one_answer (Err c) (Ok (Some j)) a b = absurd (b.0 a.0)
  one_answer (Err c) (Ok None) a b = absurd (b.0 a.0)
  one_answer (Err c) (Err d) a b = ap Err (a.1 ∙ sym b.1)

  -- so the answer is the computed one
  pub answered : (r : Result (Option ℕ) Code) → Looks table line col r → r ≡ answer (bad_table (length table))
  answered r a = one_answer r (answer (bad_table (length table))) a computed
