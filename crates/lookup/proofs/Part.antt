-- A part of the table, from `from` up to `to`: what is found before `to`, from what is found before `from`. Assumes nothing.
use mathlib.Core.Path.{◌≡◌, refl, subst}
use mathlib.Core.Bool.{Bool, true, false}
use mathlib.Core.Logic.{inl, inr}
use mathlib.Core.List.{List}
use Rattle.std.specs.Prelude.{Option, Some, None}
use Prim.Native.Nat.{ℕ, ◌<◌, ◌≤◌}
use native.Mathlib.Omega.{arith}
use lib.Dec.{eqb, leb, ltb}
use borrow.Author.Tests.{eqb-true, leb-true, ltb-true, ltb-false}
use Rattle.list.proofs.Pick.{both_true}
use Rattle.token.specs.Table.{token_at}
use Rattle.lookup.specs.Lookup.{NotAfter, fits, best_of}
use Rattle.lookup.proofs.Best.{Among, among, one_among, past}

module _ (table : List ℕ) (line col : ℕ) where
  -- what the test says
  pub fits_says : (j : ℕ) → fits table line col j ≡ true → ((token_at table j).dst_line ≡ line) × ((token_at table j).dst_col ≤ col)
  fits_says j e =
      let b = both_true (eqb (token_at table j).dst_line line) (leb (token_at table j).dst_col col) e in
      (eqb-true (token_at table j).dst_line line b.0, leb-true (token_at table j).dst_col col b.1)

  module _ (from to : ℕ) (rises : from ≤ to) where
    -- what holds before `from`, and from there on
    split : (P : ℕ → Type 0) → ((j : ℕ) → j < from → P j) → ((j : ℕ) → from ≤ j → j < to → P j) → (j : ℕ) → j < to → P j
    split P f g j h = go (ltb j from) refl
      where
        go : (t : Bool) → ltb j from ≡ t → P j
        go true e = f j (ltb-true j from e)
        go false e = g j (ltb-false j from e) h

    is : (o : Option ℕ) → Among table line col to o → best_of table line col to ≡ o
    is o a = one_among table line col to (best_of table line col to) o (among table line col to) a

    -- nothing in the part fits
    module _ (unfit : (j : ℕ) → from ≤ j → j < to → fits table line col j ≡ true → ⊥) where
      stays : (o : Option ℕ) → Among table line col from o → Among table line col to o
      stays None a = split (λ j. fits table line col j ≡ true → ⊥) a unfit
      stays (Some i) a =
          (omega (arith, a.0), (a.1.0, split (λ j. fits table line col j ≡ true → NotAfter table j i) a.1.1 (λ j l h f. absurd (unfit j l h f))))

      pub passed : best_of table line col to ≡ best_of table line col from
      passed = is (best_of table line col from) (stays (best_of table line col from) (among table line col from))

    -- k is the best of the part
    module _ (k : ℕ) (begins : from ≤ k) (ends : k < to) (f : fits table line col k ≡ true)
        (most : (j : ℕ) → from ≤ j → j < to → fits table line col j ≡ true → NotAfter table j k) where
      pub first_found : best_of table line col from ≡ None → best_of table line col to ≡ Some k
      first_found e =
          let a = subst (Among table line col from) e (among table line col from) in
          is (Some k) (ends, (f, split (λ j. fits table line col j ≡ true → NotAfter table j k) (λ j l g. absurd (a j l g)) most))

      module _ (i : ℕ) (e : best_of table line col from ≡ Some i) where
        before : Among table line col from (Some i)
        before = subst (Among table line col from) e (among table line col from)

        pub later_found : (token_at table i).dst_col ≤ (token_at table k).dst_col → best_of table line col to ≡ Some k
        later_found c =
            is (Some k)
            (ends, (f, split (λ j. fits table line col j ≡ true → NotAfter table j k) (λ j l g. past table line col j i k c (omega arith) (before.1.1 j l g)) most))

        less : (j : ℕ) → (token_at table k).dst_col < (token_at table i).dst_col → NotAfter table j k → NotAfter table j i
        less j c (inl l) = inl (omega arith)
        less j c (inr q) = inl (omega (arith, q.0))

        pub earlier_kept : (token_at table k).dst_col < (token_at table i).dst_col → best_of table line col to ≡ Some i
        earlier_kept c =
            is (Some i)
            (omega (arith, before.0), (before.1.0, split (λ j. fits table line col j ≡ true → NotAfter table j i) before.1.1 (λ j l h g. less j c (most j l h g))))
