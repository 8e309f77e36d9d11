-- The law of halving. Assumes nothing.
use mathlib.Core.Path.{◌≡◌, refl, sym, ◌∙◌}
use mathlib.Core.Bool.{Bool, true, false}
use mathlib.Core.Logic.{◌⊎◌, inl, inr}
use mathlib.Core.List.{List}
use Prim.Native.Nat.{ℕ, ◌<◌, ◌≤◌}
use native.Mathlib.Omega.{arith}
use native.Mathlib.Nat.{eq-or-lt_of_le}
use lib.Dec.{ltb}
use lib.ListN.{length}
use borrow.Author.Tests.{ltb-true, ltb-false}
use Rattle.token.specs.Table.{places, token_at}
use Rattle.order.specs.Order.{NeverFalls}
use Rattle.order.proofs.Before.{impossible, UpTo, up_to, not_before}
use Rattle.order.proofs.Falls.{sorted_never}
use Rattle.lookup.specs.Lookup.{Fits, NotAfter}
use Rattle.halving.specs.Law.{LastUpTo, Halves, HalvingLaw}

module _ (table : List ℕ) (line col i : ℕ) (rises : NeverFalls table (places (length table))) (l : LastUpTo table line col i) where
  abbrev line_at : ℕ → ℕ
  line_at j = (token_at table j).dst_line

  abbrev col_at : ℕ → ℕ
  col_at j = (token_at table j).dst_col

  -- it is at or before the position
  it_up : UpTo (line_at i) (col_at i) line col
  it_up = up_to line col (line_at i) (col_at i) l.up_to

  module _ (j : ℕ) (f : Fits table line col j) where
    -- a token that fits is none of the later ones
    not_later : j ≤ i
    not_later = by (ltb i j) refl
      where
        by : (b : Bool) → ltb i j ≡ b → j ≤ i
        by true e = impossible (sym (l.last j (ltb-true i j e) f.within) ∙ not_before line col (line_at j) (col_at j) (inr (f.on, f.before)))
        by false e = ltb-false i j e

    -- so it is at or before the last
    up : UpTo (line_at j) (col_at j) (line_at i) (col_at i)
    up = up_to (line_at i) (col_at i) (line_at j) (col_at j) (rises j i not_later l.within)

    on_its_line : UpTo (line_at j) (col_at j) (line_at i) (col_at i) → UpTo (line_at i) (col_at i) line col → line_at i ≡ line
    on_its_line (inl x) (inl y) = absurd (omega (arith, f.on))
    on_its_line (inl x) (inr y) = y.0
    on_its_line (inr x) y = sym x.0 ∙ f.on

    pub its_line : line_at i ≡ line
    its_line = on_its_line up it_up

    not_after : line_at i ≡ line → UpTo (line_at j) (col_at j) (line_at i) (col_at i) → NotAfter table j i
    not_after e (inl x) = absurd (omega (arith, f.on, e))
    not_after e (inr x) = by (eq-or-lt_of_le x.1)
      where
        by : (col_at j ≡ col_at i) ⊎ (col_at j < col_at i) → NotAfter table j i
        by (inl q) = inr (q, not_later)
        by (inr h) = inl h

  fits_it : line_at i ≡ line → UpTo (line_at i) (col_at i) line col → Fits table line col i
  fits_it e (inl x) = absurd (omega (arith, e))
  fits_it e (inr x) = record { within = l.within; on = e; before = x.1 }

  pub halves : Halves table line col i
  halves =
      record {
        best = λ e. record { fits = fits_it e it_up; most = λ j f. not_after j f e (up j f) };
        none = λ ne j f. ne (its_line j f);
      }

-- in a sorted table the last token at or before a position, if it is on the asked line, is the best; else none fits
pub halving_law : HalvingLaw
halving_law table line col i e l = halves table line col i (sorted_never table e) l
