-- A block: how it is found, and what a position takes from it. Assumes nothing.
use mathlib.Core.Path.{◌≡◌, sym, ◌∙◌, ap, subst}
use mathlib.Core.Bool.{true}
use mathlib.Core.Logic.{◌⊎◌, inl, inr}
use mathlib.Core.List.{List}
use Rattle.std.specs.Prelude.{Option, Some, None}
use Prim.Native.Nat.{ℕ, ◌+◌, ◌<◌, ◌≤◌}
use native.Mathlib.Omega.{arith}
use native.Mathlib.Nat.{eq-or-lt_of_le}
use borrow.Author.Count.{below_more}
use borrow.Author.Tests.{eq-eqb, le-leb}
use Rattle.token.specs.Table.{token_at}
use Rattle.order.specs.Keys.{key_of, key_at}
use Rattle.lookup.specs.Lookup.{NotAfter, fits, best_of}
use Rattle.lookup.specs.Parts.{Between}
use Rattle.lookup.proofs.Best.{Among, among}
use Rattle.lookup.proofs.Part.{fits_says, passed, first_found, later_found, earlier_kept}
use Rattle.lookup_many.specs.Blocks.{Spans}
use Rattle.lookup_many.specs.declared.Block.{Block}

-- ---- finding it: at turn i, of the tokens from `from` up to i
module _ (table : List ℕ) (from to : ℕ) where
  pub record Spanned (least most last i : ℕ) : Type 0 where
    pub within : i ≤ to
    pub begins : from ≤ last
    pub ends : last < i
    pub at : most ≡ key_at table last
    pub lowest : (j : ℕ) → from ≤ j → j < i → least ≤ key_at table j
    pub highest : (j : ℕ) → from ≤ j → j < i → (key_at table j < most) ⊎ ((key_at table j ≡ most) × (j ≤ last))

  -- the first token alone
  pub first : from < to → (p : ℕ) → p ≡ key_at table from → Spanned p p from (from + 1)
  first h p e =
      record {
        within = omega arith;
        begins = omega arith;
        ends = omega arith;
        at = e;
        lowest = λ j l g. (let q : j ≡ from = omega arith in rw (q, e) (omega arith));
        highest = λ j l g. (let q : j ≡ from = omega arith in inr (ap (key_at table) q ∙ sym e, omega arith));
      }

  module _ (least most last i : ℕ) (s : Spanned least most last i) where
    -- p is where the next token stands
    module _ (h : i < to) (p : ℕ) (ep : p ≡ key_at table i) (least' : ℕ) (low : least' ≤ least) (own : least' ≤ p) where
      lower : (j : ℕ) → from ≤ j → j < i + 1 → least' ≤ key_at table j
      lower j l g =
          below_more (λ (k : ℕ). from ≤ k → least' ≤ key_at table k) i (λ k a b. (let z = s.lowest k b a in omega arith)) (λ _. omega (arith, ep)) j g l

      higher : most ≤ p → (j : ℕ) → from ≤ j → j < i → (key_at table j < most) ⊎ ((key_at table j ≡ most) × (j ≤ last)) → (key_at table j < p) ⊎ ((key_at table j ≡ p) × (j ≤ i))
      higher m j l g (inl a) = inl (omega arith)
      higher m j l g (inr a) = go (eq-or-lt_of_le m)
        where
          go : (most ≡ p) ⊎ (most < p) → (key_at table j < p) ⊎ ((key_at table j ≡ p) × (j ≤ i))
          go (inl q) = inr (a.0 ∙ q, omega arith)
          go (inr q) = inl (omega (arith, a.0))

      pub takes : most ≤ p → Spanned least' p i (i + 1)
      takes m =
          record {
            within = omega arith;
            begins = omega (arith, s.begins, s.ends);
            ends = omega arith;
            at = ep;
            lowest = lower;
            highest = λ j l g.
                below_more (λ (k : ℕ). from ≤ k → (key_at table k < p) ⊎ ((key_at table k ≡ p) × (k ≤ i))) i (λ k a b. higher m k b a (s.highest k b a))
                (λ _. inr (sym ep, omega arith)) j g l;
          }

-- ---- what a position takes from it; found is what was found before
module _ (table : List ℕ) (line col from to : ℕ) (b : Block) (part : Between table from to) (s : Spans table from to b) (found : Option ℕ)
    (ef : found ≡ best_of table line col from) where
  -- where a token that fits stands
  stands : (j : ℕ) → fits table line col j ≡ true → (key_of line 0 ≤ key_at table j) × (key_at table j ≤ key_of line col)
  stands j f = let q = fits_says table line col j f in (omega (arith, q.0, q.1), omega (arith, q.0, q.1))

  pub all_after : key_of line col < b.least → found ≡ best_of table line col to
  all_after h =
      ef ∙ sym (passed table line col from to part.rises (λ j l g f. (let z = stands j f in let y = s.lowest j l g in omega (arith, z.1))))

  at_most : (j : ℕ) → from ≤ j → j < to → key_at table j ≤ b.most
  at_most j l g = go (s.highest j l g)
    where
      go : (key_at table j < b.most) ⊎ ((key_at table j ≡ b.most) × (j ≤ b.last)) → key_at table j ≤ b.most
      go (inl a) = omega arith
      go (inr a) = omega (arith, a.0)

  pub all_before : b.most < key_of line 0 → found ≡ best_of table line col to
  all_before h =
      ef ∙ sym (passed table line col from to part.rises (λ j l g f. (let z = stands j f in let y = at_most j l g in omega (arith, z.0))))

  -- the block's greatest position is on the asked line, and not past the asked column
  module _ (on : key_of line 0 ≤ b.most) (up : b.most ≤ key_of line col) (small : col < 4294967296) (cols : (j : ℕ) → (token_at table j).dst_col < 4294967296) where
    last_line : (token_at table b.last).dst_line ≡ line
    last_line = let z = cols b.last in omega (arith, s.at)

    last_col : (token_at table b.last).dst_col ≤ col
    last_col = omega (arith, s.at, last_line)

    last_fits : fits table line col b.last ≡ true
    last_fits = rw (eq-eqb (token_at table b.last).dst_line line last_line) (le-leb (token_at table b.last).dst_col col last_col)

    by_column : (j : ℕ) → (token_at table j).dst_line ≡ line → (key_at table j < b.most) ⊎ ((key_at table j ≡ b.most) × (j ≤ b.last)) → NotAfter table j b.last
    by_column j e (inl a) = inl (omega (arith, e, s.at, last_line))
    by_column j e (inr a) = inr (let q : (token_at table j).dst_col ≡ (token_at table b.last).dst_col = omega (arith, e, a.0, s.at, last_line) in q, a.1)

    last_best : (j : ℕ) → from ≤ j → j < to → fits table line col j ≡ true → NotAfter table j b.last
    last_best j l g f = by_column j (fits_says table line col j f).0 (s.highest j l g)

    pub found_first : found ≡ None → Some b.last ≡ best_of table line col to
    found_first e = sym (first_found table line col from to part.rises b.last s.begins s.ends last_fits last_best (sym ef ∙ e))

    module _ (i : ℕ) (is : found ≡ Some i) where
      was : best_of table line col from ≡ Some i
      was = sym ef ∙ is

      on_line : (token_at table i).dst_line ≡ line
      on_line = (fits_says table line col i (subst (Among table line col from) was (among table line col from)).1.0).0

      pub keeps_earlier : b.most < key_at table i → found ≡ best_of table line col to
      keeps_earlier h =
          is ∙ sym (earlier_kept table line col from to part.rises b.last s.begins s.ends last_fits last_best i was (omega (arith, s.at, last_line, on_line)))

      pub takes_later : key_at table i ≤ b.most → Some b.last ≡ best_of table line col to
      takes_later h =
          sym (later_found table line col from to part.rises b.last s.begins s.ends last_fits last_best i was (omega (arith, s.at, last_line, on_line)))
