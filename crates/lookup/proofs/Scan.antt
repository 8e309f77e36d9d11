-- The scan: at turn i the best of the first i tokens is kept, with its column. Assumes nothing.
use mathlib.Core.Path.{◌≡◌, refl, sym, ◌∙◌, ap}
use mathlib.Core.Bool.{Bool, true, false}
use mathlib.Core.List.{List}
use Rattle.std.specs.Prelude.{Option, Some, None}
use Prim.Native.Nat.{ℕ, ◌+◌, ◌<◌}
use native.Mathlib.Omega.{arith}
use native.Mathlib.Numerals.{add-one}
use lib.Dec.{eqb, leb, ltb}
use lib.ListN.{length}
use borrow.Author.Tests.{le-leb, lt-leb, ltb-true, ltb-false}
use Rattle.list.specs.Pick.{pick, both}
use Rattle.token.proofs.Whole.{few}
use Rattle.token.specs.Table.{places, bad_table, token_at}
use Rattle.token.specs.declared.Token.{Token}
use Rattle.lookup.specs.Lookup.{fits, later, best_of}
use Rattle.lookup.specs.Parts.{Between}
use Rattle.lookup.proofs.Best.{among_first}

-- the test of a token as the code makes it
abbrev pub takes_of : Token → ℕ → ℕ → ℕ → Bool
takes_of t line col least = both (eqb t.dst_line line) (both (leb t.dst_col col) (leb least t.dst_col))

-- the column that the next token must reach
abbrev least_of : List ℕ → Option ℕ → ℕ
least_of table None = 0
least_of table (Some j) = (token_at table j).dst_col

taken : (a b c : Bool) (x y : Option ℕ) → pick (both a b) (pick c x y) y ≡ pick (both a (both b c)) x y
taken true true c x y = refl
taken true false c x y = refl
taken false b c x y = refl

module _ (table : List ℕ) where
  later_if : (i j : ℕ) (t : Bool) → ltb (token_at table i).dst_col (token_at table j).dst_col ≡ t
      → pick t (Some j) (Some i) ≡ pick (leb (token_at table j).dst_col (token_at table i).dst_col) (Some i) (Some j)
  later_if i j true e = rw (lt-leb (token_at table j).dst_col (token_at table i).dst_col (ltb-true (token_at table i).dst_col (token_at table j).dst_col e))
  later_if i j false e = rw (le-leb (token_at table j).dst_col (token_at table i).dst_col (ltb-false (token_at table i).dst_col (token_at table j).dst_col e))

  later_is : (i : ℕ) (o : Option ℕ) → later table i o ≡ pick (leb (least_of table o) (token_at table i).dst_col) (Some i) o
  later_is i None = rw (le-leb 0 (token_at table i).dst_col (omega arith))
  later_is i (Some j) = later_if i j (ltb (token_at table i).dst_col (token_at table j).dst_col) refl

-- the whole table: n tokens
pub whole : (table : List ℕ) (n : ℕ) → bad_table (length table) ≡ false → n ≡ places (length table) → Between table 0 n
whole table n good en = record { good = good; rises = omega arith; within = omega (arith, en) }

module _ (table : List ℕ) (line col : ℕ) where
  -- one more token
  next : (i : ℕ)
      → best_of table line col (i + 1) ≡ pick (takes_of (token_at table i) line col (least_of table (best_of table line col i))) (Some i) (best_of table line col i)
  unfolding best_of
  next i =
      let o = best_of table line col i in
      let u = token_at table i in
      rw (add-one i)
      (ap (λ (p : Option ℕ). pick (fits table line col i) p o) (later_is table i o)
      ∙ taken (eqb u.dst_line line) (leb u.dst_col col) (leb (least_of table o) u.dst_col) (Some i) o)

  pub record Scanned (best : Option ℕ) (least i : ℕ) : Type 0 where
    pub found : best ≡ best_of table line col i
    pub reaches : least ≡ least_of table best

  -- what is found is one of the tokens before `from`
  module _ (from to : ℕ) (b : Between table from to) (j : ℕ) (e : best_of table line col from ≡ Some j) where
    pub index_small : j < 4294967295
    index_small = omega (arith, among_first table line col from j e, b.rises, b.within, few (length table) b.good)

    pub found_inside : j < places (length table)
    found_inside = omega (arith, among_first table line col from j e, b.rises, b.within)

  pub from_nothing : None ≡ best_of table line col 0
  unfolding best_of
  from_nothing = refl

  module _ (best : Option ℕ) (least i : ℕ) (f : Scanned best least i) where
    then : (c : Bool) → c ≡ takes_of (token_at table i) line col least → best_of table line col (i + 1) ≡ pick c (Some i) best
    then c ec =
        next i
        ∙ ap (λ (o : Option ℕ). pick (takes_of (token_at table i) line col (least_of table o)) (Some i) o) (sym f.found)
        ∙ ap (λ (d : Bool). pick d (Some i) best) (ap (takes_of (token_at table i) line col) (sym f.reaches) ∙ sym ec)

    -- t is the token as it was read
    pub takes : true ≡ takes_of (token_at table i) line col least → (t : Token) → t ≡ token_at table i → Scanned (Some i) t.dst_col (i + 1)
    takes e t et = record { found = sym (then true e); reaches = ap (λ (u : Token). u.dst_col) et }

    pub leaves : false ≡ takes_of (token_at table i) line col least → Scanned best least (i + 1)
    leaves e = record { found = sym (then false e); reaches = f.reaches }
