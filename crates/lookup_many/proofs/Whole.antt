-- A whole call: refused, or each pair answered by what is held at the end; there is one answer, and it is that of one lookup after
-- another. Assumes nothing.
use mathlib.Core.Path.{◌≡◌, refl, sym, ◌∙◌, ap, subst}
use mathlib.Core.Bool.{Bool, true, false}
use mathlib.Core.Logic.{inl, inr}
use mathlib.Core.List.{List}
use Prim.Native.Nat.{ℕ, ◌+◌, ◌-◌, ◌≤◌, ◌<◌}
use native.Mathlib.Omega.{arith}
use lib.Dec.{ltb}
use lib.ListN.{length, drop, get_or}
use lib.Seq.{ext_get_or, get_or-drop}
use borrow.Author.Tests.{ltb-true, ltb-false}
use Rattle.std.specs.Prelude.{Option, Some, None, Result, Ok, Err, ⊤}
use Rattle.code.specs.Code.{answer_of}
use Rattle.code.specs.declared.Code.{Code}
use Rattle.token.specs.Table.{places, bad_table}
use Rattle.token.proofs.Whole.{few}
use Rattle.lookup.specs.Lookup.{Best, Looks, lookup_of, found_out}
use Rattle.lookup.proofs.Best as best
use Rattle.lookup_many.specs.Many.{pairs, line_of, col_of, many_to, Says, filled, LooksMany, Told}
use Rattle.lookup_many.specs.Blocks.{Held}
use Rattle.lookup_many.proofs.Tests.{done_is, opens}

module _ (table positions found : List ℕ) where
  module _ (e : Ok tt ≡ many_to table positions (length found)) where
    pub ready : (bad_table (length table) ≡ false) × (pairs (length positions) ≤ length found)
    ready = opens table positions (length found) e

    pub answered : (found' : List ℕ) → Held table positions (places (length table)) found found' → LooksMany table positions found (Ok tt) found'
    answered found' h =
        record {
          says = e;
          each = λ k l.
              record {
                found = Ok (lookup_of table (line_of positions k) (col_of positions k));
                looks = best.looks table (line_of positions k) (col_of positions k) ready.0 (lookup_of table (line_of positions k) (col_of positions k)) refl;
                says = h.each k l;
              };
          kept = h.kept;
          sized = h.sized;
        }

-- one lookup has one number
pub one_says : (table : List ℕ) (line col m n : ℕ) → Says table line col m → Says table line col n → m ≡ n
one_says table line col m n a b = a.says ∙ ap (λ (f : Result (Option ℕ) Code). (found_out f).number) (best.one_answer table line col a.found b.found a.looks b.looks) ∙ sym b.says

module _ (table positions found : List ℕ) where
  -- two answers have the same numbers in each place
  module _ (r s : Result ⊤ Code) (x y : List ℕ) (a : LooksMany table positions found r x) (b : LooksMany table positions found s y) where
    same_code : r ≡ s
    same_code = a.says ∙ sym b.says

    abbrev n : ℕ
    n = filled r positions

    kept : drop n x ≡ drop n y
    kept = a.kept ∙ sym (subst (λ (c : Result ⊤ Code). drop (filled c positions) y ≡ drop (filled c positions) found) (sym same_code) b.kept)

    past : (k : ℕ) → n ≤ k → get_or x k 0 ≡ get_or y k 0
    past k h =
        let e : n + (k - n) ≡ k = omega arith in
        ap (λ (m : ℕ). get_or x m 0) (sym e)
        ∙ sym (get_or-drop n x (k - n) 0)
        ∙ ap (λ (l : List ℕ). get_or l (k - n) 0) kept
        ∙ get_or-drop n y (k - n) 0
        ∙ ap (λ (m : ℕ). get_or y m 0) e

    place : (k : ℕ) → get_or x k 0 ≡ get_or y k 0
    place k = go (ltb k n) refl
      where
        go : (t : Bool) → ltb k n ≡ t → get_or x k 0 ≡ get_or y k 0
        go true e =
            one_says table (line_of positions k) (col_of positions k) (get_or x k 0) (get_or y k 0) (a.each k (ltb-true k n e))
            (b.each k (subst (λ (c : Result ⊤ Code). k < filled c positions) same_code (ltb-true k n e)))
        go false e = past k (ltb-false k n e)

    pub one_answer : (r ≡ s) × (x ≡ y)
    one_answer = (same_code, ext_get_or 0 x y (a.sized ∙ sym b.sized) (λ k h. place k))

  -- where it is done, a lookup of a pair is done too, and its place holds the number
  module _ (r : Result ⊤ Code) (x : List ℕ) (a : LooksMany table positions found r x) (done : (answer_of r).code ≡ 0) (k : ℕ) (h : k < pairs (length positions)) where
    it : LooksMany table positions found (Ok tt) x
    it = subst (λ (s : Result ⊤ Code). LooksMany table positions found s x) (done_is r done) a

    abbrev Finds : Result (Option ℕ) Code → Type 0
    Finds f = Looks table (line_of positions k) (col_of positions k) f

    good : bad_table (length table) ≡ false
    good = (ready table positions found it.says).0

    finds : (f : Result (Option ℕ) Code) → Finds f → (found_out f).code ≡ 0
    finds (Ok (Some i)) l = refl
    finds (Ok None) l = refl
    finds (Err c) l = absurd (let e = sym l.0 ∙ good in cc)

    pub one_by_one : (f : Result (Option ℕ) Code) → Finds f → ((found_out f).code ≡ 0) × ((found_out f).number ≡ get_or x k 0)
    one_by_one f l = (
      finds f l,
      one_says table (line_of positions k) (col_of positions k) (found_out f).number (get_or x k 0) (record { found = f; looks = l; says = refl }) (it.each k h),
    )

    told_by : (n : ℕ) (f : Result (Option ℕ) Code) → Finds f → n ≡ (found_out f).number → Told table (line_of positions k) (col_of positions k) n
    told_by n (Ok (Some i)) l e =
        inr (
          (let h = few (length table) good in let g = l.1.fits.within in omega (arith, e)),
          subst (Best table (line_of positions k) (col_of positions k)) (sym e) l.1,
        )
    told_by n (Ok None) l e = inl (e, l.1)
    told_by n (Err c) l e = absurd (let q = sym l.0 ∙ good in cc)

    pub told : Told table (line_of positions k) (col_of positions k) (get_or x k 0)
    told = let s = it.each k h in told_by (get_or x k 0) s.found s.looks s.says
