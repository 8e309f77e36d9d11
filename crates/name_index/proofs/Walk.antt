-- The entries of a slot, from its latest back: the loop of `latest_same`. Assumes nothing.
use mathlib.Core.Path.{◌≡◌, refl, ap, sym, ◌∙◌}
use mathlib.Core.Bool.{Bool, true, false}
use mathlib.Core.List.{List}
use Prim.Native.Nat.{ℕ, zero, suc, ◌+◌, ◌≤◌, ◌<◌}
use native.Mathlib.Omega.{arith}
use lib.Dec.{eqb}
use lib.ListN.{get_or}
use borrow.Author.Tests.{eqb-true, eq-eqb}
use Rattle.list.specs.Same.{same}
use Rattle.list.proofs.Same.{same_is}
use Rattle.std.specs.Prelude.{Option, Some, None}
use Rattle.name_index.specs.Index.{slot_of, held, latest, latest_in, latest_same, Chained}
use Rattle.name_index.proofs.Latest.{latest_here, latest_back, latest_zero, latest_most, latest_last, latest_through}

-- one more than the entry, 0 for none
abbrev pub one_more : Option ℕ → ℕ
one_more None = 0
one_more (Some e) = suc e

more_held : (n : ℕ) → one_more (held n) ≡ n
more_held zero = refl
more_held (suc n) = refl

module _ (slots : ℕ) (names : ℕ → List ℕ) (name : List ℕ) where
  -- every entry of this name is at or before `behind`, and so is in its slot
  pub record Walking (total behind : ℕ) : Type 0 where
    pub most : behind ≤ total
    pub mine : (e : ℕ) → behind ≡ suc e → slot_of slots (names e) ≡ slot_of slots name
    pub is : latest_same names name total ≡ latest_same names name behind

  abbrev in_slot : ℕ → Bool
  in_slot e = eqb (slot_of slots (names e)) (slot_of slots name)

  -- equal bytes are in one slot
  through : (n : ℕ) → latest_same names name n ≡ latest_same names name (latest in_slot n)
  through = latest_through in_slot (λ (e : ℕ). same (names e) name) (λ e s. eq-eqb _ _ (ap (slot_of slots) (same_is (names e) name s)))

  from : (total n : ℕ) → n ≤ total → latest_same names name total ≡ latest_same names name n → Walking total (latest in_slot n)
  from total n h e =
      record {
        most = omega (arith, latest_most in_slot n);
        mine = λ i f. eqb-true _ _ (latest_last in_slot n i f).holds;
        is = e ∙ through n;
      }

  module _ (total : ℕ) (work : List ℕ) (c : Chained slots names total work) where
    pub begin : (slot : ℕ) → slot < slots → slot ≡ slot_of slots name → (o : Option ℕ) → o ≡ held (get_or work slot 0) → Walking total (one_more o)
    begin slot h e o f = rw (f, more_held (get_or work slot 0), c.heads slot h, e) (from total total (omega arith) refl)

    module _ (entry : ℕ) (w : Walking total (suc entry)) where
      pub inside : entry < total
      inside = omega (arith, w.most)

      pub found : same (names entry) name ≡ true → Some entry ≡ held (latest_same names name total)
      found s = ap held (sym (latest_here (λ (e : ℕ). same (names e) name) entry s) ∙ sym w.is)

      link : get_or work (slots + entry) 0 ≡ latest in_slot entry
      link = c.links entry inside ∙ ap (λ (s : ℕ). latest_in slots names s entry) (w.mine entry refl)

      module _ (o : Option ℕ) (f : o ≡ held (get_or work (slots + entry) 0)) where
        pub less : one_more o < suc entry
        less = rw (f, more_held (get_or work (slots + entry) 0)) (omega (arith, link, latest_most in_slot entry))

        pub goes_on : same (names entry) name ≡ false → Walking total (one_more o)
        goes_on s =
            rw (f, more_held (get_or work (slots + entry) 0), link)
            (from total entry (omega (arith, inside)) (w.is ∙ latest_back (λ (e : ℕ). same (names e) name) entry s))

    pub ended : Walking total 0 → None ≡ held (latest_same names name total)
    ended w = ap held (sym (latest_zero (λ (e : ℕ). same (names e) name)) ∙ sym w.is)
