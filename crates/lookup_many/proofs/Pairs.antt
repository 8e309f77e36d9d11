-- The list of what is found: place after place, then one list after another. Assumes nothing.
use mathlib.Core.Path.{◌≡◌, refl, sym, ◌∙◌, ap, subst}
use mathlib.Core.Bool.{Bool, true, false}
use mathlib.Core.List.{List, ◌++◌}
use Prim.Native.Nat.{ℕ, ◌<◌, ◌≤◌}
use native.Mathlib.Omega.{arith}
use lib.Dec.{eqb}
use lib.ListN.{length, take, drop, get_or, replicate}
use borrow.Author.Tests.{ne_eqb, eqb-true}
use Rattle.std.proofs.lemmas.List.{get_or-replicate, length-replicate, length-take-le, get_or_append_left, length-append, length-drop}
use Rattle.std.proofs.lemmas.Slice.{drop-append-drop}
use Rattle.std.specs.Prelude.{Option, Some, None}
use Rattle.list.specs.Pick.{pick}
use Rattle.lookup_many.specs.Places.{found_in, place_of, Filled}

-- of the first count places, k hold what is new, and the others what is old
pub record Partly (New Old : ℕ → ℕ → Type 0) (count k : ℕ) (before found : List ℕ) : Type 0 where
  pub within : k ≤ count
  pub room : count ≤ length before
  pub done : (j : ℕ) → j < k → New j (get_or found j 0)
  pub left : (j : ℕ) → k ≤ j → j < count → Old j (get_or found j 0)
  pub kept : drop count found ≡ drop count before
  pub sized : length found ≡ length before

-- v is put in every place of the first count
pub put_in_all : (P : ℕ → ℕ → Type 0) (count v : ℕ) (found new : List ℕ) → count ≤ length found → new ≡ replicate (length (take count found)) v
    → ((k : ℕ) → k < count → P k v) → Filled P count found (new ++ drop count found)
put_in_all P count v found new h e p =
    let l : length (take count found) ≡ count = length-take-le count found h in
    let n : length new ≡ count = ap length e ∙ length-replicate (length (take count found)) v ∙ l in
    record {
      each = λ k g.
          subst (P k)
          (sym (get_or_append_left new (drop count found) 0 k (omega arith) ∙ ap (λ (xs : List ℕ). get_or xs k 0) e ∙ get_or-replicate (length (take count found)) k v 0 (omega arith)))
          (p k g);
      kept = drop-append-drop count found new count (omega arith) n;
      sized = length-append new (drop count found) ∙ (let q = length-drop count found in omega arith);
    }

-- what is found stands in its place
pub placed : (o : Option ℕ) → ((j : ℕ) → o ≡ Some j → j < 4294967295) → found_in (place_of o) ≡ o
placed None small = refl
placed (Some i) small = let h = small i refl in rw (ne_eqb i 4294967295 (λ e. omega arith))

-- and the other way round: a place is what is found in it, put into a place
pub held_back : (n : ℕ) → n ≡ place_of (found_in n)
held_back n = go (eqb n 4294967295) refl
  where
    go : (b : Bool) → eqb n 4294967295 ≡ b → n ≡ place_of (pick b None (Some n))
    go true e = eqb-true n 4294967295 e
    go false e = refl
