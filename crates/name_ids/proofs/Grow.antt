-- The added names as they grow, and the id that each branch gives. Assumes nothing.
use mathlib.Core.Path.{◌≡◌, refl, ap, sym}
use mathlib.Core.Bool.{Bool, true, false}
use mathlib.Core.Logic.{◌⊎◌, inl, inr}
use mathlib.Core.List.{List, [], ◌∷◌, ◌++◌}
use Rattle.std.specs.Prelude.{Option, None, Some}
use Prim.Native.Nat.{ℕ, ◌+◌, ◌≤◌, ◌<◌}
use native.Mathlib.Omega.{arith}
use lib.Dec.{ltb}
use lib.ListN.{length, get_or, length-append, get_or-append}
use lib.Seq.{get_or-append_seam}
use borrow.Author.Tests.{ltb-true, ltb-false, lt-ltb, le-ltb}
use Rattle.list.specs.Pick.{pick}
use Rattle.names.specs.Names.{NameList, count, name_at}
use Rattle.names.proofs.Ends.{few}
use Rattle.name_ids.specs.declared.NameId.TheVariants.{Found, New}
use Rattle.name_ids.specs.NameIds.{first_name, first_added, among_inner, outer_named}
use Rattle.token.specs.Table.{no_id}
use Rattle.name_ids.specs.Answers.{named_by, Kept, Searchable}
use Rattle.name_ids.proofs.Holes.{at_most}
use Rattle.name_ids.proofs.Find.{name_hit, name_missed, added_hit, added_missed}
use Rattle.name_ids.proofs.Stays.{by_id}

pub kept_none : (inner outer : NameList) → Kept inner outer []
kept_none inner outer =
    record {
      below = λ j h. absurd (omega arith);
      apart = λ i j h k. absurd (omega arith);
      outside = λ k j h i. absurd (omega arith);
    }

-- equal bytes are added once, so there are no more added names than outer ones
pub kept_few : (inner outer : NameList) (ids : List ℕ) → Kept inner outer ids → length ids ≤ count outer
kept_few inner outer ids k = at_most (count outer) ids k.below (λ i j h l e. k.apart i j h l (ap (name_at outer) e))

module _ (inner outer : NameList) (ids : List ℕ) (id : ℕ) where
  abbrev more : List ℕ
  more = ids ++ (id ∷ [])

  last : get_or more (length ids) 0 ≡ id
  last = get_or-append_seam ids id [] 0

  split : (j : ℕ) → j < length more → (j < length ids) ⊎ (j ≡ length ids)
  split j h = go (ltb j (length ids)) refl
    where
      n : length more ≡ length ids + 1
      n = length-append ids (id ∷ [])

      go : (t : Bool) → ltb j (length ids) ≡ t → (j < length ids) ⊎ (j ≡ length ids)
      go true e = inl (ltb-true j (length ids) e)
      go false e = inr (omega (arith, n, ltb-false j (length ids) e))

  module _ (k : Kept inner outer ids) (h : id < count outer)
      (absent : first_name inner (name_at outer id) 0 (count inner) ≡ None) (new : first_added outer (name_at outer id) 0 ids ≡ None) where
    before : (j : ℕ) → j < length ids → get_or more j 0 ≡ get_or ids j 0
    before j l = get_or-append ids (id ∷ []) 0 j l

    below_more : (j : ℕ) → (j < length ids) ⊎ (j ≡ length ids) → get_or more j 0 < count outer
    below_more j (inl l) = rw (before j l) (k.below j l)
    below_more j (inr e) = rw (e, last) h

    apart_more : (i j : ℕ) → i < j → (j < length ids) ⊎ (j ≡ length ids) → name_at outer (get_or more i 0) ≡ name_at outer (get_or more j 0) → ⊥
    apart_more i j l (inl x) e = k.apart i j l x (rw (before i (omega arith), before j x) at e)
    apart_more i j l (inr x) e = added_missed outer (name_at outer id) 0 ids new i (omega arith) (rw (before i (omega arith), x, last) at e)

    outside_more : (q j : ℕ) → q < count inner → (j < length ids) ⊎ (j ≡ length ids) → name_at inner q ≡ name_at outer (get_or more j 0) → ⊥
    outside_more q j l (inl x) e = k.outside q j l x (rw (before j x) at e)
    outside_more q j l (inr x) e = name_missed inner (name_at outer id) 0 (count inner) absent q (omega arith) (omega arith) (rw (x, last) at e)

    pub kept_more : Kept inner outer more
    kept_more =
        record {
          below = λ j l. below_more j (split j l);
          apart = λ i j l m. apart_more i j l (split j m);
          outside = λ q j l m. outside_more q j l (split j m);
        }

  -- whatever the id, the names added stay apart
  pub kept_named : Kept inner outer ids → Kept inner outer (outer_named inner outer ids id).added
  unfolding outer_named
  kept_named k = go (ltb id (count outer)) refl (first_name inner (name_at outer id) 0 (count inner)) refl (first_added outer (name_at outer id) 0 ids) refl
    where
      go : (t : Bool) → ltb id (count outer) ≡ t → (o : Option ℕ) → first_name inner (name_at outer id) 0 (count inner) ≡ o
          → (q : Option ℕ) → first_added outer (name_at outer id) 0 ids ≡ q
          → Kept inner outer (pick t (among_inner inner outer ids id o) (record { id = no_id; added = ids })).added
      go false e o f q g = k
      go true e (Some j) f q g = k
      go true e None f (Some j) g = rw g k
      go true e None f None g = rw g (kept_more k (ltb-true id (count outer) e) f g)

  -- ---- the branches of the code
  module _ (s : Searchable inner outer ids) where
    inner_few : count inner ≤ 2147483647
    inner_few = few inner s.first

    ids_few : length ids ≤ 2147483647
    ids_few = omega (arith, few outer s.second, kept_few inner outer ids s.kept)

    pub past : count outer ≤ id → named_by ids id (Found no_id) ≡ outer_named inner outer ids id
    unfolding outer_named
    past h = rw (le-ltb id (count outer) h)

    -- one that was added, by its outer id
    module _ (j : ℕ) (h : j < length ids) where
      pub place_fits : count inner + j ≤ 4294967294
      place_fits = omega (arith, inner_few, ids_few)

      pub place_id : get_or ids j 0 ≡ id → named_by ids id (Found (count inner + j)) ≡ outer_named inner outer ids id
      place_id e = sym (by_id inner outer ids s.kept id j h e)

    module _ (h : id < count outer) (name : List ℕ) (en : name ≡ name_at outer id) where
      module _ (j : ℕ) (e : Some j ≡ first_name inner name 0 (count inner)) where
        is_inner : first_name inner (name_at outer id) 0 (count inner) ≡ Some j
        is_inner = rw en at (sym e)

        pub inner_fits : j ≤ 2147483647
        inner_fits = omega (arith, inner_few, (name_hit inner (name_at outer id) 0 (count inner) j is_inner).high)

        pub inner_id : named_by ids id (Found j) ≡ outer_named inner outer ids id
        unfolding outer_named
        inner_id = rw (lt-ltb id (count outer) h, is_inner)

      module _ (e : None ≡ first_name inner name 0 (count inner)) where
        not_inner : first_name inner (name_at outer id) 0 (count inner) ≡ None
        not_inner = rw en at (sym e)

        module _ (j : ℕ) (f : Some j ≡ first_added outer name 0 ids) where
          is_added : first_added outer (name_at outer id) 0 ids ≡ Some j
          is_added = rw en at (sym f)

          pub added_fits : count inner + j ≤ 4294967294
          added_fits = omega (arith, inner_few, ids_few, (added_hit outer (name_at outer id) 0 ids j is_added).high)

          pub added_id : named_by ids id (Found (count inner + j)) ≡ outer_named inner outer ids id
          unfolding outer_named
          added_id = rw (lt-ltb id (count outer) h, not_inner, is_added)

        pub new_fits : count inner + length ids ≤ 4294967294
        new_fits = omega (arith, inner_few, ids_few)

        pub new_id : None ≡ first_added outer name 0 ids → named_by ids id (New (count inner + length ids)) ≡ outer_named inner outer ids id
        unfolding outer_named
        new_id f =
            let q : first_added outer (name_at outer id) 0 ids ≡ None = rw en at (sym f) in
            rw (lt-ltb id (count outer) h, not_inner, q)
