-- The id that an outer name is given exists, and has the name's bytes, once these names and any later ones are added. Assumes nothing.
use mathlib.Core.Path.{◌≡◌, refl, ap, sym, ◌∙◌}
use mathlib.Core.Bool.{true}
use mathlib.Core.List.{List, [], ◌∷◌, ◌++◌}
use Rattle.std.specs.Prelude.{Option, None, Some}
use Prim.Native.Nat.{ℕ, ◌+◌, ◌-◌, ◌≤◌, ◌<◌}
use native.Mathlib.Omega.{arith}
use lib.Dec.{ltb}
use lib.ListN.{length, get_or, length-append, get_or-append}
use lib.Seq.{get_or-append_seam}
use borrow.Author.Tests.{lt-ltb, le-ltb}
use Rattle.names.specs.Names.{NameList, count, sound, name_at, exists, name_of}
use Rattle.names.proofs.Ids.{in_inner, in_added, inner_name, outer_name}
use Rattle.name_ids.specs.NameIds.{first_name, first_added, among_inner, outer_named}
use Rattle.token.specs.Table.{no_id}
use Rattle.name_ids.specs.Answers.{Searchable}
use Rattle.name_ids.proofs.Find.{name_hit, added_hit}

-- a result id has a name, of these bytes
pub record Known (inner outer : NameList) (added : List ℕ) (id : ℕ) (name : List ℕ) : Type 0 where
  pub has : exists inner outer added id ≡ true
  pub is : name_of inner outer added id ≡ name

module _ (inner outer : NameList) (si : sound inner ≡ true) (so : sound outer ≡ true) (added : List ℕ) where
  known_inner : (k : ℕ) → k < count inner → Known inner outer added k (name_at inner k)
  known_inner k h =
      let e : exists inner outer added k ≡ true = sym (in_inner inner outer added k si so h) in
      record { has = e; is = sym (inner_name inner outer added k e h) }

  known_added : (j id : ℕ) → j < length added → get_or added j 0 ≡ id → id < count outer → Known inner outer added (count inner + j) (name_at outer id)
  known_added j id h x l =
      let n : ℕ = count inner + j in
      let low : count inner ≤ n = omega arith in
      let z : n - count inner ≡ j = omega arith in
      let y : get_or added (n - count inner) 0 ≡ id = ap (λ (i : ℕ). get_or added i 0) z ∙ x in
      let e : exists inner outer added n ≡ true
      = sym (in_added inner outer added n si so low (omega arith)) ∙ (ap (λ (i : ℕ). ltb i (count outer)) y ∙ lt-ltb id (count outer) l) in
      record { has = e; is = sym (outer_name inner outer added n e low) ∙ ap (name_at outer) y }

module _ (inner outer : NameList) (ids : List ℕ) (s : Searchable inner outer ids) (id : ℕ) where
  pub named_known : id < count outer → (rest : List ℕ)
      → Known inner outer ((outer_named inner outer ids id).added ++ rest) (outer_named inner outer ids id).id (name_at outer id)
  unfolding outer_named
  named_known h rest =
      rw (lt-ltb id (count outer) h)
      (go (first_name inner (name_at outer id) 0 (count inner)) refl (first_added outer (name_at outer id) 0 ids) refl)
    where
      go : (o : Option ℕ) → first_name inner (name_at outer id) 0 (count inner) ≡ o → (q : Option ℕ) → first_added outer (name_at outer id) 0 ids ≡ q
          → Known inner outer ((among_inner inner outer ids id o).added ++ rest) (among_inner inner outer ids id o).id (name_at outer id)
      go (Some k) e q f =
          let t = name_hit inner (name_at outer id) 0 (count inner) k e in
          let y : name_at inner k ≡ name_at outer id = t.bytes in
          rw y at (known_inner inner outer s.first s.second (ids ++ rest) k (omega (arith, t.high)))
      go None e (Some j) f =
          let t = added_hit outer (name_at outer id) 0 ids j f in
          let l : j < length ids = omega (arith, t.high) in
          let z : j - 0 ≡ j = omega arith in
          let y : name_at outer (get_or ids j 0) ≡ name_at outer id = rw z at t.bytes in
          rw f
          (rw y at (known_added inner outer s.first s.second (ids ++ rest) j (get_or ids j 0) (omega (arith, length-append ids rest)) (get_or-append ids rest 0 j l) (s.kept.below j l)))
      go None e None f =
          let a : List ℕ = ids ++ (id ∷ []) in
          let l : length ids < length a = omega (arith, length-append ids (id ∷ [])) in
          rw f
          (known_added inner outer s.first s.second (a ++ rest) (length ids) id (omega (arith, length-append a rest))
          (get_or-append a rest 0 (length ids) l ∙ get_or-append_seam ids id [] 0) h)

  pub past_none : count outer ≤ id → (outer_named inner outer ids id).id ≡ no_id
  unfolding outer_named
  past_none h = rw (le-ltb id (count outer) h)
