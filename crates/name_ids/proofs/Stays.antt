-- What makes a search's answer, and an answer that was given stays one while names are added. Assumes nothing.
use mathlib.Core.Path.{◌≡◌, refl, ap, sym, ◌∙◌}
use mathlib.Core.Bool.{Bool, true, false}
use mathlib.Core.List.{List, [], ◌∷◌, ◌++◌}
use Rattle.std.specs.Prelude.{Option, None, Some}
use Prim.Native.Nat.{ℕ, zero, suc, ◌+◌, ◌≤◌, ◌<◌}
use native.Mathlib.Omega.{arith}
use native.Mathlib.Nat.{le_refl}
use lib.Dec.{ltb}
use lib.ListN.{length, get_or, length-append}
use borrow.Author.Tests.{lt-ltb, le-ltb}
use Rattle.list.specs.Pick.{pick}
use Rattle.list.specs.Same.{same}
use Rattle.names.specs.Names.{NameList, count, name_at}
use Rattle.list.proofs.Same.{same_is, same_self}
use Rattle.token.specs.Table.{no_id}
use Rattle.name_ids.specs.NameIds.{Named, first_name, first_added, among_inner, outer_named}
use Rattle.name_ids.specs.Answers.{Kept}

unlike : (a b : List ℕ) → (a ≡ b → ⊥) → same a b ≡ false
unlike a b n = go (same a b) refl
  where
    go : (t : Bool) → same a b ≡ t → t ≡ false
    go false e = refl
    go true e = absurd (n (same_is a b e))

differ : {A : Type 0} → false ≡ true → A
differ e = let z : ◌≡◌ {A = ℕ} 0 1 = cc in absurd (omega arith)

-- ---- a name that none before it equals is the first, and where none equals there is none
module _ (l : NameList) (name : List ℕ) where
  pub first_none : (k n : ℕ) → ((j : ℕ) → k ≤ j → j < k + n → name_at l j ≡ name → ⊥) → first_name l name k n ≡ None
  unfolding first_name
  first_none k zero f = refl
  first_none k (suc n) f =
      rw (unlike (name_at l k) name (f k (omega arith) (omega arith)))
      (first_none (k + 1) n (λ j low high. f j (omega arith) (omega arith)))

  pub first_is : (k n j : ℕ) → k ≤ j → j < k + n → name_at l j ≡ name → ((i : ℕ) → k ≤ i → i < j → name_at l i ≡ name → ⊥)
      → first_name l name k n ≡ Some j
  unfolding first_name
  first_is k zero j low high b f = absurd (omega arith)
  first_is k (suc n) j low high b f = go (same (name_at l k) name) refl (λ h. first_is (k + 1) n j h (omega arith) b (λ i low high. f i (omega arith) high))
    where
      go : (t : Bool) → same (name_at l k) name ≡ t → (k + 1 ≤ j → first_name l name (k + 1) n ≡ Some j)
          → pick t (Some k) (first_name l name (k + 1) n) ≡ Some j
      go true e ih =
          let n : k < j → ⊥ = λ h. f k (omega arith) h (same_is (name_at l k) name e) in
          let x : k ≡ j = omega (arith, n) in
          ap Some x
      go false e ih =
          let d : k ≡ j → ⊥ = λ x. differ (sym e ∙ rw (x, b) (same_self name)) in
          ih (omega (arith, d))

-- ---- the same of the added names
module _ (l : NameList) (name : List ℕ) where
  pub added_none : (j : ℕ) (ids : List ℕ) → ((p : ℕ) → p < length ids → name_at l (get_or ids p 0) ≡ name → ⊥) → first_added l name j ids ≡ None
  unfolding first_added
  added_none j [] f = refl
  added_none j (id ∷ ids) f =
      rw (unlike (name_at l id) name (f 0 (omega arith))) (added_none (j + 1) ids (λ p h. f (suc p) (omega arith)))

  pub added_is : (j : ℕ) (ids : List ℕ) (p : ℕ) → p < length ids → name_at l (get_or ids p 0) ≡ name
      → ((q : ℕ) → q < p → name_at l (get_or ids q 0) ≡ name → ⊥) → first_added l name j ids ≡ Some (j + p)
  unfolding first_added
  added_is j [] p h b f = absurd (omega arith)
  added_is j (id ∷ ids) zero h b f =
      let z : j ≡ j + 0 = omega arith in
      rw (b, same_self name) (ap Some z)
  added_is j (id ∷ ids) (suc p) h b f =
      let z : j + 1 + p ≡ j + suc p = omega arith in
      rw (unlike (name_at l id) name (f 0 (omega arith)))
      (added_is (j + 1) ids p (omega arith) b (λ q g. f (suc q) (omega arith)) ∙ ap Some z)

  -- a name behind the others changes no answer, and is the answer where there was none
  append_some : (j : ℕ) (ids more : List ℕ) (p : ℕ) → first_added l name j ids ≡ Some p → first_added l name j (ids ++ more) ≡ Some p
  unfolding first_added
  append_some j [] more p e = let z : ◌≡◌ {A = ℕ} 0 1 = cc in absurd (omega arith)
  append_some j (id ∷ ids) more p e = go (same (name_at l id) name) e (append_some (j + 1) ids more p)
    where
      go : (t : Bool) → pick t (Some j) (first_added l name (j + 1) ids) ≡ Some p
          → (first_added l name (j + 1) ids ≡ Some p → first_added l name (j + 1) (ids ++ more) ≡ Some p)
          → pick t (Some j) (first_added l name (j + 1) (ids ++ more)) ≡ Some p
      go true f ih = f
      go false f ih = ih f

  append_none : (j : ℕ) (ids : List ℕ) (id : ℕ) → first_added l name j ids ≡ None → name_at l id ≡ name
      → first_added l name j (ids ++ (id ∷ [])) ≡ Some (j + length ids)
  unfolding first_added
  append_none j [] id e b =
      let z : j ≡ j + 0 = omega arith in
      rw (b, same_self name) (ap Some z)
  append_none j (x ∷ ids) id e b = go (same (name_at l x) name) e (λ f. append_none (j + 1) ids id f b)
    where
      go : (t : Bool) → pick t (Some j) (first_added l name (j + 1) ids) ≡ None
          → (first_added l name (j + 1) ids ≡ None → first_added l name (j + 1) (ids ++ (id ∷ [])) ≡ Some (j + 1 + length ids))
          → pick t (Some j) (first_added l name (j + 1) (ids ++ (id ∷ []))) ≡ Some (j + suc (length ids))
      go true f ih = let z : ◌≡◌ {A = ℕ} 0 1 = cc in absurd (omega arith)
      go false f ih =
          let z : j + 1 + length ids ≡ j + suc (length ids) = omega arith in
          ih f ∙ ap Some z

-- ---- an answer, and that it stays
-- the id of an outer name that needs no name added
abbrev pub Gives : NameList → NameList → List ℕ → ℕ → ℕ → Type 0
Gives inner outer ids id given = outer_named inner outer ids id ≡ record { id = given; added = ids }

module _ (inner outer : NameList) (ids : List ℕ) where
  -- no name has the id none
  pub gives_none : count outer ≤ no_id → Gives inner outer ids no_id no_id
  unfolding outer_named
  gives_none h = rw (le-ltb no_id (count outer) h)

  relist : (more : List ℕ) (i given : ℕ) → i ≡ given → ◌≡◌ {A = Named} (record { id = i; added = more }) (record { id = given; added = more })
  relist more i given h = rw h

  pub stays : (id given x : ℕ) → Gives inner outer ids id given → Gives inner outer (ids ++ (x ∷ [])) id given
  unfolding outer_named
  stays id given x e =
      go (ltb id (count outer)) (first_name inner (name_at outer id) 0 (count inner)) (first_added outer (name_at outer id) 0 ids) refl e
    where
      go : (t : Bool) (o q : Option ℕ) → first_added outer (name_at outer id) 0 ids ≡ q
          → pick t (among_inner inner outer ids id o) (record { id = no_id; added = ids }) ≡ record { id = given; added = ids }
          → pick t (among_inner inner outer (ids ++ (x ∷ [])) id o) (record { id = no_id; added = ids ++ (x ∷ []) }) ≡ record { id = given; added = ids ++ (x ∷ []) }
      go false o q f g = relist (ids ++ (x ∷ [])) _ given (ap (λ (n : Named). n.id) g)
      go true (Some k) q f g = relist (ids ++ (x ∷ [])) _ given (ap (λ (n : Named). n.id) g)
      go true None (Some j) f g =
          let h : ◌≡◌ {A = Named} (record { id = count inner + j; added = ids }) (record { id = given; added = ids }) = rw f at g in
          rw (append_some outer (name_at outer id) 0 ids (x ∷ []) j f) (relist (ids ++ (x ∷ [])) _ given (ap (λ (n : Named). n.id) h))
      go true None None f g =
          let h : ◌≡◌ {A = Named} (record { id = count inner + length ids; added = ids ++ (id ∷ []) }) (record { id = given; added = ids }) = rw f at g in
          let l : length (ids ++ (id ∷ [])) ≡ length ids = ap (λ (n : Named). length n.added) h in
          absurd (omega (arith, length-append ids (id ∷ [])))

  -- the answer to a name is the answer to it again
  pub again : (id : ℕ) → Gives inner outer (outer_named inner outer ids id).added id (outer_named inner outer ids id).id
  unfolding outer_named
  again id = go (ltb id (count outer)) (first_name inner (name_at outer id) 0 (count inner)) (first_added outer (name_at outer id) 0 ids) refl
    where
      all : Bool → Option ℕ → List ℕ → Named
      all t o l = pick t (among_inner inner outer l id o) (record { id = no_id; added = l })

      go : (t : Bool) (o q : Option ℕ) → first_added outer (name_at outer id) 0 ids ≡ q → all t o (all t o ids).added ≡ record { id = (all t o ids).id; added = (all t o ids).added }
      go false o q f = refl
      go true (Some k) q f = refl
      go true None (Some j) f = rw (f, f)
      go true None None f =
          let z : 0 + length ids ≡ length ids = omega arith in
          rw (f, append_none outer (name_at outer id) 0 ids id f refl, z)

  -- no name is taken away
  pub no_fewer : (id : ℕ) → length ids ≤ length (outer_named inner outer ids id).added
  unfolding outer_named
  no_fewer id = go (ltb id (count outer)) (first_name inner (name_at outer id) 0 (count inner)) (first_added outer (name_at outer id) 0 ids) refl
    where
      go : (t : Bool) (o q : Option ℕ) → first_added outer (name_at outer id) 0 ids ≡ q
          → length ids ≤ length (pick t (among_inner inner outer ids id o) (record { id = no_id; added = ids })).added
      go false o q f = omega arith
      go true (Some k) q f = omega arith
      go true None (Some j) f = rw f (le_refl (length ids))
      go true None None f = rw f (let z : length ids ≤ length (ids ++ (id ∷ [])) = omega (arith, length-append ids (id ∷ [])) in z)

  -- an id that was added is at its place
  pub by_id : Kept inner outer ids → (id j : ℕ) → j < length ids → get_or ids j 0 ≡ id → Gives inner outer ids id (count inner + j)
  unfolding outer_named
  by_id k id j h e =
      let b : name_at outer (get_or ids j 0) ≡ name_at outer id = ap (name_at outer) e in
      let below : id < count outer = rw e at (k.below j h) in
      let none-inner : first_name inner (name_at outer id) 0 (count inner) ≡ None
      = first_none inner (name_at outer id) 0 (count inner) (λ q low high x. k.outside q j (omega arith) h (x ∙ sym b)) in
      let z : 0 + j ≡ j = omega arith in
      let at : first_added outer (name_at outer id) 0 ids ≡ Some j
      = added_is outer (name_at outer id) 0 ids j h b (λ q l x. k.apart q j l h (x ∙ sym b)) ∙ ap Some z in
      rw (lt-ltb id (count outer) below, none-inner, at)
