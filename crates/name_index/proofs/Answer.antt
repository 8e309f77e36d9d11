-- From the latest entry with a name's bytes to the name's id, and the index after it. Assumes nothing.
use mathlib.Core.Path.{◌≡◌, refl, ap, sym, ◌∙◌, subst}
use mathlib.Core.Bool.{Bool, false}
use mathlib.Core.List.{List, [], ◌∷◌, ◌++◌}
use Rattle.std.specs.Prelude.{Some, None}
use Prim.Native.Nat.{ℕ, suc, ◌+◌, ◌-◌, ◌≤◌, ◌<◌}
use native.Mathlib.Omega.{arith}
use lib.ListN.{length, get_or, set, length-append, length-set}
use lib.Seq.{get_or-set_same, get_or-set_other}
use borrow.Author.Tests.{lt-ltb}
use Rattle.list.specs.Same.{same}
use Rattle.names.specs.Names.{NameList, count, name_at}
use Rattle.list.proofs.Same.{same_is, is_same}
use Rattle.name_ids.specs.NameIds.{first_name, first_added, outer_named}
use Rattle.name_ids.specs.Answers.{Kept}
use Rattle.name_ids.proofs.Grow.{kept_few, kept_more}
use Rattle.name_ids.proofs.Stays.{first_none, first_is, added_none, added_is, Gives, stays, again}
use Rattle.name_index.specs.Index.{slot_of, slots_for, entry_name, latest, Chained, Indexed}
use Rattle.name_index.proofs.Latest.{differ, either, Last, latest_none}
use Rattle.name_index.proofs.Chain.{entered, entered_long, entered_past, renamed, noted, chained}
use Rattle.name_index.proofs.Entries.{entry_inner, entry_added, entry_stays, entry_new}

-- ---- what is found
module _ (inner outer : NameList) (ids : List ℕ) (k : Kept inner outer ids) (id : ℕ) (h : id < count outer) where
  abbrev name : List ℕ
  name = name_at outer id

  abbrev total : ℕ
  total = count inner + length ids

  abbrev is_same_name : ℕ → Bool
  is_same_name e = same (entry_name inner outer ids e) name

  unlike : (e : ℕ) → is_same_name e ≡ false → (l : List ℕ) → entry_name inner outer ids e ≡ l → l ≡ name → ⊥
  unlike e f l a b = differ (sym f ∙ is_same (entry_name inner outer ids e) name (a ∙ b))

  -- an inner name after the entry e of those from the last to the first
  not_inner : (e : ℕ) → is_same_name e ≡ false → (j : ℕ) → j < count inner → e ≡ count inner - 1 - j → name_at inner j ≡ name → ⊥
  not_inner e f j l x =
      let z : count inner - 1 - e ≡ j = omega arith in
      unlike e f (name_at inner j) (entry_inner inner outer ids e (omega arith) ∙ ap (name_at inner) z)

  not_added : (p : ℕ) → is_same_name (count inner + p) ≡ false → name_at outer (get_or ids p 0) ≡ name → ⊥
  not_added p f =
      let z : count inner + p - count inner ≡ p = omega arith in
      unlike (count inner + p) f (name_at outer (get_or ids p 0))
      (entry_added inner outer ids (count inner + p) (omega arith) ∙ ap (λ (i : ℕ). name_at outer (get_or ids i 0)) z)

  -- ---- no entry has the bytes
  module _ (e : latest is_same_name total ≡ 0) where
    absent : first_name inner name 0 (count inner) ≡ None
    absent =
        first_none inner name 0 (count inner)
        (λ j low high. not_inner (count inner - 1 - j) (latest_none is_same_name total e (count inner - 1 - j) (omega arith)) j (omega arith) refl)

    fresh : first_added outer name 0 ids ≡ None
    fresh = added_none outer name 0 ids (λ p l. not_added p (latest_none is_same_name total e (count inner + p) (omega arith)))

    pub new : outer_named inner outer ids id ≡ record { id = total; added = ids ++ (id ∷ []) }
    unfolding outer_named
    new = rw (lt-ltb id (count outer) h, absent, fresh)

    -- there is room for it
    pub new_room : length ids < count outer
    new_room =
        omega (arith, length-append ids (id ∷ []), kept_few inner outer (ids ++ (id ∷ [])) (kept_more inner outer ids id k h absent fresh))

  -- ---- the entry e is the latest that has them
  module _ (e : ℕ) (l : Last is_same_name total e) where
    is_name : entry_name inner outer ids e ≡ name
    is_name = same_is (entry_name inner outer ids e) name l.holds

    pub found_inner : e < count inner → Gives inner outer ids id (count inner - 1 - e)
    unfolding outer_named
    found_inner b =
        let at : first_name inner name 0 (count inner) ≡ Some (count inner - 1 - e)
        = first_is inner name 0 (count inner) (count inner - 1 - e) (omega arith) (omega arith)
        (sym (entry_inner inner outer ids e b) ∙ is_name)
        (λ j low high. not_inner (count inner - 1 - j) (l.after (count inner - 1 - j) (omega arith) (omega arith)) j (omega arith) refl) in
        rw (lt-ltb id (count outer) h, at)

    pub found_added : count inner ≤ e → Gives inner outer ids id e
    unfolding outer_named
    found_added b =
        let p : e - count inner < length ids = omega (arith, l.below) in
        let x : name_at outer (get_or ids (e - count inner) 0) ≡ name = sym (entry_added inner outer ids e b) ∙ is_name in
        let out : first_name inner name 0 (count inner) ≡ None
        = first_none inner name 0 (count inner) (λ j low high q. k.outside j (e - count inner) (omega arith) p (q ∙ sym x)) in
        let z : 0 + (e - count inner) ≡ e - count inner = omega arith in
        let at : first_added outer name 0 ids ≡ Some (e - count inner)
        = added_is outer name 0 ids (e - count inner) p x (λ q g y. k.apart q (e - count inner) g p (y ∙ sym x)) ∙ ap Some z in
        let w : count inner + (e - count inner) ≡ e = omega arith in
        rw (lt-ltb id (count outer) h, out, at, w)

-- ---- an id that is remembered
module _ (inner outer : NameList) (ids work : List ℕ) (x : Indexed inner outer ids work) (few : length ids ≤ count outer) where
  abbrev slots : ℕ
  slots = slots_for inner outer

  pub remembered : (k given : ℕ) → k < count outer → Gives inner outer ids k given → Indexed inner outer ids (set work (slots + slots + k) (given + 1))
  remembered k given h g =
      record {
        long = simp length-set x.long;
        chained = noted slots (entry_name inner outer ids) (count inner + length ids) work x.chained (slots + slots + k) (given + 1) (omega arith) (omega arith);
        given = λ j id l e. either (Gives inner outer ids j id) j k (mine j id e) (other j id l e);
      }
    where
      mine : (j id : ℕ) → get_or (set work (slots + slots + k) (given + 1)) (slots + slots + j) 0 ≡ suc id → j ≡ k → Gives inner outer ids j id
      mine j id e q =
          let s : get_or (set work (slots + slots + k) (given + 1)) (slots + slots + k) 0 ≡ given + 1
          = get_or-set_same work (slots + slots + k) (given + 1) 0 (omega (arith, x.long)) in
          let z : given ≡ id = omega (arith, s, rw q at e) in
          rw (q, ← z) g

      other : (j id : ℕ) → j < count outer → get_or (set work (slots + slots + k) (given + 1)) (slots + slots + j) 0 ≡ suc id → (j ≡ k → ⊥)
          → Gives inner outer ids j id
      other j id l e n =
          x.given j id l (sym (get_or-set_other work (slots + slots + k) (slots + slots + j) (given + 1) 0 (λ q. n (omega arith))) ∙ e)

-- ---- a name that is new
module _ (inner outer : NameList) (ids work : List ℕ) (x : Indexed inner outer ids work) (id : ℕ) (room : length ids < count outer)
    (slot : ℕ) (h : slot < slots_for inner outer) (e : slot ≡ slot_of (slots_for inner outer) (name_at outer id)) where
  abbrev size : ℕ
  size = slots_for inner outer

  abbrev next : ℕ
  next = count inner + length ids

  abbrev more : List ℕ
  more = ids ++ (id ∷ [])

  added : Indexed inner outer more (entered size slot next work)
  added =
      let n : next + 1 ≡ count inner + length more = omega (arith, length-append ids (id ∷ [])) in
      let c : Chained size (entry_name inner outer more) next work
      = renamed size (entry_name inner outer ids) next work x.chained (entry_name inner outer more) (entry_stays inner outer ids id) in
      let s : slot ≡ slot_of size (entry_name inner outer more next) = e ∙ ap (slot_of size) (sym (entry_new inner outer ids id)) in
      record {
        long = omega (arith, entered_long size slot next work, x.long);
        chained =
            subst (λ (m : ℕ). Chained size (entry_name inner outer more) m (entered size slot next work)) n
            (chained size (entry_name inner outer more) next work c slot h (omega arith) (omega (arith, x.long)) s);
        given =
            λ k given l q.
            stays inner outer ids k given id
            (x.given k given l (sym (entered_past size slot next work h (omega arith) (size + size + k) (omega arith)) ∙ q));
      }

  pub new_indexed : id < count outer → outer_named inner outer ids id ≡ record { id = next; added = more }
      → Indexed inner outer more (set (entered size slot next work) (size + size + id) (next + 1))
  new_indexed l n =
      let g : Gives inner outer more id next = rw n at (again inner outer ids id) in
      remembered inner outer more (entered size slot next work) added (omega (arith, length-append ids (id ∷ []))) id next l g
