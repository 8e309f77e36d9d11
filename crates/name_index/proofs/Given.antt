-- The branches of `indexed_name_id`: the id that each gives, and the memory that it leaves. Assumes nothing.
use mathlib.Core.Path.{◌≡◌, refl, ap, sym, subst, ◌∙◌}
use mathlib.Core.List.{List}
use mathlib.Core.Logic.{◌⊎◌, inl, inr}
use Prim.Native.Nat.{ℕ, zero, suc, ◌+◌, ◌-◌, ◌≤◌, ◌<◌}
use native.Mathlib.Omega.{arith}
use lib.ListN.{length, get_or, set}
use Rattle.list.specs.Same.{same}
use Rattle.names.specs.Names.{NameList, count, name_at}
use Rattle.token.specs.Table.{no_id}
use Rattle.name_ids.specs.declared.NameId.{NameId}
use Rattle.name_ids.specs.declared.NameId.TheVariants.{Found, New}
use Rattle.std.specs.Prelude.{Option, Some, None}
use Rattle.name_ids.specs.NameIds.{Named, outer_named}
use Rattle.name_ids.specs.Answers.{named_by, Searchable}
use Rattle.name_ids.proofs.Grow.{kept_few, past}
use Rattle.name_ids.proofs.Stays.{Gives}
use Rattle.name_index.specs.Index.{slot_of, held, slots_for, entry_name, latest_same, Indexed}
use Rattle.name_index.proofs.Latest.{Last, latest_most, latest_last}
use Rattle.name_index.proofs.Slots.{slot_small}
use Rattle.name_index.proofs.Chain.{entered}
use Rattle.name_index.proofs.Answer.{new, new_room, found_inner, found_added, remembered, new_indexed}

held_none : (n : ℕ) → held n ≡ None → n ≡ 0
held_none zero e = refl
held_none (suc n) e = let z : ◌≡◌ {A = ℕ} 0 1 = cc in absurd (omega arith)

held_is : (n e : ℕ) → held n ≡ Some e → n ≡ suc e
held_is zero e q = let z : ◌≡◌ {A = ℕ} 0 1 = cc in absurd (omega arith)
held_is (suc n) e q = let z : n ≡ e = cc in ap suc z

-- what the code owes for an answer and the memory it leaves
pub record Answered (inner outer : NameList) (ids : List ℕ) (id : ℕ) (r : NameId) (work : List ℕ) : Type 0 where
  pub is : named_by ids id r ≡ outer_named inner outer ids id
  pub index : Indexed inner outer (outer_named inner outer ids id).added work

module _ (inner outer : NameList) (ids work : List ℕ) (s : Searchable inner outer ids) (x : Indexed inner outer ids work) (id : ℕ) where
  abbrev slots : ℕ
  slots = slots_for inner outer

  abbrev total : ℕ
  total = count inner + length ids

  few_ids : length ids ≤ count outer
  few_ids = kept_few inner outer ids s.kept

  answered : (r : NameId) (work' : List ℕ) → named_by ids id r ≡ outer_named inner outer ids id → Indexed inner outer (named_by ids id r).added work'
      → Answered inner outer ids id r work'
  answered r work' e i = record { is = e; index = subst (λ (n : Named). Indexed inner outer n.added work') e i }

  pub none : count outer ≤ id → Answered inner outer ids id (Found no_id) work
  none h = answered (Found no_id) work (past inner outer ids id s h) x

  pub known : id < count outer → (given : ℕ) → Some given ≡ held (get_or work (slots + slots + id) 0) → Answered inner outer ids id (Found given) work
  known h given e = answered (Found given) work (sym (x.given id given h (held_is (get_or work (slots + slots + id) 0) given (sym e)))) x

  module _ (h : id < count outer) (name : List ℕ) (en : name ≡ name_at outer id) where
    pub slot_is : (slot : ℕ) → slot ≡ slot_of slots name → slot < slots
    slot_is slot e = omega (arith, slot_small slots name (omega arith))

    module _ (behind : Option ℕ) (eb : behind ≡ held (latest_same (entry_name inner outer ids) name total)) where
      is : held (latest_same (entry_name inner outer ids) (name_at outer id) total) ≡ behind
      is = sym (eb ∙ ap (λ (l : List ℕ). held (latest_same (entry_name inner outer ids) l total)) en)

      -- no entry has the bytes
      module _ (z : behind ≡ None) where
        none_same : latest_same (entry_name inner outer ids) (name_at outer id) total ≡ 0
        none_same = held_none _ (is ∙ z)

        pub room : length ids < count outer
        room = new_room inner outer ids s.kept id h none_same

        pub fresh_is : named_by ids id (New total) ≡ outer_named inner outer ids id
        fresh_is = sym (new inner outer ids s.kept id h none_same)

        pub fresh : (slot : ℕ) → slot ≡ slot_of slots name → (work' : List ℕ) → work' ≡ entered slots slot total work
            → Answered inner outer ids id (New total) (set work' (slots + slots + id) (total + 1))
        fresh slot e work' w =
            let n = new inner outer ids s.kept id h none_same in
            rw w
            (answered (New total) (set (entered slots slot total work) (slots + slots + id) (total + 1)) fresh_is
            (new_indexed inner outer ids work x id room slot (slot_is slot e) (e ∙ ap (slot_of slots) en) h n))

      -- the latest that has them
      module _ (entry : ℕ) (f : behind ≡ Some entry) where
        latest_is : latest_same (entry_name inner outer ids) (name_at outer id) total ≡ suc entry
        latest_is = held_is _ entry (is ∙ f)

        pub within : entry < slots
        within = omega (arith, latest_is, latest_most (λ (e : ℕ). same (entry_name inner outer ids e) (name_at outer id)) total, few_ids)

        last : Last (λ (e : ℕ). same (entry_name inner outer ids e) (name_at outer id)) total entry
        last = latest_last (λ (e : ℕ). same (entry_name inner outer ids e) (name_at outer id)) total entry latest_is

        module _ (found : ℕ) (came : ((entry < count inner) × (found ≡ count inner - 1 - entry)) ⊎ ((count inner ≤ entry) × (found ≡ entry))) where
          gives : Gives inner outer ids id found
          gives = go came
            where
              go : ((entry < count inner) × (found ≡ count inner - 1 - entry)) ⊎ ((count inner ≤ entry) × (found ≡ entry)) → Gives inner outer ids id found
              go (inl w) = rw w.1 (found_inner inner outer ids s.kept id h entry last w.0)
              go (inr w) = rw w.1 (found_added inner outer ids s.kept id h entry last w.0)

          pub old : Answered inner outer ids id (Found found) (set work (slots + slots + id) (found + 1))
          old = answered (Found found) (set work (slots + slots + id) (found + 1)) (sym gives) (remembered inner outer ids work x few_ids id found h gives)
