-- Helpers: what inner contracts and proofs need; no contract of an entry and no theorem reaches this file.
-- The index of names in lent memory. Assumes nothing.
use Rattle.std.specs.Prelude.{◌≡◌, Bool, Option, Some, None, List, [], ◌∷◌, ℕ, zero, suc, ◌+◌, ◌-◌, ◌*◌, ◌/◌, ◌%◌, ◌≤◌, ◌<◌, eqb, ltb, length, get_or}
use Rattle.list.specs.Pick.{pick}
use Rattle.list.specs.Same.{same}
use Rattle.names.specs.Names.{NameList, count, name_at}
use Rattle.name_ids.specs.NameIds.{outer_named}

-- a number of a name's bytes
unfoldable pub hash_from : ℕ → List ℕ → ℕ
hash_from h [] = h
hash_from h (b ∷ bs) = hash_from ((h + b) * 2654435761 % 4294967296) bs

-- the slot of a name, of so many
unfoldable pub slot_of : ℕ → List ℕ → ℕ
slot_of slots name = hash_from 0 name * slots / 4294967296

-- what a place of the working memory holds: 0 stands for none, and else it is one more
abbrev pub held : ℕ → Option ℕ
held zero = None
held (suc n) = Some n

-- a slot for each name of both lists
abbrev pub slots_for : NameList → NameList → ℕ
slots_for inner outer = count inner + count outer

-- the entries of the index: the inner names from the last to the first, and then the added names
unfoldable pub entry_name : NameList → NameList → List ℕ → ℕ → List ℕ
entry_name inner outer ids e =
    pick (ltb e (count inner)) (name_at inner (count inner - 1 - e)) (name_at outer (get_or ids (e - count inner) 0))

-- one more than the latest of the first n entries that p holds of, 0 where there is none
unfoldable pub latest : (ℕ → Bool) → ℕ → ℕ
latest p zero = 0
latest p (suc n) = pick (p n) (suc n) (latest p n)

-- of the entries with these names: the latest in a slot, and the latest with these bytes
abbrev pub latest_in : ℕ → (ℕ → List ℕ) → ℕ → ℕ → ℕ
latest_in slots names slot n = latest (λ (e : ℕ). eqb (slot_of slots (names e)) slot) n

abbrev pub latest_same : (ℕ → List ℕ) → List ℕ → ℕ → ℕ
latest_same names name n = latest (λ (e : ℕ). same (names e) name) n

-- the first n entries are in the index: each slot's place leads to its latest entry, and each entry's place to the one before it there
pub record Chained (slots : ℕ) (names : ℕ → List ℕ) (n : ℕ) (work : List ℕ) : Type 0 where
  pub heads : (slot : ℕ) → slot < slots → get_or work slot 0 ≡ latest_in slots names slot n
  pub links : (e : ℕ) → e < n → get_or work (slots + e) 0 ≡ latest_in slots names (slot_of slots (names e)) e

-- the working memory of composing: the index of the inner and the added names, and for each outer id 0, or one more than the id of its name
pub record Indexed (inner outer : NameList) (ids work : List ℕ) : Type 0 where
  pub long : slots_for inner outer + slots_for inner outer + count outer ≤ length work
  pub chained : Chained (slots_for inner outer) (entry_name inner outer ids) (count inner + length ids) work
  pub given : (k id : ℕ) → k < count outer → get_or work (slots_for inner outer + slots_for inner outer + k) 0 ≡ suc id
      → outer_named inner outer ids k ≡ record { id = id; added = ids }
