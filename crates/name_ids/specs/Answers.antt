-- Helpers: what inner contracts and proofs need; no contract of an entry and no theorem reaches this file.
-- What the code answers, and what it asks. Assumes nothing.
use Rattle.std.specs.Prelude.{◌≡◌, true, List, [], ◌∷◌, ◌++◌, ℕ, ◌<◌, length, get_or}
use Rattle.names.specs.Names.{NameList, count, sound, name_at}
use Rattle.name_ids.specs.NameIds.{Named}
use Rattle.name_ids.specs.declared.NameId.{NameId}
use Rattle.name_ids.specs.declared.NameId.TheVariants.{Found, New}

-- what an answer says: a new name is added
abbrev pub named_by : List ℕ → ℕ → NameId → Named
named_by ids id (Found n) = record { id = n; added = ids }
named_by ids id (New n) = record { id = n; added = ids ++ (id ∷ []) }

-- the outer ids of added names: below the outer count, no two of equal bytes, none with the bytes of an inner name
pub record Kept (inner outer : NameList) (ids : List ℕ) : Type 0 where
  pub below : (j : ℕ) → j < length ids → get_or ids j 0 < count outer
  pub apart : (i j : ℕ) → i < j → j < length ids → name_at outer (get_or ids i 0) ≡ name_at outer (get_or ids j 0) → ⊥
  pub outside : (k j : ℕ) → k < count inner → j < length ids → name_at inner k ≡ name_at outer (get_or ids j 0) → ⊥

-- the names can be searched
pub record Searchable (inner outer : NameList) (ids : List ℕ) : Type 0 where
  pub first : sound inner ≡ true
  pub second : sound outer ≡ true
  pub kept : Kept inner outer ids
