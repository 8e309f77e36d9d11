-- docs/RULES.md, Composing: the id that composing gives an outer name. Assumes nothing.
use Rattle.std.specs.Prelude.{Option, Some, None, List, [], ◌∷◌, ◌++◌, ℕ, zero, suc, ◌+◌, ltb, length}
use Rattle.list.specs.Pick.{pick}
use Rattle.token.specs.Table.{no_id}
use Rattle.list.specs.Same.{same}
use Rattle.names.specs.Names.{NameList, count, name_at}

-- the first of n names, from the k-th on, with these bytes
unfoldable pub first_name : NameList → List ℕ → ℕ → ℕ → Option ℕ
first_name l name k zero = None
first_name l name k (suc n) = pick (same (name_at l k) name) (Some k) (first_name l name (k + 1) n)

-- the first place, from j on, of the added outer names with these bytes
unfoldable pub first_added : NameList → List ℕ → ℕ → List ℕ → Option ℕ
first_added outer name j [] = None
first_added outer name j (id ∷ ids) = pick (same (name_at outer id) name) (Some j) (first_added outer name (j + 1) ids)

-- a name id, and the added names once it is given
pub record Named : Type 0 where
  pub id : ℕ
  pub added : List ℕ

-- else inner count plus its place among the added names, added on first use
abbrev pub among_added : NameList → List ℕ → ℕ → Option ℕ → Named
among_added inner added id (Some j) = record { id = count inner + j; added = added }
among_added inner added id None = record { id = count inner + length added; added = added ++ (id ∷ []) }

-- the first inner name with equal bytes
abbrev pub among_inner : NameList → NameList → List ℕ → ℕ → Option ℕ → Named
among_inner inner outer added id (Some k) = record { id = k; added = added }
among_inner inner outer added id None = among_added inner added id (first_added outer (name_at outer id) 0 added)

-- the outer name's id; an outer name id past its list gives no name
unfoldable pub outer_named : NameList → NameList → List ℕ → ℕ → Named
outer_named inner outer added id =
    pick (ltb id (count outer)) (among_inner inner outer added id (first_name inner (name_at outer id) 0 (count inner)))
    (record { id = no_id; added = added })
