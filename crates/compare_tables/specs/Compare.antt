-- docs/RULES.md, Changes: the answer of comparing, its refusals in order, and what the lent list holds then. Assumes nothing.
use Rattle.std.specs.Prelude.{◌≡◌, true, List, ℕ, ◌*◌, ltb, length, Option, Some, None, Result, Ok, Err, is_ok}
use Rattle.list.specs.Memory.{onto}
use Rattle.list.specs.Pick.{pick}
use Rattle.code.specs.declared.Code.{Code}
use Rattle.token.specs.Table.{bad_table, tokens_of, SameTokens}
use Rattle.order.specs.Order.{first_fall, sorted}
use Rattle.changes.specs.Changes.{changes, listed}

-- Unsorted with the index of the first token that stands before the one before it
abbrev pub unless_falls : Option ℕ → Result ℕ Code → Result ℕ Code
unless_falls (Some i) r = Err (Code.Unsorted i)
unless_falls None r = r

-- NoRoom with three numbers for each entry; else done with so many entries
abbrev pub roomed : ℕ → ℕ → Result ℕ Code
roomed room entries = pick (ltb room (3 * entries)) (Err (Code.NoRoom (3 * entries))) (Ok entries)

-- BadTable left, then right; Unsorted left, then right; NoRoom; in this order; else done
unfoldable pub compared : List ℕ → List ℕ → ℕ → Result ℕ Code
compared left right room =
    pick (bad_table (length left)) (Err Code.BadTable)
    (pick (bad_table (length right)) (Err Code.BadTable)
    (unless_falls (first_fall left)
    (unless_falls (first_fall right)
    (roomed room (length (changes left right))))))

-- a comparison's answer, and what the lent list holds then: every difference, if it is done, and past them what it held before
pub record Compares (left right out : List ℕ) (r : Result ℕ Code) (out' : List ℕ) : Type 0 where
  pub says : r ≡ compared left right (length out)
  pub wrote : out' ≡ pick (is_ok (compared left right (length out))) (onto (listed (changes left right)) out) out

-- ---- what a call that is done says

-- both tables are sorted; so many differences were counted, and they stand in the list
pub record Lists (left right out : List ℕ) (entries : ℕ) (out' : List ℕ) : Type 0 where
  pub left_sorted : sorted left ≡ true
  pub right_sorted : sorted right ≡ true
  pub counted : entries ≡ length (changes left right)
  pub stands : out' ≡ onto (listed (changes left right)) out

abbrev pub DoneLists : Type 0
DoneLists = (left right out : List ℕ) (entries : ℕ) (out' : List ℕ) → Compares left right out (Ok entries) out' → Lists left right out entries out'

-- no entry exactly where the first six numbers agree throughout
abbrev pub EmptyIsSame : Type 0
EmptyIsSame =
    (left right out : List ℕ) (entries : ℕ) (out' : List ℕ) → Compares left right out (Ok entries) out'
    → (entries ≡ 0 → SameTokens (tokens_of left) (tokens_of right)) × (SameTokens (tokens_of left) (tokens_of right) → entries ≡ 0)
