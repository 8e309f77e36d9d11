-- docs/RULES.md, Translating, over a lent slice of token records. Assumes nothing.
use Rattle.std.specs.Prelude.{◌≡◌, List, ℕ, ltb, length, Result, Err, is_ok, ⊤}
use Rattle.list.specs.Pick.{pick}
use Rattle.code.specs.declared.Code.{Code}
use Rattle.token.specs.declared.Token.{Token}
use Rattle.translate.specs.Translate.{all_moved, first_too_big, unless_too_big}

-- BadTable only past 4,294,967,294 records
unfoldable pub records_to : ℕ → ℕ → ℕ → List Token → Result ⊤ Code
records_to line source name ts =
    pick (ltb 4294967294 (length ts)) (Err Code.BadTable) (unless_too_big (first_too_big line source name 0 ts))

-- the slice's translation: whether it is done, and what the lent slice holds then
pub record TranslatesRecords (line source name : ℕ) (ts : List Token) (r : Result ⊤ Code) (ts' : List Token) : Type 0 where
  pub says : r ≡ records_to line source name ts
  pub wrote : ts' ≡ pick (is_ok (records_to line source name ts)) (all_moved line source name ts) ts
