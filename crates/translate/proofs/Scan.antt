-- The first token that is too big, step by step, and what a table answers by it. Assumes nothing.
use Rattle.std.proofs.Common.{◌≡◌, ℕ, ◌+◌, true, false, List, [], ◌∷◌, length, refl}
use Rattle.std.specs.Prelude.{Some, None, Err}
use Rattle.code.specs.declared.Code.{Code}
use Rattle.token.specs.Table.{bad_table, tokens_of}
use Rattle.token.specs.declared.Token.{Token}
use Rattle.translate.specs.Translate.{too_big, first_too_big, unless_too_big, translates_to}

module _ (line source name : ℕ) where
  pub first_here : (i : ℕ) (t : Token) (ts : List Token) → too_big line source name t ≡ true → first_too_big line source name i (t ∷ ts) ≡ Some i
  unfolding first_too_big
  first_here i t ts e = rw e

  pub first_on : (i : ℕ) (t : Token) (ts : List Token) → too_big line source name t ≡ false
      → first_too_big line source name i (t ∷ ts) ≡ first_too_big line source name (i + 1) ts
  unfolding first_too_big
  first_on i t ts e = rw e

  pub first_none : (i : ℕ) → first_too_big line source name i [] ≡ None
  unfolding first_too_big
  first_none i = refl

  pub is_bad : (table : List ℕ) → bad_table (length table) ≡ true → Err Code.BadTable ≡ translates_to line source name table
  unfolding translates_to
  is_bad table e = rw e

  pub is_first : (table : List ℕ) → bad_table (length table) ≡ false
      → translates_to line source name table ≡ unless_too_big (first_too_big line source name 0 (tokens_of table))
  unfolding translates_to
  is_first table e = rw e
