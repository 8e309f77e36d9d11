-- A whole table's translation, put together from the pass and the loop that moves; it has one answer. Assumes nothing.
use Rattle.std.proofs.Common.{◌≡◌, ℕ, ◌+◌, ◌<◌, Bool, true, false, List, length, get_or, sym, refl, ap, ◌∙◌, arith}
use Rattle.std.specs.Prelude.{Option, Some, None, Result, Ok, Err, ⊤}
use Rattle.list.specs.Pick.{pick}
use Rattle.code.specs.declared.Code.{Code}
use Rattle.token.specs.Table.{bad_table, places, token_at, tokens_of, over}
use Rattle.token.specs.declared.Token.{Token}
use Rattle.token.proofs.Laws.{length_tokens}
use Rattle.translate.specs.Translate.{all_moved, first_too_big, unless_too_big, translates_to, Translates}
use Rattle.translate.specs.Looks.{Looks}
use Rattle.translate.proofs.Scan.{is_first}
use Rattle.translate.proofs.Pass.{listed_none, listed_first, read_at}

-- what was looked at says which is the first
pub answer_is : (line source name : ℕ) (d : Token) (P : ℕ → Token → Type 0) (ts : List Token) (n : ℕ) → length ts ≡ n
    → ((k : ℕ) (t : Token) → k < n → P k t → t ≡ get_or ts k d) → (r : Result ⊤ Code) → Looks P line source name n r
    → r ≡ unless_too_big (first_too_big line source name 0 ts)
answer_is line source name d P ts n long reads (Ok t) l = ap unless_too_big (sym (listed_none line source name d P ts n long reads l))
answer_is line source name d P ts n long reads (Err c) l =
    ap Err l.1.0 ∙ ap unless_too_big (sym (listed_first line source name d P ts n long reads l.0 l.1.1))

module _ (line source name : ℕ) (table : List ℕ) where
  -- the tokens of a table
  pub looked : (P : ℕ → Token → Type 0) (n : ℕ) → bad_table (length table) ≡ false → n ≡ places (length table)
      → ((k : ℕ) (t : Token) → k < n → P k t → t ≡ token_at table k) → (r : Result ⊤ Code) → Looks P line source name n r → r ≡ translates_to line source name table
  looked P n good en reads r l =
      answer_is line source name (token_at table 0) P (tokens_of table) n (length_tokens table 0 (places (length table)) ∙ sym en)
      (λ k t h p. reads k t h p ∙ sym (let z : 0 + k ≡ k = omega arith in read_at table (token_at table 0) 0 (places (length table)) k (omega (arith, en)) ∙ ap (token_at table) z))
      r l
      ∙ sym (is_first line source name table good)

  none_if : (b : Bool) (o : Option ℕ) → Ok tt ≡ pick b (Err Code.BadTable) (unless_too_big o) → o ≡ None
  none_if true o e = absurd (cc)
  none_if false None e = refl
  none_if false (Some i) e = absurd (cc)

  module _ (e : Ok tt ≡ translates_to line source name table) where
    pub none_big : first_too_big line source name 0 (tokens_of table) ≡ None
    unfolding translates_to
    none_big = none_if (bad_table (length table)) (first_too_big line source name 0 (tokens_of table)) e

    pub done : (table' : List ℕ) → table' ≡ over (all_moved line source name (tokens_of table)) table → Translates line source name table (Ok tt) table'
    done table' et = record { says = e; wrote = rw (← e) et }

  -- a refusal leaves the table as it was
  pub refused : (c : Code) → Err c ≡ translates_to line source name table → Translates line source name table (Err c) table
  refused c e = record { says = e; wrote = rw (← e) }

pub one_answer : {line source name : ℕ} {table : List ℕ} {r s : Result ⊤ Code} {t u : List ℕ}
    → Translates line source name table r t → Translates line source name table s u → (r ≡ s) × (t ≡ u)
one_answer a b = (a.says ∙ sym b.says, a.wrote ∙ sym b.wrote)
