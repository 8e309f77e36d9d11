-- The table form and the record form are one translation. Assumes nothing.
use mathlib.Core.Path.{◌≡◌, sym, ◌∙◌, ap, ap₂}
use mathlib.Core.Bool.{Bool, true, false}
use mathlib.Core.List.{List, [], append-nil}
use Prim.Native.Nat.{ℕ, ◌*◌}
use native.Mathlib.Omega.{arith}
use lib.ListN.{length, drop_of_length-le}
use borrow.Author.Tests.{le-ltb}
use Rattle.list.specs.Memory.{onto}
use Rattle.list.specs.Pick.{pick}
use Rattle.std.specs.Prelude.{Result, is_ok, ⊤}
use Rattle.code.specs.declared.Code.{Code}
use Rattle.token.specs.Table.{width, places, bad_table, tokens_from, tokens_of, flat, over}
use Rattle.token.specs.declared.Token.{Token}
use Rattle.token.proofs.Laws.{length_flat, length_tokens, tokens_flat}
use Rattle.translate.specs.Translate.{all_moved, translates_to, Translates}
use Rattle.translate.proofs.Moving.{length_moved}
use Rattle.token.proofs.Whole.{few, flat_tokens, whole_tokens}
use Rattle.records.specs.Records.{records_to, TranslatesRecords}

-- ---- tokens of a table that has nothing past its last token, as numbers again
whole : (xs : List ℕ) → bad_table (length xs) ≡ false → length xs ≡ width * places (length xs)
whole xs e = sym (whole_tokens xs e)

over_all : (ts : List Token) (xs : List ℕ) → length xs ≡ width * length ts → over ts xs ≡ flat ts
unfolding onto
over_all ts xs e =
    rw (drop_of_length-le xs {i = length (flat ts)} (omega (arith, length_flat ts))) (append-nil (flat ts))

tokens_of_flat : (ts : List Token) → tokens_of (flat ts) ≡ ts
tokens_of_flat ts =
    let e : places (length (flat ts)) ≡ length ts = omega (arith, length_flat ts) in
    ap₂ (λ (k : ℕ) (l : List ℕ). tokens_from l 0 k) e (sym (append-nil (flat ts))) ∙ tokens_flat ts []

-- ---- the law
pick_flat : (b : Bool) (xs ys : List ℕ) (a c : List Token) → xs ≡ flat a → ys ≡ flat c → pick b xs ys ≡ flat (pick b a c)
pick_flat true xs ys a c e f = e
pick_flat false xs ys a c e f = f

module _ (line source name : ℕ) (xs : List ℕ) (e : bad_table (length xs) ≡ false) where
  pub same_code : records_to line source name (tokens_of xs) ≡ translates_to line source name xs
  unfolding records_to translates_to
  same_code = rw (e, le-ltb 4294967294 (length (tokens_of xs)) (omega (arith, few (length xs) e, length_tokens xs 0 (places (length xs)))))

  same_numbers : over (all_moved line source name (tokens_of xs)) xs ≡ flat (all_moved line source name (tokens_of xs))
  same_numbers =
      over_all (all_moved line source name (tokens_of xs)) xs
      (omega (arith, whole xs e, length_moved line source name (tokens_of xs), length_tokens xs 0 (places (length xs))))

  -- on a table and on its tokens: the same answer, and the slice's records are the tokens of the table that is left
  pub agree : {r : Result ⊤ Code} {xs' : List ℕ} {a : Result ⊤ Code} {ts' : List Token}
      → Translates line source name xs r xs' → TranslatesRecords line source name (tokens_of xs) a ts'
      → (a ≡ r) × ((xs' ≡ flat ts') × (tokens_of xs' ≡ ts'))
  agree {r} {xs'} {a} {ts'} t u = (u.says ∙ same_code ∙ sym t.says, (f, ap tokens_of f ∙ tokens_of_flat ts'))
    where
      f : xs' ≡ flat ts'
      f =
          t.wrote
          ∙ ap (λ (c : Result ⊤ Code). pick (is_ok c) (over (all_moved line source name (tokens_of xs)) xs) xs) (sym same_code)
          ∙ pick_flat (is_ok (records_to line source name (tokens_of xs))) (over (all_moved line source name (tokens_of xs)) xs) xs (all_moved line source name (tokens_of xs)) (tokens_of xs) same_numbers (sym (flat_tokens xs e))
          ∙ ap flat (sym u.wrote)
