-- Translating a list of records: what the loop that moves knows, what each answer says, and that there is one. Assumes nothing.
use mathlib.Core.Path.{◌≡◌, refl, sym, ◌∙◌, ap}
use mathlib.Core.Bool.{Bool, true, false}
use mathlib.Core.List.{List, [], ◌∷◌, ◌++◌, map, map-append, append-nil}
use Prim.Native.Nat.{ℕ, zero, suc, ◌+◌, ◌≤◌, ◌<◌}
use native.Mathlib.Numerals.{add-one}
use native.Mathlib.Omega.{arith}
use lib.Dec.{ltb}
use lib.ListN.{length, get_or, set, take, drop, length-map}
use lib.Seq.{drop-cons, take-suc, take-length, drop-length, length-take-le, get_or_at, set_at, append_snoc}
use borrow.Author.Tests.{lt-ltb, le-ltb}
use Rattle.std.specs.Prelude.{Option, Some, None, Result, Ok, Err, is_ok, ⊤}
use Rattle.list.specs.Pick.{pick}
use Rattle.code.specs.declared.Code.{Code}
use Rattle.token.specs.declared.Token.{Token}
use Rattle.translate.specs.Translate.{too_big, moved, all_moved, first_too_big, unless_too_big}
use Rattle.translate.specs.Looks.{Looks}
use Rattle.translate.proofs.Scan.{first_here, first_on}
use Rattle.translate.proofs.Whole.{answer_is}
use Rattle.records.specs.Records.{records_to, TranslatesRecords}

-- what stands past a list's end
abbrev pub no_token : Token
no_token = record { dst_line = 0; dst_col = 0; src_line = 0; src_col = 0; source_id = 0; name_id = 0; segment = 0 }

-- ---- a list whose first i elements have been replaced by f of them
module _ {A : Type 0} (f : A → A) (ys : List A) where
  abbrev pub mapped_to : ℕ → List A
  mapped_to i = map f (take i ys) ++ drop i ys

  front : (i : ℕ) → i ≤ length ys → length (map f (take i ys)) ≡ i
  front i h = length-map (take i ys) f ∙ length-take-le i ys h

  pub mapped_here : (i : ℕ) (d : A) → i < length ys → get_or (mapped_to i) i d ≡ get_or ys i d
  mapped_here i d h = rw (drop-cons ys i d h) (get_or_at (map f (take i ys)) (get_or ys i d) (drop (suc i) ys) d i (front i (omega arith)))

  pub mapped_next : (i : ℕ) (d : A) → i < length ys → set (mapped_to i) i (f (get_or ys i d)) ≡ mapped_to (i + 1)
  mapped_next i d h =
      rw (drop-cons ys i d h, add-one, take-suc ys i d h, map-append f (take i ys) (get_or ys i d ∷ []))
      (set_at (map f (take i ys)) (get_or ys i d) (drop (suc i) ys) (f (get_or ys i d)) i (front i (omega arith)) ∙ sym (append_snoc (map f (take i ys)) (f (get_or ys i d)) (drop (suc i) ys)))

  pub mapped_all : mapped_to (length ys) ≡ map f ys
  mapped_all = rw (take-length ys, drop-length ys) (append-nil (map f ys))

pub all_map : (line source name : ℕ) (ts : List Token) → map (moved line source name) ts ≡ all_moved line source name ts
unfolding all_moved
all_map line source name [] = refl
all_map line source name (t ∷ ts) = ap (λ (r : List Token). moved line source name t ∷ r) (all_map line source name ts)

module _ (line source name : ℕ) (ts : List Token) where
  pub too_many : 4294967294 < length ts → Err Code.BadTable ≡ records_to line source name ts
  unfolding records_to
  too_many h = rw (lt-ltb 4294967294 (length ts) h)

  pub looked : (P : ℕ → Token → Type 0) → length ts ≤ 4294967294 → (r : Result ⊤ Code) → Looks P line source name (length ts) r
      → ((k : ℕ) (t : Token) → k < length ts → P k t → t ≡ get_or ts k no_token) → r ≡ records_to line source name ts
  unfolding records_to
  looked P few r l reads = rw (le-ltb 4294967294 (length ts) few) (answer_is line source name no_token P ts (length ts) refl reads r l)

  -- the list is translated where the answer is Ok
  pub answered : (r : Result ⊤ Code) (ts' : List Token) → records_to line source name ts ≡ r → ts' ≡ pick (is_ok r) (all_moved line source name ts) ts
      → TranslatesRecords line source name ts r ts'
  answered r ts' e w = record { says = sym e; wrote = w ∙ ap (λ (q : Result ⊤ Code). pick (is_ok q) (all_moved line source name ts) ts) (sym e) }

  -- no record is too big
  pub cleared : length ts ≤ 4294967294 → ((k : ℕ) → k < length ts → too_big line source name (get_or ts k no_token) ≡ false) → records_to line source name ts ≡ Ok tt
  cleared few small =
      sym (looked (λ k t. t ≡ get_or ts k no_token) few (Ok tt) (λ k h. (get_or ts k no_token, (refl, small k h))) (λ k t h e. e))

  -- no token before the i-th is too big
  pub is_first : length ts ≤ 4294967294 → (i : ℕ) → first_too_big line source name 0 ts ≡ first_too_big line source name i (drop i ts)
      → records_to line source name ts ≡ unless_too_big (first_too_big line source name i (drop i ts))
  unfolding records_to
  is_first few i rest = rw (le-ltb 4294967294 (length ts) few) (ap unless_too_big rest)

  none_if : (b : Bool) (o : Option ℕ) → Ok tt ≡ pick b (Err Code.BadTable) (unless_too_big o) → o ≡ None
  none_if true o e = absurd (cc)
  none_if false None e = refl
  none_if false (Some i) e = absurd (cc)

  pub none_big : Ok tt ≡ records_to line source name ts → first_too_big line source name 0 ts ≡ None
  unfolding records_to
  none_big e = none_if (ltb 4294967294 (length ts)) (first_too_big line source name 0 ts) e

-- where none is the first that is too big, none is
module _ (line source name : ℕ) where
  head : (i : ℕ) (t : Token) (ts : List Token) (b : Bool) → too_big line source name t ≡ b → first_too_big line source name i (t ∷ ts) ≡ None → too_big line source name t ≡ false
  head i t ts true e n = absurd (let c : Some i ≡ None = sym (first_here line source name i t ts e) ∙ n in cc)
  head i t ts false e n = e

  pub all_small : (i : ℕ) (ts : List Token) → first_too_big line source name i ts ≡ None → (k : ℕ) → k < length ts → too_big line source name (get_or ts k no_token) ≡ false
  all_small i [] n k h = absurd (omega arith)
  all_small i (t ∷ ts) n zero h = head i t ts (too_big line source name t) refl n
  all_small i (t ∷ ts) n (suc k) h =
      all_small (i + 1) ts (sym (first_on line source name i t ts (head i t ts (too_big line source name t) refl n)) ∙ n) k (omega arith)

pub one_answer : {line source name : ℕ} {ts : List Token} {r q : Result ⊤ Code} {t u : List Token}
    → TranslatesRecords line source name ts r t → TranslatesRecords line source name ts q u → (r ≡ q) × (t ≡ u)
one_answer a b = (a.says ∙ sym b.says, a.wrote ∙ sym b.wrote)
