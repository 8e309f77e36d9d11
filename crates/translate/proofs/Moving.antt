-- The second loop: at turn i the tokens before the i-th are moved, and the others are as they were. Assumes nothing.
use Rattle.std.proofs.Common.{◌≡◌, ℕ, suc, ◌+◌, ◌-◌, ◌*◌, ◌<◌, ◌≤◌, Bool, true, false, List, [], ◌∷◌, ◌++◌, length, get_or, drop, sym, refl, ap, ◌∙◌, ap₂, zero-add, arith, get_or-drop, get_or-append-add}
use Rattle.std.specs.Prelude.{Some, None}
use native.Mathlib.Nat.{sub-zero}
use Rattle.list.specs.Memory.{onto}
use Rattle.list.proofs.Memory.{onto_nil}
use Rattle.token.specs.Table.{width, places, token_at, tokens_from, tokens_of, put_token, flat, over}
use Rattle.token.specs.declared.Token.{Token}
use Rattle.token.proofs.Laws.{length_flat, length_over, length_tokens, put_over, tokens_add, tokens_step}
use Rattle.translate.specs.Translate.{too_big, moved, all_moved, first_too_big}
use Rattle.translate.proofs.Scan.{first_here, first_on}

-- past what is written, the numbers are as they were
onto_past : (ws xs : List ℕ) (k : ℕ) → length ws ≤ k → get_or (onto ws xs) k 0 ≡ get_or xs k 0
unfolding onto
onto_past ws xs k h =
    let e : k ≡ length ws + (k - length ws) = omega arith in
    rw e (get_or-append-add ws (drop (length ws) xs) (k - length ws) 0 ∙ get_or-drop (length ws) xs (k - length ws) 0)

-- past ts, the tokens are as they were
pub token_past : (ts : List Token) (xs : List ℕ) (i : ℕ) → length ts ≤ i → token_at (over ts xs) i ≡ token_at xs i
unfolding token_at
token_past ts xs i h =
    let e = length_flat ts in
    rw (
      onto_past (flat ts) xs (width * i) (omega arith),
      onto_past (flat ts) xs (width * i + 1) (omega arith),
      onto_past (flat ts) xs (width * i + 2) (omega arith),
      onto_past (flat ts) xs (width * i + 3) (omega arith),
      onto_past (flat ts) xs (width * i + 4) (omega arith),
      onto_past (flat ts) xs (width * i + 5) (omega arith),
      onto_past (flat ts) xs (width * i + 6) (omega arith),
    )

module _ (line source name : ℕ) where
  pub length_moved : (ts : List Token) → length (all_moved line source name ts) ≡ length ts
  unfolding all_moved
  length_moved [] = refl
  length_moved (t ∷ ts) = ap suc (length_moved ts)

  pub moved_append : (a b : List Token) → all_moved line source name (a ++ b) ≡ all_moved line source name a ++ all_moved line source name b
  unfolding all_moved
  moved_append [] b = refl
  moved_append (t ∷ a) b = ap (λ (r : List Token). moved line source name t ∷ r) (moved_append a b)

  moved_one : (t : Token) → all_moved line source name (t ∷ []) ≡ moved line source name t ∷ []
  unfolding all_moved
  moved_one t = refl

  -- where no token is too big, the first is not
  not_first : (i : ℕ) (t : Token) (ts : List Token) (b : Bool) → too_big line source name t ≡ b → first_too_big line source name i (t ∷ ts) ≡ None → b ≡ false
  not_first i t ts true e n = let c : Some i ≡ None = sym (first_here line source name i t ts e) ∙ n in let z : ◌≡◌ {A = ℕ} 0 1 = cc in absurd (omega arith)
  not_first i t ts false e n = refl

  one_more : (table : List ℕ) (i : ℕ) → tokens_from table 0 (i + 1) ≡ tokens_from table 0 i ++ (token_at table i ∷ [])
  unfolding tokens_from
  one_more table i = tokens_add table 0 i 1 ∙ rw zero-add

  abbrev front : List ℕ → ℕ → List Token
  front table i = all_moved line source name (tokens_from table 0 i)

  length_front : (table : List ℕ) (i : ℕ) → length (front table i) ≡ i
  length_front table i = length_moved (tokens_from table 0 i) ∙ length_tokens table 0 i

  -- all is the number of tokens
  pub record Moving (before table : List ℕ) (all i : ℕ) : Type 0 where
    pub counted : all ≡ places (length before)
    pub within : i ≤ all
    pub wrote : table ≡ over (all_moved line source name (tokens_from before 0 i)) before
    pub rest : first_too_big line source name i (tokens_from before i (all - i)) ≡ None

  pub start : (before : List ℕ) (all : ℕ) → first_too_big line source name 0 (tokens_of before) ≡ None → all ≡ places (length before) → Moving before before all 0
  unfolding all_moved tokens_from flat
  start before all e ea =
      record {
        counted = ea;
        within = omega arith;
        wrote = sym (onto_nil before);
        rest = ap (λ (k : ℕ). first_too_big line source name 0 (tokens_from before 0 k)) (sub-zero all ∙ ea) ∙ e;
      }

  module _ (before table : List ℕ) (all i : ℕ) (f : Moving before table all i) where
    pub long : length table ≡ length before
    long = ap length f.wrote ∙ length_over (front before i) before (omega (arith, length_front before i, f.counted, f.within))

    module _ (h : i < all) where
      module _ (t : Token) (et : t ≡ token_at table i) where
        same : t ≡ token_at before i
        same = et ∙ ap (λ (l : List ℕ). token_at l i) f.wrote ∙ token_past (front before i) before i (omega (arith, length_front before i))

        rest_on : first_too_big line source name i (t ∷ tokens_from before (i + 1) (all - (i + 1))) ≡ None
        rest_on = ap (first_too_big line source name i) (sym (tokens_step before i all t same h)) ∙ f.rest

        pub fine : too_big line source name t ≡ false
        fine = not_first i t (tokens_from before (i + 1) (all - (i + 1))) (too_big line source name t) refl rest_on

        pub puts : (t' : Token) (table' : List ℕ) → t' ≡ moved line source name t → table' ≡ put_token table i t' → Moving before table' all (i + 1)
        puts t' table' em ep =
            let k : length (front before i) ≡ i = length_front before i in
            let m : front before (i + 1) ≡ front before i ++ (t' ∷ []) =
            ap (all_moved line source name) (one_more before i ∙ ap (λ (a : Token). tokens_from before 0 i ++ (a ∷ [])) (sym same))
            ∙ moved_append (tokens_from before 0 i) (t ∷ [])
            ∙ ap (λ (l : List Token). front before i ++ l) (moved_one t ∙ ap (λ (a : Token). a ∷ []) (sym em)) in
            record {
              counted = f.counted;
              within = omega arith;
              wrote =
                  ep
                  ∙ ap₂ (λ (l : List ℕ) (n : ℕ). put_token l n t') f.wrote (sym k)
                  ∙ put_over (front before i) before t' (omega (arith, f.counted))
                  ∙ ap (λ (l : List Token). over l before) (sym m);
              rest = sym (first_on line source name i t (tokens_from before (i + 1) (all - (i + 1))) fine) ∙ rest_on;
            }
