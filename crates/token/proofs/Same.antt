-- Tokens that agree in their first six numbers: what does not look at where a segment begins is the same for both. Assumes nothing.
use mathlib.Core.Path.{◌≡◌, refl, sym, ◌∙◌, ap}
use mathlib.Core.List.{List, [], ◌∷◌, map}
use Prim.Native.Nat.{ℕ, zero, suc, ◌+◌, ◌<◌}
use native.Mathlib.Omega.{arith}
use native.Mathlib.Nat.{zero-add, add-zero}
use lib.ListN.{length, get_or, drop, length-map}
use Rattle.token.specs.declared.Token.{Token}
use Rattle.token.specs.Table.{no_segment, token, with_segment, first_six, SameTokens, places, token_at, tokens_from, tokens_of}
use Rattle.token.proofs.Laws.{length_tokens}

-- the token that does not say where its segment begins
abbrev pub bare : Token → Token
bare t = with_segment t no_segment

abbrev six_token : List ℕ → Token
six_token xs = token (get_or xs 0 0) (get_or xs 1 0) (get_or xs 2 0) (get_or xs 3 0) (get_or xs 4 0) (get_or xs 5 0) no_segment

of_six : (ts : List Token) → map bare ts ≡ map six_token (map first_six ts)
of_six [] = refl
of_six (t ∷ ts) = ap (λ (r : List Token). bare t ∷ r) (of_six ts)

pub same_bare : (a b : List Token) → SameTokens a b → map bare a ≡ map bare b
same_bare a b e = of_six a ∙ ap (map six_token) e ∙ sym (of_six b)

-- so a function that gives bare tokens what it gives the tokens goes by the first six numbers
pub by_six : {A : Type 0} (f : List Token → A) → ((ts : List Token) → f (map bare ts) ≡ f ts) → (a b : List Token) → SameTokens a b → f a ≡ f b
by_six f h a b e = sym (h a) ∙ ap f (same_bare a b e) ∙ h b

pub same_length : (a b : List Token) → SameTokens a b → length a ≡ length b
same_length a b e = sym (length-map a first_six) ∙ ap length e ∙ length-map b first_six

-- of two tables: as many tokens, and each agrees with the one in its place
module _ (a b : List ℕ) where
  same_from : (i n : ℕ) → SameTokens (tokens_from a i n) (tokens_from b i n) → (k : ℕ) → k < n → bare (token_at a (i + k)) ≡ bare (token_at b (i + k))
  unfolding tokens_from
  same_from i zero e k h = absurd (omega arith)
  same_from i (suc n) e zero h = rw add-zero (ap (λ (l : List (List ℕ)). six_token (get_or l 0 [])) e)
  same_from i (suc n) e (suc k) h =
      let q : i + suc k ≡ i + 1 + k = omega arith in
      rw q (same_from (i + 1) n (ap (drop 1) e) k (omega arith))

  pub same_places : SameTokens (tokens_of a) (tokens_of b) → places (length a) ≡ places (length b)
  same_places e = sym (length_tokens a 0 (places (length a))) ∙ same_length (tokens_of a) (tokens_of b) e ∙ length_tokens b 0 (places (length b))

  pub same_at : SameTokens (tokens_of a) (tokens_of b) → (k : ℕ) → k < places (length a) → bare (token_at a k) ≡ bare (token_at b k)
  same_at e k h =
      rw zero-add at
      (same_from 0 (places (length a)) (e ∙ ap (λ (n : ℕ). map first_six (tokens_from b 0 n)) (sym (same_places e))) k h)
