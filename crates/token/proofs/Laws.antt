-- Laws of token tables. Assumes nothing.
use mathlib.Core.Path.{◌≡◌, refl, ap, ap₂, sym, ◌∙◌}
use mathlib.Core.List.{List, [], ◌∷◌, ◌++◌, append_assoc}
use Prim.Native.Nat.{ℕ, zero, suc, ◌+◌, ◌-◌, ◌*◌, ◌≤◌, ◌<◌}
use native.Mathlib.Omega.{arith}
use native.Mathlib.Nat.{zero-add, add-zero, suc-add}
use lib.ListN.{length, take, drop, set}
use lib.Seq.{sets-eq}
use Rattle.list.specs.Memory.{onto, blit}
use Rattle.list.proofs.Memory.{length_onto, blit_onto}
use Rattle.token.specs.declared.Token.{Token}
use Rattle.token.specs.Table.{row, width, places, token_at, tokens_from, put_token, flat, over}

-- a token's numbers, stored one after the other
pub stored : (xs : List ℕ) (i a b c d e f g : ℕ) → i + width ≤ length xs
    → set (set (set (set (set (set (set xs i a) (i + 1) b) (i + 2) c) (i + 3) d) (i + 4) e) (i + 5) f) (i + 6) g
    ≡ blit xs i (a ∷ b ∷ c ∷ d ∷ e ∷ f ∷ g ∷ [])
unfolding blit
stored xs i a b c d e f g h =
    let e₁ : i + 1 ≡ suc i = omega arith in
    let e₂ : i + 2 ≡ suc (suc i) = omega arith in
    let e₃ : i + 3 ≡ suc (suc (suc i)) = omega arith in
    let e₄ : i + 4 ≡ suc (suc (suc (suc i))) = omega arith in
    let e₅ : i + 5 ≡ suc (suc (suc (suc (suc i)))) = omega arith in
    let e₆ : i + 6 ≡ suc (suc (suc (suc (suc (suc i))))) = omega arith in
    rw (e₁, e₂, e₃, e₄, e₅, e₆)
    (sets-eq (a ∷ b ∷ c ∷ d ∷ e ∷ f ∷ g ∷ []) xs i h
    ∙ append_assoc (take i xs) (a ∷ b ∷ c ∷ d ∷ e ∷ f ∷ g ∷ []) (drop (i + 7) xs))

pub length_flat : (ts : List Token) → length (flat ts) ≡ width * length ts
unfolding flat
length_flat [] = refl
length_flat (t ∷ ts) = omega (arith, length_flat ts)

pub flat_append : (a b : List Token) → flat (a ++ b) ≡ flat a ++ flat b
unfolding flat
flat_append [] b = refl
flat_append (t ∷ a) b = ap (λ (r : List ℕ). row t ++ r) (flat_append a b)

pub length_over : (ts : List Token) (xs : List ℕ) → length ts ≤ places (length xs) → length (over ts xs) ≡ length xs
length_over ts xs h = length_onto (flat ts) xs (omega (arith, length_flat ts))

flat_one : (t : Token) → flat (t ∷ []) ≡ row t
unfolding flat
flat_one t = refl

-- a token put right after ts
pub put_over : (ts : List Token) (xs : List ℕ) (t : Token) → length ts < places (length xs)
    → put_token (over ts xs) (length ts) t ≡ over (ts ++ (t ∷ [])) xs
unfolding put_token
put_over ts xs t h =
    let e : width * length ts ≡ length (flat ts) = sym (length_flat ts) in
    ap (λ (n : ℕ). blit (over ts xs) n (row t)) e
    ∙ blit_onto (flat ts) (row t) xs (omega (arith, length_flat ts))
    ∙ ap (λ (l : List ℕ). onto (flat ts ++ l) xs) (sym (flat_one t))
    ∙ ap (λ (l : List ℕ). onto l xs) (sym (flat_append ts (t ∷ [])))

pub length_tokens : (xs : List ℕ) (i n : ℕ) → length (tokens_from xs i n) ≡ n
unfolding tokens_from
length_tokens xs i zero = refl
length_tokens xs i (suc n) = ap suc (length_tokens xs (i + 1) n)

-- n tokens and then m are n + m
pub tokens_add : (xs : List ℕ) (i n m : ℕ) → tokens_from xs i (n + m) ≡ tokens_from xs i n ++ tokens_from xs (i + n) m
unfolding tokens_from
tokens_add xs i zero m = rw (zero-add, add-zero)
tokens_add xs i (suc n) m =
    let e : i + 1 + n ≡ i + suc n = omega arith in
    rw (suc-add) (ap (λ (r : List Token). token_at xs i ∷ r) (tokens_add xs (i + 1) n m ∙ rw e))

-- the tokens up to an end: the next and the others, or none
pub tokens_step : (xs : List ℕ) (i end : ℕ) (t : Token) → t ≡ token_at xs i → i < end
    → tokens_from xs i (end - i) ≡ t ∷ tokens_from xs (i + 1) (end - (i + 1))
unfolding tokens_from
tokens_step xs i end t et h =
    let e : end - i ≡ suc (end - (i + 1)) = omega arith in
    rw (e, et)

pub tokens_none : (xs : List ℕ) (i end : ℕ) → end ≤ i → tokens_from xs i (end - i) ≡ []
unfolding tokens_from
tokens_none xs i end h =
    let e : end - i ≡ 0 = omega arith in
    rw e

-- past the numbers of one token, a token is the one before
at_shift : (t : Token) (xs : List ℕ) (i : ℕ) → token_at (row t ++ xs) (i + 1) ≡ token_at xs i
unfolding token_at
at_shift t xs i =
    let e₀ : width * (i + 1) ≡ suc (suc (suc (suc (suc (suc (suc (width * i))))))) = omega arith in
    let e₁ : width * (i + 1) + 1 ≡ suc (suc (suc (suc (suc (suc (suc (width * i + 1))))))) = omega arith in
    let e₂ : width * (i + 1) + 2 ≡ suc (suc (suc (suc (suc (suc (suc (width * i + 2))))))) = omega arith in
    let e₃ : width * (i + 1) + 3 ≡ suc (suc (suc (suc (suc (suc (suc (width * i + 3))))))) = omega arith in
    let e₄ : width * (i + 1) + 4 ≡ suc (suc (suc (suc (suc (suc (suc (width * i + 4))))))) = omega arith in
    let e₅ : width * (i + 1) + 5 ≡ suc (suc (suc (suc (suc (suc (suc (width * i + 5))))))) = omega arith in
    let e₆ : width * (i + 1) + 6 ≡ suc (suc (suc (suc (suc (suc (suc (width * i + 6))))))) = omega arith in
    rw (e₆, e₅, e₄, e₃, e₂, e₁, e₀)

tokens_shift : (t : Token) (xs : List ℕ) (i n : ℕ) → tokens_from (row t ++ xs) (i + 1) n ≡ tokens_from xs i n
unfolding tokens_from
tokens_shift t xs i zero = refl
tokens_shift t xs i (suc n) = ap₂ (λ (a : Token) (r : List Token). a ∷ r) (at_shift t xs i) (tokens_shift t xs (i + 1) n)

at_first : (t : Token) (xs : List ℕ) → token_at (row t ++ xs) 0 ≡ t
unfolding token_at
at_first t xs = refl

-- the tokens read back
pub tokens_flat : (ts : List Token) (r : List ℕ) → tokens_from (flat ts ++ r) 0 (length ts) ≡ ts
unfolding tokens_from flat
tokens_flat [] r = refl
tokens_flat (t ∷ ts) r =
    ap₂ (λ (a : Token) (q : List Token). a ∷ q) (at_first t (flat ts ++ r))
    (tokens_shift t (flat ts ++ r) 0 (length ts) ∙ tokens_flat ts r)
