-- Helpers: what inner contracts and proofs need; no contract of an entry and no theorem reaches this file.
-- Tokens that a function reads, one by its index: whether one is too big. Assumes nothing.
use Rattle.std.specs.Prelude.{◌≡◌, ℕ, ◌<◌, true, false, Result, Ok, Err, ⊤}
use Rattle.code.specs.declared.Code.{Code}
use Rattle.token.specs.declared.Token.{Token}
use Rattle.translate.specs.Translate.{too_big}

-- P says of an index and a token that the token is read there; of the first n none is too big
abbrev pub AllSmall : (ℕ → Token → Type 0) → ℕ → ℕ → ℕ → ℕ → Type 0
AllSmall P line source name n = (k : ℕ) → k < n → (t : Token) × (P k t × (too_big line source name t ≡ false))

-- the i-th is the first of n that is too big
pub record FirstBig (P : ℕ → Token → Type 0) (line source name n i : ℕ) : Type 0 where
  pub within : i < n
  pub before_it : AllSmall P line source name i
  pub token : Token
  pub read : P i token
  pub big : too_big line source name token ≡ true

abbrev pub Looks : (ℕ → Token → Type 0) → ℕ → ℕ → ℕ → ℕ → Result ⊤ Code → Type 0
Looks P line source name n (Ok t) = AllSmall P line source name n
Looks P line source name n (Err c) = (i : ℕ) × ((c ≡ Code.TooBig i) × FirstBig P line source name n i)
