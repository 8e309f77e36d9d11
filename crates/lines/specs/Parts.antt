-- Helpers: what inner contracts and proofs need; no contract of an entry and no theorem reaches this file.
-- A part of a line, and what a function that writes at most so many bytes says. Assumes nothing.
use Rattle.std.specs.Prelude.{List, [], ◌∷◌, ◌++◌, ℕ, ◌≤◌, length}
use Rattle.list.specs.Put.{Put}
use Rattle.decimal.specs.Decimal.{figures_of}

-- a number and the space after it
abbrev pub spaced : ℕ → List ℕ
spaced n = figures_of n ++ (32 ∷ [])

-- bs, which are at most so many, stand at the place at, the rest is kept, and r is the place after them
pub record PutMost (most : ℕ) (out : List ℕ) (at : ℕ) (bs : List ℕ) (r : ℕ) (out' : List ℕ) : Type 0 where
  pub put : Put out at bs r out'
  pub few : length bs ≤ most
