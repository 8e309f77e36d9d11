-- Helpers: what inner contracts and proofs need; no contract of an entry and no theorem reaches this file.
-- What a function that writes into lent bytes says. Assumes nothing.
use Rattle.std.specs.Prelude.{◌≡◌, List, ℕ, ◌+◌, length}
use Rattle.list.specs.Memory.{blit}

-- bs stand at the place at, the rest is kept, and r is the place after them
pub record Put (out : List ℕ) (at : ℕ) (bs : List ℕ) (r : ℕ) (out' : List ℕ) : Type 0 where
  pub past : r ≡ at + length bs
  pub wrote : out' ≡ blit out at bs
