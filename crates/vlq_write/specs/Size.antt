-- Helpers: what inner contracts and proofs need; no contract of an entry and no theorem reaches this file.
-- What is said of sizes. Assumes nothing.
use Rattle.std.specs.Prelude.{◌≡◌, ℕ, ◌≤◌, length, nat_lt}
use Rattle.list.specs.Pick.{pick}
use Rattle.vlq_write.specs.Write.{vlq_value, write_of}

-- 1 where v reaches m, else 0
pub record Reaches (v m r : ℕ) : Type 0 where
  pub is : r ≡ pick (nat_lt v m) 0 1
  pub flag : r ≤ 1

-- the digits of the step from b to a are r, seven at the most
pub record StepSize (a b r : ℕ) : Type 0 where
  pub is : r ≡ length (write_of (vlq_value a b))
  pub few : r ≤ 7
