-- Helpers: what inner contracts and proofs need; no contract of an entry and no theorem reaches this file.
-- What the steps ask of a segment's values, and the reader gives; and what a value that broke refuses. Assumes nothing.
use Rattle.std.specs.Prelude.{ℕ, ◌^◌, ◌≤◌, nat_abs}
use Rattle.segment.specs.declared.Segment.{Segment}
use Rattle.code.specs.declared.Code.{Code}
use Rattle.vlq.specs.declared.Broken.{Broken}
use Rattle.apply.specs.Apply.{num, refusal}
use Rattle.apply.specs.declared.About.{About}
use Rattle.apply.specs.declared.Refusal.{Refusal}

-- every value lies from -2^62 to 2^62
pub record Small (g : Segment) : Type 0 where
  pub small : (field : ℕ) → nat_abs (num field g) ≤ 2 ^ 62

-- the refusal of a segment of which a value broke
abbrev pub broken : Broken → Refusal
broken (Broken.Leftover place) = refusal Code.VlqLeftover (About.Place place)
broken (Broken.Overflow place) = refusal Code.VlqOverflow (About.Place place)
