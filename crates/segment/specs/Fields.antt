-- Helpers: what inner contracts and proofs need; no contract of an entry and no theorem reaches this file.
-- One field as the loop over them takes it: a value in place of its bits; and where a field begins, from its digits alone.
-- Assumes nothing.
use Rattle.std.specs.Prelude.{ℕ, zero, suc, ◌+◌, List, [], ◌∷◌, nat_lt, Option, Some, None, Result, Ok, Err, ℤ}
use Rattle.list.specs.Pick.{pick}
use Rattle.digits.specs.Digits.{class_of}
use Rattle.value.specs.Value.{value_of}
use Rattle.value.specs.declared.Mode.{Mode}
use Rattle.vlq.specs.Vlq.{vlq_at, Vlq}
use Rattle.vlq.specs.declared.Broken.{Broken}

-- what stands at a place of the text: nothing more of its segment; or a value, none where it is too wide, and the place after it; or where
-- one broke
abbrev pub Parsed : Type 0
Parsed = Result (Option (Option ℤ × ℕ)) Broken

abbrev pub parsed : Mode → Vlq → Parsed
parsed mode (Ok None) = Ok None
parsed mode (Ok (Some (bits, lost, next))) = Ok (Some (value_of mode bits lost, next))
parsed mode (Err b) = Err b

unfoldable pub parsed_at : Mode → List ℕ → ℕ → Parsed
parsed_at mode s at = parsed mode (vlq_at s at)

-- the first field that is too wide, where the one of this index is: that found before, or this if it is one of the first five
abbrev pub widened : Option ℕ → ℕ → Option ℕ
widened (Some i) count = Some i
widened None count = pick (nat_lt count 5) (Some count) None

-- the place past so many digits that end a value; the bytes stand at the place `at`
unfoldable pub place_from : ℕ → ℕ → List ℕ → ℕ
place_from zero at bs = at
place_from (suc k) at [] = at
place_from (suc k) at (b ∷ bs) = pick (nat_lt (class_of b) 32) (place_from k (at + 1) bs) (place_from (suc k) (at + 1) bs)
