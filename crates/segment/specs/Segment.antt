-- docs/RULES.md, Mappings: all values of a segment, up to a delimiter or the end. Assumes nothing.
use Rattle.std.specs.Prelude.{ℕ, zero, suc, ◌+◌, ◌-◌, List, [], ◌∷◌, ◌++◌, length, take, drop, ℤ, pos, nat_lt, Option, Some, None, Result, Ok, Err}
use Rattle.list.specs.Pick.{pick, both}
use Rattle.value.specs.Value.{value_of, number_of, is_wide}
use Rattle.value.specs.declared.Mode.{Mode}
use Rattle.vlq.specs.Vlq.{vlq_of, Vlq}
use Rattle.segment.specs.declared.Segment.{Segment}
use Rattle.vlq.specs.declared.Broken.{Broken}

-- a field: its value, and the place where it begins
pub record Field : Type 0 where
  pub value : Option ℤ
  pub start : ℕ

-- the fields of a segment and the place after them, or the place where one broke
pub data Fields : Type 0 where
  whole : List Field → ℕ → Fields
  leftover : ℕ → Fields
  overflow : ℕ → Fields

abbrev pub before : Field → Fields → Fields
before f (whole fs next) = whole (f ∷ fs) next
before f (leftover at) = leftover at
before f (overflow at) = overflow at

abbrev pub field_then : Mode → ℕ → Vlq → (ℕ → Fields) → Fields
field_then mode at (Ok None) go = whole [] at
field_then mode at (Ok (Some (bits, lost, next))) go = before (record { value = value_of mode bits lost; start = at }) (go next)
field_then mode at (Err (Broken.Leftover place)) go = leftover place
field_then mode at (Err (Broken.Overflow place)) go = overflow place

-- the fields of the bytes past the first `skip`, which stand at the place `at`
unfoldable pub fields_from : Mode → ℕ → ℕ → List ℕ → Fields
fields_from mode zero at [] = whole [] at
fields_from mode (suc skip) at [] = whole [] at
fields_from mode zero at (b ∷ bs) = field_then mode at (vlq_of at (b ∷ bs)) (λ next. fields_from mode (next - (at + 1)) (at + 1) bs)
fields_from mode (suc skip) at (b ∷ bs) = fields_from mode skip (at + 1) bs

abbrev pub values : List Field → List ℤ
values [] = []
values (f ∷ fs) = number_of f.value ∷ values fs

-- the index of the first field that is too wide, where it is below 5; the first of these fields has the index i
unfoldable pub wide_from : ℕ → List Field → Option ℕ
wide_from i [] = None
wide_from i (f ∷ fs) = pick (both (is_wide f.value) (nat_lt i 5)) (Some i) (wide_from (i + 1) fs)

abbrev pub starts : List Field → List ℕ
starts [] = []
starts (f ∷ fs) = f.start ∷ starts fs

abbrev pub zeros : List ℤ
zeros = pos 0 ∷ pos 0 ∷ pos 0 ∷ pos 0 ∷ pos 0 ∷ []

-- the first five fields, 0 where there are fewer, the first of them that is too wide, and how many there are in truth
abbrev pub gathered : List Field → ℕ → Segment
gathered fs next = record { nums = take 5 (values fs ++ zeros); wide = wide_from 0 fs; count = length fs; next = next }

-- a segment, or where a value of it broke
abbrev pub segment_of : Fields → Result Segment Broken
segment_of (whole fs next) = Ok (gathered fs next)
segment_of (leftover at) = Err (Broken.Leftover at)
segment_of (overflow at) = Err (Broken.Overflow at)

-- the segment at a place of a text
unfoldable pub segment_at : Mode → List ℕ → ℕ → Result Segment Broken
segment_at mode text at = segment_of (fields_from mode 0 at (drop at text))
