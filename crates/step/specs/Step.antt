-- docs/RULES.md, Mappings: the next token of a text, or a refusal with its offset, or the end. Assumes nothing.
use Rattle.std.specs.Prelude.{List, [], ◌∷◌, ℕ, ◌+◌, ◌%◌, ◌^◌, eqb, drop, get_or, Option, Some, None, Result, Ok, Err}
use Rattle.list.specs.Pick.{pick}
use Rattle.code.specs.declared.Code.{Code}
use Rattle.value.specs.declared.Mode.{Mode}
use Rattle.segment.specs.Segment.{Fields, whole, leftover, overflow, starts, fields_from, gathered}
use Rattle.apply.specs.Apply.{state, with_column, applied, Applied}
use Rattle.apply.specs.declared.State.{State}
use Rattle.apply.specs.declared.About.{About}
use Rattle.token.specs.declared.Token.{Token}
use Rattle.step.specs.declared.Refused.{Refused}

-- six running numbers start at 0, and the place too
abbrev pub start : State
start = state 0 0 0 0 0 0 0

-- `,` does nothing
abbrev pub commaed : State → State
commaed s = with_column s s.dst_col (s.at + 1)

-- `;` adds 1 to the line, modulo 2^32, and sets the generated column to 0
abbrev pub lined : State → State
lined s = state ((s.dst_line + 1) % 2 ^ 32) 0 s.src_line s.src_col s.source_id s.name_id (s.at + 1)

-- where the fault lies, in a segment and its fields that begin there: of the whole segment, at its start; of a field, at its first
-- digit; of a value that broke, where it did
unfoldable pub offset_of : ℕ → List ℕ → About → ℕ
offset_of begin starts About.Whole = begin
offset_of begin starts (About.Field field) = get_or starts field begin
offset_of begin starts (About.Place place) = place

-- the next token, the place where its segment begins and the state after it; or the end; or a refusal with its offset
abbrev pub Step : Type 0
Step = Result (Option (Token × ℕ × State)) Refused

abbrev pub refused : Code → ℕ → Refused
refused code offset = record { code = code; offset = offset }

abbrev pub stepped : ℕ → List ℕ → Applied → Step
stepped begin starts (Ok (t, s)) = Ok (Some (t, begin, s))
stepped begin starts (Err r) = Err (refused r.code (offset_of begin starts r.about))

-- a segment: a broken value refuses it before anything is tested
unfoldable pub segment_step : Mode → ℕ → ℕ → State → Fields → Step
segment_step mode sources names s (whole fs next) = stepped s.at (starts fs) (applied mode sources names s (gathered fs next))
segment_step mode sources names s (leftover place) = Err (refused Code.VlqLeftover (offset_of s.at [] (About.Place place)))
segment_step mode sources names s (overflow place) = Err (refused Code.VlqOverflow (offset_of s.at [] (About.Place place)))

-- the next token of the bytes that begin at the state's place, or a refusal, or the end
unfoldable pub step_from : Mode → ℕ → ℕ → State → List ℕ → Step
step_from mode sources names s [] = Ok None
step_from mode sources names s (b ∷ bs) =
    pick (eqb b 44) (step_from mode sources names (commaed s) bs)
    (pick (eqb b 59) (step_from mode sources names (lined s) bs)
    (segment_step mode sources names s (fields_from mode 0 s.at (b ∷ bs))))

-- the same at the state's place of a whole text
abbrev pub step_at : Mode → ℕ → ℕ → List ℕ → State → Step
step_at mode sources names text s = step_from mode sources names s (drop s.at text)
