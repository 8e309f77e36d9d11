-- Helpers: what inner contracts and proofs need; no contract of an entry and no theorem reaches this file.
-- The two ways that one segment is taken, and the ways between segments. Assumes nothing.
use Rattle.std.specs.Prelude.{◌≡◌, true, false, List, ℕ, ◌+◌, ◌%◌, ◌^◌, ◌<◌, eqb, length, drop, get_or, Some, None, Result, Ok, Err}
use Rattle.list.specs.Pick.{pick}
use Rattle.digits.specs.Digits.{is_delim}
use Rattle.token.specs.Table.{no_id, no_segment, token, with_segment}
use Rattle.value.specs.declared.Mode.{Mode}
use Rattle.vlq.specs.declared.Broken.{Broken}
use Rattle.segment.specs.Segment.{fields_from, segment_at}
use Rattle.segment.specs.declared.Segment.{Segment}
use Rattle.segment.specs.Fields.{place_from}
use Rattle.apply.specs.Apply.{state, applied, Applied}
use Rattle.apply.specs.Small.{broken}
use Rattle.apply.specs.declared.State.{State}
use Rattle.apply.specs.declared.About.{About}
use Rattle.short.specs.declared.Near.{Near}
use Rattle.step.specs.Step.{segment_step, step_at, refused, Step}

-- the step, of which the token says where its segment begins, modulo 2^32; it is said here and not when the token is placed since
-- decoding takes less time so (bench/TRIALS.md)
abbrev pub told : Step → Step
told (Ok (Some (t, begin, s))) = Ok (Some (with_segment t (begin % 2 ^ 32), begin, s))
told (Err r) = Err r
told (Ok None) = Ok None

-- the segment at the state's place of a whole text
abbrev pub segmented_at : Mode → ℕ → ℕ → List ℕ → State → Step
segmented_at mode sources names text s = segment_step mode sources names s (fields_from mode 0 s.at (drop s.at text))

-- where the fault lies, the field's place looked for in the text; that it is the field's own is proved
abbrev pub offset_in : List ℕ → ℕ → About → ℕ
offset_in text begin About.Whole = begin
offset_in text begin (About.Field field) = place_from field begin (drop begin text)
offset_in text begin (About.Place place) = place

abbrev pub stepped_in : List ℕ → ℕ → Applied → Step
stepped_in text begin (Ok (t, s)) = Ok (Some (t, begin, s))
stepped_in text begin (Err r) = Err (refused r.code (offset_in text begin r.about))

-- the segment at the state's place, read and taken
abbrev pub taken : Mode → ℕ → ℕ → State → Result Segment Broken → Applied
taken mode sources names s (Ok g) = applied mode sources names s g
taken mode sources names s (Err b) = Err (broken b)

abbrev pub taken_at : Mode → ℕ → ℕ → List ℕ → State → Applied
taken_at mode sources names text s = taken mode sources names s (segment_at mode text s.at)

-- the step that the short way makes; that it is the segment's own is proved
abbrev pub short_step : State → Near → ℕ → ℕ → Step
short_step st n k len =
    Ok (Some (
      token st.dst_line n.dst_col n.src_line n.src_col n.source_id (pick (eqb k 5) n.name_id no_id) no_segment,
      st.at,
      state st.dst_line n.dst_col n.src_line n.src_col n.source_id n.name_id (st.at + len),
    ))

-- no delimiter stands at the state's place
abbrev pub Opens : List ℕ → State → Type 0
Opens text s = s.at < length text → is_delim (get_or text s.at 0) ≡ false

-- nothing else stands there
abbrev pub Closes : List ℕ → State → Type 0
Closes text s = s.at < length text → is_delim (get_or text s.at 0) ≡ true

-- from one state to another past delimiters: what comes is the same
pub record Passed (text : List ℕ) (from r : State) : Type 0 where
  pub same : (mode : Mode) (sources names : ℕ) → step_at mode sources names text from ≡ step_at mode sources names text r
  pub opens : Opens text r
