-- docs/RULES.md, Mappings: what one segment does, step by step. Assumes nothing.
use Rattle.std.specs.Prelude.{ℕ, ◌%◌, ◌^◌, eqb, ltb, ℤ, pos, ◌+ℤ◌, get_or, Option, Some, None, Result, Ok, Err}
use Rattle.list.specs.Pick.{pick}
use Rattle.code.specs.declared.Code.{Code}
use Rattle.token.specs.Table.{no_id, no_segment, token}
use Rattle.token.specs.declared.Token.{Token}
use Rattle.value.specs.declared.Mode.{Mode}
use Rattle.segment.specs.declared.Segment.{Segment}
use Rattle.sums.specs.Sums.{sum_of, id_of, name_sum_of}
use Rattle.apply.specs.declared.State.{State}
use Rattle.apply.specs.declared.About.{About}
use Rattle.sums.specs.declared.Unkept.{Unkept}
use Rattle.apply.specs.declared.Refusal.{Refusal}

-- the running numbers, and the place
abbrev pub state : ℕ → ℕ → ℕ → ℕ → ℕ → ℕ → ℕ → State
state line col source_line source_col source name at =
    record { dst_line = line; dst_col = col; src_line = source_line; src_col = source_col; source_id = source; name_id = name; at = at }

-- with another column and place; with another source; with another name
abbrev pub with_column : State → ℕ → ℕ → State
with_column s col at = state s.dst_line col s.src_line s.src_col s.source_id s.name_id at

abbrev pub with_source : State → ℕ → ℕ → ℕ → State
with_source s source line col = state s.dst_line s.dst_col line col source s.name_id s.at

abbrev pub with_name : State → ℕ → State
with_name s name = state s.dst_line s.dst_col s.src_line s.src_col s.source_id name s.at

-- where a step leads, and what a segment gives; or why not
abbrev pub refusal : Code → About → Refusal
refusal code about = record { code = code; about = about }

abbrev pub Moved : Type 0
Moved = Result State Refusal

abbrev pub Applied : Type 0
Applied = Result (Token × State) Refusal

-- a sum that is kept goes on; below 0 is BadSegmentSize(0), too wide is WideValue with the field
abbrev pub kept : {A : Type 0} → Result ℕ Unkept → ℕ → (ℕ → Result A Refusal) → Result A Refusal
kept (Err Unkept.Negative) field go = Err (refusal (Code.BadSegmentSize 0) (About.Field field))
kept (Err Unkept.Wide) field go = Err (refusal (Code.WideValue field) (About.Field field))
kept (Ok n) field go = go n

-- a field of the segment
abbrev pub num : ℕ → Segment → ℤ
num field g = get_or g.nums field (pos 0)

-- 1. the column
unfoldable pub columned : Mode → State → Segment → Moved
columned mode s g =
    kept (sum_of mode (pos s.dst_col +ℤ num 0 g)) 0 λ column. Ok (with_column s column g.next)

-- 3. the source: refused with the id before this segment
abbrev pub sourced : State → Option ℕ → (ℕ → Moved) → Moved
sourced s None go = Err (refusal (Code.BadSourceReference s.source_id) (About.Field 1))
sourced s (Some id) go = go id

-- 3, 4. the source, then its line, then its column
unfoldable pub mapped : Mode → ℕ → State → Segment → Moved
mapped mode sources s g =
    sourced s (id_of sources (pos s.source_id +ℤ num 1 g)) λ source.
    kept (sum_of mode (pos s.src_line +ℤ num 2 g)) 2 λ line.
    kept (sum_of mode (pos s.src_col +ℤ num 3 g)) 3 λ column. Ok (with_source s source line column)

-- 5. the name: refused unless below the name count
unfoldable pub named : Mode → ℕ → State → Segment → Moved
named mode names s g =
    kept (name_sum_of mode (pos s.name_id +ℤ num 4 g)) 4 λ name.
    pick (ltb name names)
    (Ok (with_name s name)) (Err (refusal (Code.BadNameReference name) (About.Field 4)))

-- the token that shows the running numbers with these ids; where its segment begins is said when it is placed
abbrev pub shown : State → ℕ → ℕ → Token
shown s source name = token s.dst_line s.dst_col s.src_line s.src_col source name no_segment

abbrev pub onward : Moved → (State → Applied) → Applied
onward (Ok s) go = go s
onward (Err r) go = Err r

-- four fields: a source; five: a source and a name
unfoldable pub four : Mode → ℕ → State → Segment → Applied
four mode sources s g = onward (mapped mode sources s g) λ r. Ok (shown r r.source_id no_id, r)

unfoldable pub five : Mode → ℕ → ℕ → State → Segment → Applied
five mode sources names s g =
    onward (mapped mode sources s g) λ r.
    onward (named mode names r g) λ q. Ok (shown q q.source_id q.name_id, q)

-- 2. the field count: one field has no source and no name, and carries the running source line and column
unfoldable pub counted : Mode → ℕ → ℕ → State → Segment → Applied
counted mode sources names s g =
    pick (eqb g.count 1) (Ok (shown s no_id no_id, s))
    (pick (eqb g.count 4) (four mode sources s g)
    (pick (eqb g.count 5) (five mode sources names s g)
    (Err (refusal (Code.BadSegmentSize (g.count % 2 ^ 32)) About.Whole))))

-- refused where one of the first five values is too wide
abbrev pub unless_wide : Option ℕ → Applied → Applied
unless_wide (Some field) a = Err (refusal (Code.WideValue field) (About.Field field))
unless_wide None a = a

-- a segment whose values are all read: none of the first five is too wide, then steps 1 to 5, in order
unfoldable pub applied : Mode → ℕ → ℕ → State → Segment → Applied
applied mode sources names s g =
    unless_wide g.wide
    (onward (columned mode s g) λ r. counted mode sources names r g)
