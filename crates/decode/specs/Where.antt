-- docs/RULES.md, Codes: where a refused decode says that the fault is, and what it has kept. Assumes nothing.
use Rattle.std.specs.Prelude.{◌≡◌, true, false, List, ℕ, ◌+◌, ◌<◌, ◌≤◌, length, take, get_or, Ok}
use Rattle.digits.specs.Digits.{is_delim}
use Rattle.value.specs.declared.Mode.{Mode}
use Rattle.decode.specs.declared.Decoded.{Decoded}
use Rattle.decode.specs.Mapping.{Decodes}

-- a segment begins there: no delimiter stands there, and before it one, or nothing
pub record Begins (text : List ℕ) (begin : ℕ) : Type 0 where
  pub within : begin < length text
  pub opens : is_delim (get_or text begin 0) ≡ false
  pub behind : (k : ℕ) → begin ≡ k + 1 → is_delim (get_or text k 0) ≡ true

-- the refused segment begins somewhere; the offset lies in it, or at the delimiter or the end right behind it; and to decode what
-- stands before it is done, and writes the same
pub record Fault (mode : Mode) (sources names : ℕ) (text table : List ℕ) (r : Decoded) (table' : List ℕ) : Type 0 where
  pub begin : ℕ
  pub segment : Begins text begin
  pub from : begin ≤ r.offset
  pub to : r.offset ≤ length text
  pub inside : (k : ℕ) → begin ≤ k → k < r.offset → is_delim (get_or text k 0) ≡ false
  pub kept : Decodes mode sources names (take begin text) table (record { end = Ok tt; tokens = r.tokens; offset = begin }) table'

-- so it is of every decode that is refused
abbrev pub Located : Type 0
Located =
    (mode : Mode) (sources names : ℕ) (text table : List ℕ) (r : Decoded) (table' : List ℕ) → Decodes mode sources names text table r table'
    → (r.end ≡ Ok tt → ⊥) → Fault mode sources names text table r table'
