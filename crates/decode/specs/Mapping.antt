-- docs/RULES.md, Mappings: a whole text, into a table with so many places. Assumes nothing.
use Rattle.std.specs.Prelude.{◌≡◌, List, [], ◌∷◌, ℕ, zero, suc, ◌+◌, ltb, length, Some, None, Result, Ok, Err, ⊤}
use Rattle.list.specs.Pick.{pick}
use Rattle.code.specs.declared.Code.{Code}
use Rattle.token.specs.Table.{no_segment, with_segment, places, over}
use Rattle.token.specs.declared.Token.{Token}
use Rattle.value.specs.declared.Mode.{Mode}
use Rattle.apply.specs.declared.State.{State}
use Rattle.decode.specs.declared.Decoded.{Decoded}
use Rattle.step.specs.Step.{start, step_at, Step}

-- the tokens before the refused segment, how it ends, and where the fault lies (the text's length when done)
pub record Out : Type 0 where
  pub tokens : List Token
  pub end : Result ⊤ Code
  pub offset : ℕ

abbrev pub stopped : Result ⊤ Code → ℕ → Out
stopped end offset = record { tokens = []; end = end; offset = offset }

abbrev pub token_then : Token → Out → Out
token_then t o = record { tokens = t ∷ o.tokens; end = o.end; offset = o.offset }

-- 6. a token says where its segment begins; where that is 4,294,967,295 or later, it is TooBig with the token's index, at that place
unfoldable pub step_then : ℕ → ℕ → Step → (Token → State → Out) → Out
step_then index size (Ok (Some (t, begin, s))) go = pick (ltb begin no_segment) (go (with_segment t begin) s) (stopped (Err (Code.TooBig index)) begin)
step_then index size (Err r) go = stopped (Err r.code) r.offset
step_then index size (Ok None) go = stopped (Ok tt) size

-- the text from the state's place on, after so many tokens, with so many places left; 7. with none, the table is full
unfoldable pub run : Mode → ℕ → ℕ → List ℕ → ℕ → ℕ → State → Out
run mode sources names text index zero s =
    step_then index (length text) (step_at mode sources names text s) λ t s'. stopped (Err Code.TableFull) t.segment
run mode sources names text index (suc left) s =
    step_then index (length text) (step_at mode sources names text s) λ t s'. token_then t (run mode sources names text (index + 1) left s')

abbrev pub decoded : Mode → ℕ → ℕ → List ℕ → ℕ → Out
decoded mode sources names text room = run mode sources names text 0 room start

abbrev pub answer : Out → Decoded
answer o = record { end = o.end; tokens = length o.tokens; offset = o.offset }

-- the mode of a decode that names none
abbrev pub by_default : Mode
by_default = Mode.Checked

-- a decode's answer, and what the lent table holds then: the tokens, and past them what it held before
pub record Decodes (mode : Mode) (sources names : ℕ) (text table : List ℕ) (r : Decoded) (table' : List ℕ) : Type 0 where
  pub says : r ≡ answer (decoded mode sources names text (places (length table)))
  pub wrote : table' ≡ over (decoded mode sources names text (places (length table))).tokens table
