-- docs/RULES.md, Demands: the terms in which demand 3 is said. Assumes nothing.
use Rattle.std.specs.Prelude.{◌≡◌, true, false, List, [], ◌∷◌, ◌++◌, ℕ, ◌+◌, ◌*◌, ◌<◌, ◌≤◌, eqb, length, take, drop, Result, Ok, Err, is_ok}
use Rattle.list.specs.Pick.{pick}
use Rattle.code.specs.declared.Code.{Code}
use Rattle.token.specs.Table.{no_segment, width, SameTokens, places, tokens_from, tokens_of}
use Rattle.token.specs.declared.Token.{Token}
use Rattle.token.specs.declared.TokenChunk.{TokenChunk}
use Rattle.value.specs.declared.Mode.{Mode}
use Rattle.decode.specs.declared.Decoded.{Decoded}
use Rattle.decode.specs.Mapping.{Decodes}
use Rattle.decode.specs.Where.{Begins}
use Rattle.chunk.specs.Chunk.{fresh, with_ends, lead, fields_of, spelled, written, end_of}
use Rattle.encode.specs.declared.Encoded.{Encoded}
use Rattle.encode.specs.Encode.{bytes_in, bytes_out, next_out, Encodes}
use Rattle.checked_premises.specs.Checked.{takes, takes_each, takes_from, takes_all}

-- when tables count as the same: where their tokens agree in the first six numbers
abbrev pub SameTable : List ℕ → List ℕ → Type 0
SameTable a b = SameTokens (tokens_of a) (tokens_of b)

-- the one chunk that is the whole table
abbrev pub whole : List ℕ → TokenChunk
whole table = fresh 0 (places (length table))

-- ---- a table cut anywhere into chunks

-- a call of the writer: where its chunk ends, the bytes lent to it, its answer, and what the bytes hold then
pub record Call : Type 0 where
  pub end : ℕ
  pub out : List ℕ
  pub answer : Result Encoded Code
  pub out' : List ℕ

-- a call whose chunk begins where c does: it ends there or later, and not past the table, has room for its bytes, and does what the writer promises
pub record Called (table : List ℕ) (c : TokenChunk) (k : Call) : Type 0 where
  pub order : c.start ≤ k.end
  pub within : k.end ≤ places (length table)
  pub room : length (bytes_in table (with_ends c.start k.end c)) ≤ length k.out
  pub meets : Encodes table (with_ends c.start k.end c) k.out k.answer k.out'

-- successive calls up to the table's end: each gets the state that the call before it answered, the first gets c
unfoldable pub Cut : List ℕ → TokenChunk → List Call → Type 0
Cut table c [] = c.start ≡ places (length table)
Cut table c (k ∷ ks) = Called table c k × Cut table (next_out (with_ends c.start k.end c) k.answer) ks

-- the bytes that they hand over, joined
unfoldable pub joined : List Call → List ℕ
joined [] = []
joined (k ∷ ks) = take (bytes_out k.answer) k.out' ++ joined ks

-- the state that the last of them answers
unfoldable pub last_state : TokenChunk → List Call → TokenChunk
last_state c [] = c
last_state c (k ∷ ks) = last_state (next_out (with_ends c.start k.end c) k.answer) ks

-- each is done
unfoldable pub AllDone : List Call → Type 0
AllDone [] = Unit {0}
AllDone (k ∷ ks) = (is_ok k.answer ≡ true) × AllDone ks

-- ---- what reads back

-- every segment of the text begins where a token can say so
abbrev pub Early : List ℕ → Type 0
Early text = (begin : ℕ) → Begins text begin → begin < no_segment

-- the table then holds tokens that agree with ts in the first six numbers, and past them what it held before
pub record Holds (ts : List Token) (table table' : List ℕ) : Type 0 where
  pub same : SameTokens (tokens_from table' 0 (length ts)) ts
  pub kept : drop (width * length ts) table' ≡ drop (width * length ts) table

-- decoded into any table with room for it, the text gives all tokens of the table xs
abbrev pub Gives : Mode → ℕ → ℕ → List ℕ → List ℕ → Type 0
Gives mode sources names xs text =
    (table : List ℕ) (d : Decoded) (table' : List ℕ) → length xs ≤ length table → Decodes mode sources names text table d table'
    → (d ≡ record { end = Ok tt; tokens = places (length xs); offset = length text }) × Holds (tokens_of xs) table table'

-- the index of the first of these values that checked mode does not take
unfoldable pub first_off : List ℕ → ℕ
first_off [] = 0
first_off (v ∷ vs) = pick (takes Mode.Checked v) (first_off vs + 1) 0

-- among tokens after a state, t is the first that has a value which checked mode does not take
pub record Stopped (p : TokenChunk) (ts before : List Token) (t : Token) : Type 0 where
  pub rest : List Token
  pub split : ts ≡ before ++ (t ∷ rest)
  pub taken : takes_from Mode.Checked p before ≡ true
  pub off : takes_each Mode.Checked (fields_of (end_of p before) t) ≡ false

-- how many bytes stand before that value, where the first of the tokens is the i-th of its table: those of the tokens before, the token's
-- lead, and its fields before
abbrev pub bytes_before : ℕ → TokenChunk → List Token → Token → ℕ
bytes_before i p before t =
    length (written i p before)
    + (length (lead (eqb (i + length before) 0) (end_of p before).prev_dst_line t.dst_line)
    + length (spelled (take (first_off (fields_of (end_of p before) t)) (fields_of (end_of p before) t))))

-- decoded in checked mode into any table with room for it, the text is refused at such a token, for its first such value, whose first
-- digit is the offset: the tokens before it are written
pub record Refused (xs table : List ℕ) (d : Decoded) (table' : List ℕ) : Type 0 where
  pub before : List Token
  pub t : Token
  pub stopped : Stopped (fresh 0 0) (tokens_of xs) before t
  pub code : d.end ≡ Err (Code.WideValue (first_off (fields_of (end_of (fresh 0 0) before) t)))
  pub tokens : d.tokens ≡ length before
  pub offset : d.offset ≡ bytes_before 0 (fresh 0 0) before t
  pub wrote : Holds before table table'

abbrev pub Refuses : ℕ → ℕ → List ℕ → List ℕ → Type 0
Refuses sources names xs text =
    (table : List ℕ) (d : Decoded) (table' : List ℕ) → length xs ≤ length table → Decodes Mode.Checked sources names text table d table'
    → Refused xs table d table'

-- in lenient mode; in checked mode exactly where that takes every value that is written, and else it is refused
pub record ReadsBack (sources names : ℕ) (xs text : List ℕ) : Type 0 where
  pub lenient : Gives Mode.Lenient sources names xs text
  pub checked : takes_all Mode.Checked (tokens_of xs) ≡ true → Gives Mode.Checked sources names xs text
  pub refused : takes_all Mode.Checked (tokens_of xs) ≡ false → Refuses sources names xs text
