-- docs/RULES.md, Writing: the answer of the writer, its refusals in order, and what the lent bytes hold then. Assumes nothing.
use Rattle.std.specs.Prelude.{◌≡◌, Bool, true, List, ℕ, ◌-◌, ltb, length, Result, Ok, Err}
use Rattle.std.specs.Result.{is_ok}
use Rattle.std.proofs.Math.Option.{Option, none, some}
use Rattle.list.specs.Memory.{onto}
use Rattle.list.specs.Pick.{pick}
use Rattle.code.specs.declared.Code.{Code}
use Rattle.token.specs.Table.{places, bad_table, tokens_from}
use Rattle.token.specs.declared.Token.{Token}
use Rattle.token.specs.declared.TokenChunk.{TokenChunk}
use Rattle.encode.specs.declared.Encoded.{Encoded}
use Rattle.chunk.specs.Chunk.{with_ends, written, end_of, first_back}

-- the chunk's tokens
abbrev pub tokens_in : List ℕ → TokenChunk → List Token
tokens_in table c = tokens_from table c.start (c.end - c.start)

-- its bytes
abbrev pub bytes_in : List ℕ → TokenChunk → List ℕ
bytes_in table c = written c.start c (tokens_in table c)

-- unless start ≤ end ≤ token count
abbrev pub bad_chunk : List ℕ → TokenChunk → Bool
bad_chunk table c = pick (ltb c.end c.start) true (ltb (places (length table)) c.end)

-- start and end both equal to the old end, and the previous numbers as they stand
abbrev pub next_chunk : ℕ → TokenChunk → TokenChunk
next_chunk end p = with_ends end end p

-- the token that goes back is the code's number
abbrev pub unless_back : Option ℕ → Result Encoded Code → Result Encoded Code
unless_back (some i) r = Err (Code.LineGoesBack i)
unless_back none r = r

-- BadTable, BadChunk, LineGoesBack, NoRoom, in this order; else the bytes written and the state for the chunk behind
unfoldable pub encoded : List ℕ → TokenChunk → ℕ → Result Encoded Code
encoded table c room =
    pick (bad_table (length table)) (Err Code.BadTable)
    (pick (bad_chunk table c) (Err Code.BadChunk)
    (unless_back (first_back c.start c.prev_dst_line (tokens_in table c))
    (pick (ltb room (length (bytes_in table c))) (Err (Code.NoRoom (length (bytes_in table c))))
    (Ok (record { bytes = length (bytes_in table c); next = next_chunk c.end (end_of c (tokens_in table c)) })))))

-- of an answer, the bytes that it counts and the state that it leaves: a refusal counts none, and leaves the chunk that it was given
abbrev pub bytes_out : Result Encoded Code → ℕ
bytes_out (Ok e) = e.bytes
bytes_out (Err code) = 0

abbrev pub next_out : TokenChunk → Result Encoded Code → TokenChunk
next_out c (Ok e) = e.next
next_out c (Err code) = c

-- a writer's answer, and what the lent bytes hold then: what is written, if it is done, and past that what they held before
pub record Encodes (table : List ℕ) (c : TokenChunk) (out : List ℕ) (r : Result Encoded Code) (out' : List ℕ) : Type 0 where
  pub says : r ≡ encoded table c (length out)
  pub wrote : out' ≡ pick (is_ok (encoded table c (length out))) (onto (bytes_in table c) out) out
