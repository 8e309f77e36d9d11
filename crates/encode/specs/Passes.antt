-- Helpers: what inner contracts and proofs need; no contract of an entry and no theorem reaches this file.
-- What the passes of the writer over a chunk say. Assumes nothing.
use Rattle.std.specs.Prelude.{◌≡◌, List, ℕ, ◌+◌, ◌-◌, ◌*◌, ◌<◌, ◌≤◌, length}
use Rattle.std.proofs.Math.Option.{none, some}
use Rattle.list.specs.Memory.{onto}
use Rattle.code.specs.declared.Code.{Code}
use Rattle.token.specs.Table.{places}
use Rattle.token.specs.declared.TokenChunk.{TokenChunk}
use Rattle.encode.specs.declared.Encoded.{Encoded}
use Rattle.chunk.specs.Chunk.{first_back, end_of}
use Rattle.encode.specs.Encode.{tokens_in, bytes_in, next_chunk}

-- the chunk lies in the table
pub record Inside (table : List ℕ) (c : TokenChunk) : Type 0 where
  pub order : c.start ≤ c.end
  pub within : c.end ≤ places (length table)

-- a line goes back, and the code says which
pub record Backs (table : List ℕ) (c : TokenChunk) (code : Code) : Type 0 where
  pub at : ℕ
  pub back : first_back c.start c.prev_dst_line (tokens_in table c) ≡ some at
  pub says : code ≡ Code.LineGoesBack at

-- no line goes back, the last is `last`, and the bytes are at most 36 for each token and one for each line
pub record Rising (table : List ℕ) (c : TokenChunk) (last : ℕ) : Type 0 where
  pub forth : first_back c.start c.prev_dst_line (tokens_in table c) ≡ none
  pub later : c.prev_dst_line ≤ last
  pub most : length (bytes_in table c) ≤ 36 * (c.end - c.start) + (last - c.prev_dst_line)

-- r is the bytes needed, or a bound of them that the room holds
pub record Bounds (needed room r : ℕ) : Type 0 where
  pub enough : r ≤ room → needed ≤ room
  pub exact : room < r → r ≡ needed

-- no line goes back, and n is the bytes needed
pub record Counted (table : List ℕ) (c : TokenChunk) (n : ℕ) : Type 0 where
  pub forth : first_back c.start c.prev_dst_line (tokens_in table c) ≡ none
  pub is : n ≡ length (bytes_in table c)

-- no line goes back, and n is the bytes needed, or a bound of them that the room holds
pub record Bounded (table : List ℕ) (c : TokenChunk) (room n : ℕ) : Type 0 where
  pub forth : first_back c.start c.prev_dst_line (tokens_in table c) ≡ none
  pub bounds : Bounds (length (bytes_in table c)) room n

-- the chunk lies in the table, no line goes back, and there is room
pub record Writable (table : List ℕ) (c : TokenChunk) (out : List ℕ) : Type 0 where
  pub inside : Inside table c
  pub forth : first_back c.start c.prev_dst_line (tokens_in table c) ≡ none
  pub room : length (bytes_in table c) ≤ length out

-- the chunk is written
pub record Writes (table : List ℕ) (c : TokenChunk) (out : List ℕ) (r : Encoded) (out' : List ℕ) : Type 0 where
  pub says : r ≡ record { bytes = length (bytes_in table c); next = next_chunk c.end (end_of c (tokens_in table c)) }
  pub wrote : out' ≡ onto (bytes_in table c) out
