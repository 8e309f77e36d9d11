-- Helpers: what inner contracts and proofs need; no contract of an entry and no theorem reaches this file.
-- The parts of a token's bytes, and what is said of their sizes. Assumes nothing.
use Rattle.std.specs.Prelude.{◌≡◌, Bool, List, [], ◌∷◌, ℕ, ◌^◌, ◌≤◌, length}
use Rattle.list.specs.Pick.{pick}
use Rattle.token.specs.Table.{is_none}
use Rattle.token.specs.declared.Token.{Token}
use Rattle.token.specs.declared.TokenChunk.{TokenChunk}
use Rattle.vlq_write.specs.Write.{vlq_value}
use Rattle.chunk.specs.Chunk.{lead, spelled}

-- r is how many bytes stand before a token's fields
pub record LeadSize (first : Bool) (from to r : ℕ) : Type 0 where
  pub is : r ≡ length (lead first from to)
  pub few : r ≤ 2 ^ 32

-- its name, where it has one
unfoldable pub named_of : TokenChunk → Token → List ℕ
named_of p t = pick (is_none t.name_id) [] (vlq_value t.name_id p.prev_name_id ∷ [])

-- the fields of a token with a source, after the first
unfoldable pub source_of : TokenChunk → Token → List ℕ
source_of p t =
    vlq_value t.source_id p.prev_source_id ∷
    vlq_value t.src_line p.prev_src_line ∷
    vlq_value t.src_col p.prev_src_col ∷
    named_of p t

-- r is how many digits the name takes
pub record NameSize (p : TokenChunk) (t : Token) (r : ℕ) : Type 0 where
  pub is : r ≡ length (spelled (named_of p t))
  pub few : r ≤ 7

-- r is how many digits they take, which are four times seven at the most
pub record SourceSize (p : TokenChunk) (t : Token) (r : ℕ) : Type 0 where
  pub is : r ≡ length (spelled (source_of p t))
  pub few : r ≤ 28
