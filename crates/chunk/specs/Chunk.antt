-- docs/RULES.md, Writing: the bytes of a list of tokens after a state, and the state that they leave. Assumes nothing.
use Rattle.std.specs.Prelude.{Bool, List, [], ◌∷◌, ◌++◌, ℕ, ◌+◌, ◌-◌, ltb, eqb, replicate}
use Rattle.std.proofs.Math.Option.{Option, none, some}
use Rattle.list.specs.Pick.{pick}
use Rattle.token.specs.Table.{is_none}
use Rattle.token.specs.declared.Token.{Token}
use Rattle.token.specs.declared.TokenChunk.{TokenChunk}
use Rattle.vlq_write.specs.Write.{vlq_value, write_of}

-- one `;` for each line advanced; else a `,` unless the token is the very first
unfoldable pub lead : Bool → ℕ → ℕ → List ℕ
lead first from to = pick (eqb from to) (pick first [] (44 ∷ [])) (replicate (to - from) 59)

-- the column base becomes 0 on a new line
unfoldable pub base_of : TokenChunk → Token → ℕ
base_of p t = pick (eqb p.prev_dst_line t.dst_line) p.prev_dst_col 0

-- one field without a source, four with, five with source and name
unfoldable pub fields_of : TokenChunk → Token → List ℕ
fields_of p t =
    vlq_value t.dst_col (base_of p t) ∷
    pick (is_none t.source_id) []
    (vlq_value t.source_id p.prev_source_id ∷
    vlq_value t.src_line p.prev_src_line ∷
    vlq_value t.src_col p.prev_src_col ∷
    pick (is_none t.name_id) [] (vlq_value t.name_id p.prev_name_id ∷ []))

-- the digits of numbers, one number after the other
unfoldable pub spelled : List ℕ → List ℕ
spelled [] = []
spelled (v ∷ vs) = write_of v ++ spelled vs

-- the bytes of one token after a state
unfoldable pub bytes_of : Bool → TokenChunk → Token → List ℕ
bytes_of first p t = lead first p.prev_dst_line t.dst_line ++ spelled (fields_of p t)

-- a chunk by its numbers: start and end, then the previous line, column, source line, source column, name id and source id
abbrev pub chunk_of : ℕ → ℕ → ℕ → ℕ → ℕ → ℕ → ℕ → ℕ → TokenChunk
chunk_of s e l c m d n o =
    record { start = s; end = e; prev_dst_line = l; prev_dst_col = c; prev_src_line = m; prev_src_col = d; prev_name_id = n; prev_source_id = o }

-- a chunk that nothing stands before
abbrev pub fresh : ℕ → ℕ → TokenChunk
fresh start end = chunk_of start end 0 0 0 0 0 0

-- with another start and end
abbrev pub with_ends : ℕ → ℕ → TokenChunk → TokenChunk
with_ends start end p =
    chunk_of start end p.prev_dst_line p.prev_dst_col p.prev_src_line p.prev_src_col p.prev_name_id p.prev_source_id

-- previous source line, column and id change only at a token with a source; the name only when written
unfoldable pub after : TokenChunk → Token → TokenChunk
after p t =
    chunk_of p.start p.end t.dst_line t.dst_col
    (pick (is_none t.source_id) p.prev_src_line t.src_line)
    (pick (is_none t.source_id) p.prev_src_col t.src_col)
    (pick (is_none t.source_id) p.prev_name_id (pick (is_none t.name_id) p.prev_name_id t.name_id))
    (pick (is_none t.source_id) p.prev_source_id t.source_id)

-- the bytes of tokens, the first of which is the i-th of its table
unfoldable pub written : ℕ → TokenChunk → List Token → List ℕ
written i p [] = []
written i p (t ∷ ts) = bytes_of (eqb i 0) p t ++ written (i + 1) (after p t) ts

-- the state that they leave
unfoldable pub end_of : TokenChunk → List Token → TokenChunk
end_of p [] = p
end_of p (t ∷ ts) = end_of (after p t) ts

-- the first token whose line is below the line before it
unfoldable pub first_back : ℕ → ℕ → List Token → Option ℕ
first_back i line [] = none
first_back i line (t ∷ ts) = pick (ltb t.dst_line line) (some i) (first_back (i + 1) t.dst_line ts)
