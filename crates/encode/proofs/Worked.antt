-- docs/RULES.md, Worked texts: what writes back, computed from the definitions. Assumes nothing.
use mathlib.Core.Path.{◌≡◌, refl}
use mathlib.Core.List.{List, [], ◌∷◌}
use Prim.Native.Nat.{ℕ}
use Rattle.std.specs.Prelude.{Result, Ok, Err}
use Rattle.code.specs.declared.Code.{Code}
use Rattle.token.specs.Table.{no_id, no_segment, token_at, tokens_from}
use Rattle.token.specs.declared.TokenChunk.{TokenChunk}
use Rattle.digits.specs.Digits.{char_of}
use Rattle.vlq_write.specs.Write.{vlq_value, digits_of}
use Rattle.chunk.specs.Chunk.{lead, base_of, fields_of, spelled, bytes_of, after, written, end_of, first_back}
use Rattle.encode.specs.Encode.{bytes_in, encoded}
use Rattle.encode.specs.declared.Encoded.{Encoded}

-- line, column, source line, source column, name id, source id
abbrev chunk : ℕ → ℕ → ℕ → ℕ → ℕ → ℕ → ℕ → ℕ → TokenChunk
chunk from to a b c d e f =
    record {
      start = from;
      end = to;
      prev_dst_line = a;
      prev_dst_col = b;
      prev_src_line = c;
      prev_src_col = d;
      prev_name_id = e;
      prev_source_id = f;
    }

abbrev zeros : ℕ → ℕ → TokenChunk
zeros from to = chunk from to 0 0 0 0 0 0

abbrev done : ℕ → TokenChunk → Result Encoded Code
done bytes next = Ok (record { bytes = bytes; next = next })

-- the tokens of `AAEG;C`
abbrev pair : List ℕ
pair = 0 ∷ 0 ∷ 2 ∷ 3 ∷ 0 ∷ no_id ∷ 0 ∷ 1 ∷ 1 ∷ 2 ∷ 3 ∷ no_id ∷ no_id ∷ 5 ∷ []

-- the same, said to begin elsewhere in their text
abbrev elsewhere : List ℕ
elsewhere = 0 ∷ 0 ∷ 2 ∷ 3 ∷ 0 ∷ no_id ∷ no_segment ∷ 1 ∷ 1 ∷ 2 ∷ 3 ∷ no_id ∷ no_id ∷ 4 ∷ []

-- the state after the first of them
abbrev between : TokenChunk
between = chunk 1 2 0 0 2 3 0 0

-- two tokens 0 0 0 0 0 none, of segments at 7 and at 9
abbrev twins : List ℕ
twins = 0 ∷ 0 ∷ 0 ∷ 0 ∷ 0 ∷ no_id ∷ 7 ∷ 0 ∷ 0 ∷ 0 ∷ 0 ∷ 0 ∷ no_id ∷ 9 ∷ []

-- `AAEG;C` whole
pub whole : bytes_in pair (zeros 0 2) ≡ 65 ∷ 65 ∷ 69 ∷ 71 ∷ 59 ∷ 67 ∷ []
unfolding token_at tokens_from char_of vlq_value digits_of lead base_of fields_of spelled bytes_of after written
whole = refl

pub whole_answer : encoded pair (zeros 0 2) 6 ≡ done 6 (chunk 2 2 1 1 2 3 0 0)
unfolding token_at tokens_from char_of vlq_value digits_of lead base_of fields_of spelled bytes_of after written end_of first_back encoded
whole_answer = refl

-- where a token's segment began is not written
pub same_elsewhere : bytes_in elsewhere (zeros 0 2) ≡ bytes_in pair (zeros 0 2)
unfolding token_at tokens_from char_of vlq_value digits_of lead base_of fields_of spelled bytes_of after written
same_elsewhere = refl

-- cut after the first: `AAEG`, then `;C`
pub first_half : bytes_in pair (zeros 0 1) ≡ 65 ∷ 65 ∷ 69 ∷ 71 ∷ []
unfolding token_at tokens_from char_of vlq_value digits_of lead base_of fields_of spelled bytes_of after written
first_half = refl

pub first_answer : encoded pair (zeros 0 1) 4 ≡ done 4 (chunk 1 1 0 0 2 3 0 0)
unfolding token_at tokens_from char_of vlq_value digits_of lead base_of fields_of spelled bytes_of after written end_of first_back encoded
first_answer = refl

pub second_half : bytes_in pair between ≡ 59 ∷ 67 ∷ []
unfolding token_at tokens_from char_of vlq_value digits_of lead base_of fields_of spelled bytes_of after written
second_half = refl

pub second_answer : encoded pair between 2 ≡ done 2 (chunk 2 2 1 1 2 3 0 0)
unfolding token_at tokens_from char_of vlq_value digits_of lead base_of fields_of spelled bytes_of after written end_of first_back encoded
second_answer = refl

-- equal tokens next to each other are both written: `AAAA,AAAA`
pub both_twins : bytes_in twins (zeros 0 2) ≡ 65 ∷ 65 ∷ 65 ∷ 65 ∷ 44 ∷ 65 ∷ 65 ∷ 65 ∷ 65 ∷ []
unfolding token_at tokens_from char_of vlq_value digits_of lead base_of fields_of spelled bytes_of after written
both_twins = refl

-- with 5 bytes of room the pair's 6 are refused
pub no_room : encoded pair (zeros 0 2) 5 ≡ Err (Code.NoRoom 6)
unfolding token_at tokens_from char_of vlq_value digits_of lead base_of fields_of spelled bytes_of after written end_of first_back encoded
no_room = refl

-- a previous line of 1, and a token on line 0
pub goes_back : encoded pair (chunk 0 2 1 0 0 0 0 0) 6 ≡ Err (Code.LineGoesBack 0)
unfolding token_at tokens_from char_of vlq_value digits_of lead base_of fields_of spelled bytes_of after written end_of first_back encoded
goes_back = refl
