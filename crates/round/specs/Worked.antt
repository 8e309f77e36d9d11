-- Worked texts: what is written of the last pair of tokens, whole and cut, and of two equal tokens, computed; and that the pair can be
-- cut, so that what is said of cuts is said of something. Assumes nothing.
use Rattle.std.specs.Prelude.{◌≡◌, refl, true, List, [], ◌∷◌, ℕ, Result, Ok, Err}
use Rattle.std.proofs.Common.{arith}
use Rattle.list.specs.Memory.{onto}
use Rattle.code.specs.declared.Code.{Code}
use Rattle.token.specs.Table.{no_id, no_segment, token_at, tokens_from}
use Rattle.digits.specs.Digits.{char_of}
use Rattle.vlq_write.specs.Write.{vlq_value, digits_of}
use Rattle.chunk.specs.Chunk.{chunk_of, fresh, lead, base_of, fields_of, spelled, bytes_of, after, written, end_of, first_back}
use Rattle.encode.specs.declared.Encoded.{Encoded}
use Rattle.encode.specs.Encode.{bytes_in, encoded, bytes_out, next_out}
use Rattle.premises.specs.Premises.{follows, follow, decides}
use Rattle.round.specs.Terms.{whole, Call, Cut, joined}

-- 0 0 2 3 0 none; 1 1 2 3 none none; with some seventh numbers, which the writer does not look at
abbrev pair : List ℕ
pair = 0 ∷ 0 ∷ 2 ∷ 3 ∷ 0 ∷ no_id ∷ 7 ∷ 1 ∷ 1 ∷ 2 ∷ 3 ∷ no_id ∷ no_id ∷ no_segment ∷ []

pub meets : decides pair 1 0 ≡ true
unfolding decides follow follows tokens_from token_at
meets = refl

-- `AAEG;C`
pub whole_pair : bytes_in pair (whole pair) ≡ 65 ∷ 65 ∷ 69 ∷ 71 ∷ 59 ∷ 67 ∷ []
unfolding tokens_from token_at written bytes_of lead spelled fields_of base_of after vlq_value digits_of char_of
whole_pair = refl

-- `AAEG`, nothing, then `;C`; the last has a byte to spare, which is kept
abbrev three : List Call
three =
    record { end = 1; out = 9 ∷ 9 ∷ 9 ∷ 9 ∷ []; answer = Ok (record { bytes = 4; next = chunk_of 1 1 0 0 2 3 0 0 }); out' = 65 ∷ 65 ∷ 69 ∷ 71 ∷ [] } ∷
    record { end = 1; out = []; answer = Ok (record { bytes = 0; next = chunk_of 1 1 0 0 2 3 0 0 }); out' = [] } ∷
    record { end = 2; out = 9 ∷ 9 ∷ 9 ∷ []; answer = Ok (record { bytes = 2; next = chunk_of 2 2 1 1 2 3 0 0 }); out' = 59 ∷ 67 ∷ 9 ∷ [] } ∷ []

pub cut_pair : Cut pair (fresh 0 0) three
unfolding Cut onto encoded first_back end_of tokens_from token_at written bytes_of lead spelled fields_of base_of after vlq_value digits_of char_of
cut_pair = (
  record { order = omega arith; within = omega arith; room = omega arith; meets = record { says = refl; wrote = refl } },
  (
    record { order = omega arith; within = omega arith; room = omega arith; meets = record { says = refl; wrote = refl } },
    (record { order = omega arith; within = omega arith; room = omega arith; meets = record { says = refl; wrote = refl } }, refl),
  ),
)

pub joined_pair : joined three ≡ 65 ∷ 65 ∷ 69 ∷ 71 ∷ 59 ∷ 67 ∷ []
unfolding joined
joined_pair = refl

-- a byte short: the call is refused, and its chunk handed back
abbrev short : Result Encoded Code
short = encoded pair (chunk_of 1 2 0 0 2 3 0 0) 1

pub short_pair : (short ≡ Err (Code.NoRoom 2)) × ((bytes_out short ≡ 0) × (next_out (chunk_of 1 2 0 0 2 3 0 0) short ≡ chunk_of 1 2 0 0 2 3 0 0))
unfolding encoded first_back end_of tokens_from token_at written bytes_of lead spelled fields_of base_of after vlq_value digits_of char_of
short_pair = (refl, (refl, refl))

-- two tokens 0 0 0 0 0 none: `AAAA,AAAA`
abbrev equals : List ℕ
equals = 0 ∷ 0 ∷ 0 ∷ 0 ∷ 0 ∷ no_id ∷ 0 ∷ 0 ∷ 0 ∷ 0 ∷ 0 ∷ 0 ∷ no_id ∷ 5 ∷ []

pub twice : bytes_in equals (whole equals) ≡ 65 ∷ 65 ∷ 65 ∷ 65 ∷ 44 ∷ 65 ∷ 65 ∷ 65 ∷ 65 ∷ []
unfolding tokens_from token_at written bytes_of lead spelled fields_of base_of after vlq_value digits_of char_of
twice = refl
