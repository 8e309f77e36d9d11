-- Worked cases at the edges, computed from the definitions. Assumes nothing.
use Rattle.std.proofs.Common.{◌≡◌, ℕ, true, false, [], ◌∷◌, refl}
use Rattle.std.specs.Prelude.{Err}
use Rattle.code.specs.declared.Code.{Code}
use Rattle.token.specs.Table.{no_id, no_segment, token, token_at, tokens_from}
use Rattle.token.specs.declared.Token.{Token}
use Rattle.translate.specs.Translate.{too_big, moved, first_too_big, translates_to}

abbrev at : ℕ → ℕ → ℕ → ℕ → Token
at line source name segment = token line 1 2 3 source name segment

-- a source id sum of 4,294,967,295 does not become none
source_reaches_none : too_big 0 1 0 (at 0 4294967294 no_id 0) ≡ true
unfolding too_big
source_reaches_none = refl

-- nor does a name id sum
name_reaches_none : too_big 0 0 4294967295 (at 0 0 0 1) ≡ true
unfolding too_big
name_reaches_none = refl

-- a line sum of 4,294,967,295 is taken, and one more is too big; where the segment begins is no line, and stays
largest_line : (too_big 1 0 0 (at 4294967294 0 0 no_segment) ≡ false) × (moved 1 0 0 (at 4294967294 0 0 no_segment) ≡ (at 4294967295 0 0 no_segment))
unfolding too_big moved
largest_line = (refl, refl)

past_largest_line : too_big 1 0 0 (at 4294967295 0 0 2) ≡ true
unfolding too_big
past_largest_line = refl

-- none stays none, whatever the offsets
none_stays : (too_big 5 4294967295 4294967295 (at 0 no_id no_id 9) ≡ false) × (moved 5 4294967295 4294967295 (at 0 no_id no_id 9) ≡ (at 5 no_id no_id 9))
unfolding too_big moved
none_stays = (refl, refl)

-- the index of the first token that is too big
second_too_big : translates_to 0 1 0 (0 ∷ 0 ∷ 0 ∷ 0 ∷ no_id ∷ no_id ∷ no_segment ∷ 0 ∷ 0 ∷ 0 ∷ 0 ∷ 4294967294 ∷ no_id ∷ 3 ∷ 0 ∷ 0 ∷ 0 ∷ 0 ∷ 4294967294 ∷ no_id ∷ 8 ∷ []) ≡ Err (Code.TooBig 1)
unfolding translates_to first_too_big too_big tokens_from token_at
second_too_big = refl

short_table : translates_to 0 1 0 (0 ∷ 0 ∷ 0 ∷ 0 ∷ no_id ∷ no_id ∷ []) ≡ Err Code.BadTable
unfolding translates_to
short_table = refl
