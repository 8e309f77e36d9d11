-- Some tables, computed: a token on one side alone, equal positions held place by place, the seventh number passed over. Assumes nothing.
use mathlib.Core.Path.{◌≡◌, refl}
use mathlib.Core.List.{List, [], ◌∷◌}
use Prim.Native.Nat.{ℕ}
use Rattle.list.specs.Same.{same}
use Rattle.token.specs.Table.{no_id, token, token_at, tokens_from, flat}
use Rattle.token.specs.declared.Token.{Token}
use Rattle.changes.specs.Changes.{among, positions_of, there_from, only_left, only_right, different, held, each, changes, listed}

-- a token at a position, of a source; its segment begins at the last number
abbrev at : ℕ → ℕ → ℕ → ℕ → Token
at line col source segment = token line col 0 0 source no_id segment

-- the tokens (0 0) (0 4) (0 4) (2 0)
abbrev left : List ℕ
left = flat (at 0 0 0 0 ∷ at 0 4 0 5 ∷ at 0 4 1 9 ∷ at 2 0 0 16 ∷ [])

-- the tokens (0 4) (0 4) (0 4) (1 0): the first is the left one's first there but for its segment, the second is another
abbrev right : List ℕ
right = flat (at 0 4 0 0 ∷ at 0 4 2 4 ∷ at 0 4 3 9 ∷ at 1 0 0 14 ∷ [])

pub both_sides : changes left right ≡ only_left 0 ∷ different 2 1 ∷ only_right 2 ∷ only_right 3 ∷ only_left 3 ∷ []
unfolding same token_at tokens_from flat among positions_of there_from held each
both_sides = refl

pub as_numbers : listed (changes left right) ≡ 1 ∷ 0 ∷ 4294967295 ∷ 3 ∷ 2 ∷ 1 ∷ 2 ∷ 4294967295 ∷ 2 ∷ 2 ∷ 4294967295 ∷ 3 ∷ 1 ∷ 3 ∷ 4294967295 ∷ []
unfolding same token_at tokens_from flat among positions_of there_from held each listed
as_numbers = refl

-- another order among the tokens at one position is a difference, for each place that differs
pub other_order : changes (flat (at 0 4 0 0 ∷ at 0 4 1 0 ∷ [])) (flat (at 0 4 1 0 ∷ at 0 4 0 0 ∷ [])) ≡ different 0 0 ∷ different 1 1 ∷ []
unfolding same token_at tokens_from flat among positions_of there_from held each
other_order = refl

pub nothing_left : changes [] right ≡ only_right 0 ∷ only_right 1 ∷ only_right 2 ∷ only_right 3 ∷ []
unfolding same token_at tokens_from flat among positions_of there_from held each
nothing_left = refl

pub with_itself : changes left left ≡ []
unfolding same token_at tokens_from flat among positions_of there_from held each
with_itself = refl
