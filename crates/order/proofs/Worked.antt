-- Some tables, computed: sorted ones, and where others first fall. Assumes nothing.
use mathlib.Core.Path.{◌≡◌, refl}
use mathlib.Core.Bool.{false}
use mathlib.Core.List.{[], ◌∷◌}
use Rattle.std.specs.Prelude.{Some, None}
use Prim.Native.Nat.{ℕ}
use Rattle.token.specs.Table.{no_id, token, token_at, tokens_from, flat}
use Rattle.token.specs.declared.Token.{Token}
use Rattle.order.specs.Order.{fall_from, first_fall, sorted}

-- a token at a position
abbrev at : ℕ → ℕ → Token
at line col = token line col 0 0 no_id no_id 0

pub empty : first_fall [] ≡ None
unfolding tokens_from
empty = refl

-- equal positions are sorted, and so is a column that falls on the next line
pub rising : first_fall (flat (at 0 0 ∷ at 0 4 ∷ at 0 4 ∷ at 1 2 ∷ [])) ≡ None
unfolding fall_from tokens_from token_at flat
rising = refl

pub by_column : first_fall (flat (at 0 0 ∷ at 0 4 ∷ at 0 3 ∷ at 0 2 ∷ [])) ≡ Some 2
unfolding fall_from tokens_from token_at flat
by_column = refl

-- a line that falls where the column rises
pub by_line : first_fall (flat (at 1 0 ∷ at 0 9 ∷ [])) ≡ Some 1
unfolding fall_from tokens_from token_at flat
by_line = refl

-- the last token counts
pub at_the_end : sorted (flat (at 0 0 ∷ at 0 1 ∷ at 0 2 ∷ at 0 1 ∷ [])) ≡ false
unfolding fall_from tokens_from token_at flat
at_the_end = refl
