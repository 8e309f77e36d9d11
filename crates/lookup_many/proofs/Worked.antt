-- Some calls, computed: each refusal before the next, and what is found at a position that comes twice, at one before its line's first
-- token, and among equal tokens. Assumes nothing.
use mathlib.Core.Path.{◌≡◌, refl}
use mathlib.Core.List.{List, [], ◌∷◌}
use Prim.Native.Nat.{ℕ}
use Rattle.std.specs.Prelude.{Ok, Err}
use Rattle.code.specs.declared.Code.{Code}
use Rattle.token.specs.Table.{no_id, token, token_at, flat}
use Rattle.lookup.specs.Lookup.{best_of, lookup_of, found_out}
use Rattle.lookup_many.specs.Many.{line_of, col_of, many_to}

-- the tokens (0 0) (0 4) (0 4) (1 2)
abbrev table : List ℕ
table =
    flat (token 0 0 0 0 no_id no_id 0 ∷ token 0 4 0 0 no_id no_id 0 ∷ token 0 4 0 0 no_id no_id 0 ∷ token 1 2 0 0 no_id no_id 0 ∷ [])

abbrev asked : List ℕ
asked = 0 ∷ 5 ∷ 0 ∷ 5 ∷ 1 ∷ 1 ∷ 0 ∷ 3 ∷ []

-- what one lookup of the k-th pair says
abbrev says : ℕ → ℕ
says k = (found_out (Ok (lookup_of table (line_of asked k) (col_of asked k)))).number

pub found : (says 0 ≡ 2) × ((says 1 ≡ 2) × ((says 2 ≡ 4294967295) × (says 3 ≡ 0)))
unfolding best_of token_at flat
found = (refl, (refl, (refl, refl)))

pub enough : many_to table asked 4 ≡ Ok tt
unfolding many_to flat
enough = refl

pub short : many_to table asked 3 ≡ Err (Code.NoRoom 4)
unfolding many_to flat
short = refl

pub odd_first : many_to table (0 ∷ []) 0 ≡ Err Code.OddList
unfolding many_to flat
odd_first = refl

pub bad_first : many_to (0 ∷ []) (0 ∷ []) 0 ≡ Err Code.BadTable
unfolding many_to
bad_first = refl

pub nothing_asked : many_to [] [] 0 ≡ Ok tt
unfolding many_to
nothing_asked = refl
