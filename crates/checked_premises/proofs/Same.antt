-- What checked mode asks of the values goes by the first six numbers of each token. Assumes nothing.
use mathlib.Core.Path.{◌≡◌, refl, ap}
use mathlib.Core.List.{List, [], ◌∷◌, map}
use Rattle.list.specs.Pick.{both}
use Rattle.token.specs.Table.{SameTokens}
use Rattle.token.specs.declared.Token.{Token}
use Rattle.token.specs.declared.TokenChunk.{TokenChunk}
use Rattle.token.proofs.Same.{bare, by_six}
use Rattle.value.specs.declared.Mode.{Mode}
use Rattle.chunk.specs.Chunk.{base_of, fields_of, after, fresh}
use Rattle.checked_premises.specs.Checked.{takes_each, takes_from, takes_all}

takes_bare : (mode : Mode) (p : TokenChunk) (ts : List Token) → takes_from mode p (map bare ts) ≡ takes_from mode p ts
unfolding takes_from fields_of base_of after
takes_bare mode p [] = refl
takes_bare mode p (t ∷ ts) = ap (both (takes_each mode (fields_of p t))) (takes_bare mode (after p t) ts)

-- lists that agree in the first six: both are taken, or neither
pub takes_same : (mode : Mode) (a b : List Token) → SameTokens a b → takes_all mode a ≡ takes_all mode b
takes_same mode a b same = by_six (takes_from mode (fresh 0 0)) (takes_bare mode (fresh 0 0)) a b same
