-- The writer goes by the first six numbers of each token: where a segment began is not written. Assumes nothing.
use mathlib.Core.Path.{◌≡◌, refl, ap}
use mathlib.Core.List.{List, [], ◌∷◌, ◌++◌, map}
use mathlib.Core.Option.{some}
use Prim.Native.Nat.{ℕ, ◌+◌}
use lib.Dec.{eqb, ltb}
use Rattle.list.specs.Pick.{pick}
use Rattle.token.specs.Table.{SameTokens}
use Rattle.token.specs.declared.Token.{Token}
use Rattle.token.specs.declared.TokenChunk.{TokenChunk}
use Rattle.token.proofs.Same.{bare, by_six}
use Rattle.chunk.specs.Chunk.{base_of, fields_of, bytes_of, after, written, end_of, first_back}

written_bare : (i : ℕ) (p : TokenChunk) (ts : List Token) → written i p (map bare ts) ≡ written i p ts
unfolding written bytes_of fields_of base_of after
written_bare i p [] = refl
written_bare i p (t ∷ ts) = ap (λ (l : List ℕ). bytes_of (eqb i 0) p t ++ l) (written_bare (i + 1) (after p t) ts)

end_of_bare : (p : TokenChunk) (ts : List Token) → end_of p (map bare ts) ≡ end_of p ts
unfolding end_of after
end_of_bare p [] = refl
end_of_bare p (t ∷ ts) = end_of_bare (after p t) ts

first_back_bare : (i line : ℕ) (ts : List Token) → first_back i line (map bare ts) ≡ first_back i line ts
unfolding first_back
first_back_bare i line [] = refl
first_back_bare i line (t ∷ ts) = ap (pick (ltb t.dst_line line) (some i)) (first_back_bare (i + 1) t.dst_line ts)

-- lists that agree in the first six: the same bytes, the same end state, and a line goes back at the same token
module _ (a b : List Token) (same : SameTokens a b) where
  pub written_same : (i : ℕ) (p : TokenChunk) → written i p a ≡ written i p b
  written_same i p = by_six (written i p) (written_bare i p) a b same

  pub end_of_same : (p : TokenChunk) → end_of p a ≡ end_of p b
  end_of_same p = by_six (end_of p) (end_of_bare p) a b same

  pub first_back_same : (i line : ℕ) → first_back i line a ≡ first_back i line b
  first_back_same i line = by_six (first_back i line) (first_back_bare i line) a b same
