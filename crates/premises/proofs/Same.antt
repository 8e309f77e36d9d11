-- The premises go by the first six numbers of each token. Assumes nothing.
use mathlib.Core.Path.{◌≡◌, refl, ap}
use mathlib.Core.List.{List, [], ◌∷◌, map}
use Prim.Native.Nat.{ℕ}
use Rattle.list.specs.Pick.{pick, both}
use Rattle.token.specs.Table.{is_none, SameTokens}
use Rattle.token.specs.declared.Token.{Token}
use Rattle.token.proofs.Same.{bare, by_six}
use Rattle.premises.specs.Premises.{follows, follow, premises}

follow_bare : (sources names line source_line source_col : ℕ) (ts : List Token)
    → follow sources names line source_line source_col (map bare ts) ≡ follow sources names line source_line source_col ts
unfolding follow follows
follow_bare sources names line source_line source_col [] = refl
follow_bare sources names line source_line source_col (t ∷ ts) =
    ap (both (follows sources names line source_line source_col t))
    (follow_bare sources names t.dst_line (pick (is_none t.source_id) source_line t.src_line) (pick (is_none t.source_id) source_col t.src_col) ts)

-- lists that agree in the first six: both meet them, or neither
module _ (sources names : ℕ) (a b : List Token) (same : SameTokens a b) where
  pub follow_same : (line source_line source_col : ℕ) → follow sources names line source_line source_col a ≡ follow sources names line source_line source_col b
  follow_same line source_line source_col =
      by_six (follow sources names line source_line source_col) (follow_bare sources names line source_line source_col) a b same

  pub premises_same : premises sources names a ≡ premises sources names b
  premises_same = follow_same 0 0 0
