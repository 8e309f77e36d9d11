-- The added names stay apart, token after token. Assumes nothing.
use mathlib.Core.List.{List, [], ◌∷◌}
use Rattle.std.specs.Prelude.{Option, None, Some}
use Prim.Native.Nat.{ℕ}
use Rattle.list.proofs.Pick.{pick_ind}
use Rattle.token.specs.Table.{is_none, token_at}
use Rattle.token.specs.declared.Token.{Token}
use Rattle.lookup.specs.Lookup.{lookup_of}
use Rattle.names.specs.Names.{NameList}
use Rattle.name_ids.specs.NameIds.{Named}
use Rattle.name_ids.specs.Answers.{Kept}
use Rattle.name_ids.proofs.Grow.{kept_named}
use Rattle.compose.specs.Compose.{Made, found, made_of, composed_from}

module _ (inner outer : NameList) (table : List ℕ) where
  pub kept_made : (ids : List ℕ) (t : Token) → Kept inner outer ids → Kept inner outer (made_of inner outer table ids t).added
  unfolding made_of
  kept_made ids t k =
      pick_ind Holds (is_none t.source_id) (λ e. k) (λ e. go (lookup_of table t.src_line t.src_col))
    where
      Holds : Made → Type 0
      Holds m = Kept inner outer m.added

      go : (o : Option ℕ) → Holds (found inner outer table ids t o)
      go None = k
      go (Some i) =
          pick_ind Holds (is_none (token_at table i).source_id) (λ e. k)
          (λ e. pick_ind (λ (n : Named). Kept inner outer n.added) (is_none (token_at table i).name_id)
          (λ f. kept_named inner outer ids t.name_id k) (λ f. k))

  pub kept_all : (ids : List ℕ) (ts : List Token) → Kept inner outer ids → Kept inner outer (composed_from inner outer table ids ts).added
  unfolding composed_from
  kept_all ids [] k = k
  kept_all ids (t ∷ ts) k = kept_all (made_of inner outer table ids t).added ts (kept_made ids t k)
