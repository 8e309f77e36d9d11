-- The contract of `outer_name_id` leaves one answer. Assumes nothing.
use mathlib.Core.Path.{◌≡◌, sym, ◌∙◌, ap}
use mathlib.Core.List.{List, [], ◌∷◌, ◌++◌}
use Prim.Native.Nat.{ℕ}
use native.Mathlib.Omega.{arith}
use lib.ListN.{length, length-append}
use Rattle.name_ids.specs.declared.NameId.{NameId}
use Rattle.name_ids.specs.NameIds.{Named}
use Rattle.name_ids.specs.declared.NameId.TheVariants.{Found, New}
use Rattle.name_ids.specs.Answers.{named_by}

longer : {A : Type 0} (ids : List ℕ) (id : ℕ) → ids ++ (id ∷ []) ≡ ids → A
longer ids id e = let l : length (ids ++ (id ∷ [])) ≡ length ids = ap length e in absurd (omega (arith, length-append ids (id ∷ [])))

pub one_answer : (ids : List ℕ) (id : ℕ) (n : Named) (a b : NameId) → named_by ids id a ≡ n → named_by ids id b ≡ n → a ≡ b
one_answer ids id n a b e f = go a b (e ∙ sym f)
  where
    go : (a b : NameId) → named_by ids id a ≡ named_by ids id b → a ≡ b
    go (Found x) (Found y) q = ap Found (ap (λ (m : Named). m.id) q)
    go (New x) (New y) q = ap New (ap (λ (m : Named). m.id) q)
    go (Found x) (New y) q = longer ids id (ap (λ (m : Named). m.added) (sym q))
    go (New x) (Found y) q = longer ids id (ap (λ (m : Named). m.added) q)
