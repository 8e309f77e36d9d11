-- The contracts of composing leave one answer, and one content of the lent result and list. Assumes nothing.
use mathlib.Core.Path.{◌≡◌, sym, ◌∙◌}
use lib.ListN.{length}
use mathlib.Core.List.{List}
use Prim.Native.Nat.{ℕ, ◌≤◌}
use Rattle.std.specs.Prelude.{Result}
use Rattle.code.specs.declared.Code.{Code}
use Rattle.compose.specs.Compose.{Maps, work_for, Composes, ComposesWith}
use Rattle.compose.proofs.Whole.{with_enough}

pub one_answer : (m : Maps) (result added : List ℕ) (r s : Result ℕ Code) (result₁ added₁ result₂ added₂ : List ℕ)
    → Composes m result added r result₁ added₁ → Composes m result added s result₂ added₂
    → (r ≡ s) × ((result₁ ≡ result₂) × (added₁ ≡ added₂))
one_answer m result added r s result₁ added₁ result₂ added₂ a b =
    (a.says ∙ sym b.says, (a.wrote ∙ sym b.wrote, a.listed ∙ sym b.listed))

pub one_answer_with : (m : Maps) (result added work : List ℕ) (r s : Result ℕ Code) (result₁ added₁ work₁ result₂ added₂ work₂ : List ℕ)
    → ComposesWith m result added work r result₁ added₁ work₁ → ComposesWith m result added work s result₂ added₂ work₂
    → (r ≡ s) × ((result₁ ≡ result₂) × (added₁ ≡ added₂))
one_answer_with m result added work r s result₁ added₁ work₁ result₂ added₂ work₂ a b =
    (a.says ∙ sym b.says, (a.wrote ∙ sym b.wrote, a.listed ∙ sym b.listed))

-- with as many places of working memory as it takes, the contract is the plain one's
pub with_plain : (m : Maps) (result added work : List ℕ) → work_for m ≤ length work → (r : Result ℕ Code) (result' added' work' : List ℕ)
    → ComposesWith m result added work r result' added' work' → Composes m result added r result' added'
with_plain m result added work h r result' added' work' c =
    let e = with_enough m (length result) (length added) (length work) h in
    record { says = c.says ∙ e; wrote = rw e at c.wrote; listed = rw e at c.listed }
