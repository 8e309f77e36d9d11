-- Names whose bytes differ: in how many there are, or in the first. Assumes nothing.
use mathlib.Core.Path.{◌≡◌, refl, ap}
use mathlib.Core.Bool.{Bool, true, false}
use mathlib.Core.List.{List}
use Prim.Native.Nat.{ℕ}
use lib.ListN.{length, get_or}
use Rattle.list.specs.Same.{same}
use Rattle.list.proofs.Same.{same_is}

differs_if : (a b : List ℕ) → (a ≡ b → ⊥) → false ≡ same a b
differs_if a b n = go (same a b) refl
  where
    go : (t : Bool) → same a b ≡ t → false ≡ t
    go false e = refl
    go true e = absurd (n (same_is a b e))

pub differs : (a b : List ℕ) → (length a ≡ length b → ⊥) → false ≡ same a b
differs a b n = differs_if a b (λ e. n (ap length e))

pub unlike : (a b : List ℕ) → (get_or a 0 0 ≡ get_or b 0 0 → ⊥) → false ≡ same a b
unlike a b n = differs_if a b (λ e. n (ap (λ (l : List ℕ). get_or l 0 0) e))
