-- An entry as its three numbers. Assumes nothing.
use mathlib.Core.Path.{◌≡◌, refl, ◌∙◌, sym}
use mathlib.Core.List.{List, [], ◌∷◌, ◌++◌, append_assoc}
use Prim.Native.Nat.{ℕ, suc, ◌+◌, ◌≤◌}
use native.Mathlib.Omega.{arith}
use lib.ListN.{length, take, drop, set}
use lib.Seq.{sets-eq}
use Rattle.list.specs.Memory.{blit}
use Rattle.list.specs.Put.{Put}

blit_is : (out : List ℕ) (at : ℕ) (w : List ℕ) → blit out at w ≡ take at out ++ (w ++ drop (at + length w) out)
unfolding blit
blit_is out at w = refl

-- three stores
pub put_three : (out : List ℕ) (at a b c : ℕ) → at + 3 ≤ length out
    → Put out at (a ∷ b ∷ c ∷ []) (at + 3) (set (set (set out at a) (at + 1) b) (at + 2) c)
put_three out at a b c h = record { past = refl; wrote = stored }
  where
    stored : set (set (set out at a) (at + 1) b) (at + 2) c ≡ blit out at (a ∷ b ∷ c ∷ [])
    stored =
        let e₁ : at + 1 ≡ suc at = omega arith in
        let e₂ : at + 2 ≡ suc (suc at) = omega arith in
        rw (e₁, e₂) (sets-eq (a ∷ b ∷ c ∷ []) out at h ∙ append_assoc (take at out) (a ∷ b ∷ c ∷ []) (drop (at + 3) out) ∙ sym (blit_is out at (a ∷ b ∷ c ∷ [])))
