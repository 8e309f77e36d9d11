-- A rule of the numbers below a bound, proved at each of them by one test that antt computes. Assumes nothing.
use mathlib.Core.Path.{◌≡◌, refl, subst}
use mathlib.Core.Bool.{Bool, true, false}
use Prim.Native.Nat.{ℕ, zero, suc, ◌<◌, ◌≤◌}
use native.Mathlib.Nat.{not-suc-le-zero}
use native.Mathlib.Omega.{arith}
use lib.Dec.{T, ltb}
use borrow.Author.Tests.{ltb-true, ltb-false}
use Rattle.list.proofs.Table.{both}

pub both_left : (a b : Bool) → T (both a b) → T a
both_left true b t = tt
both_left false b t = t

pub both_right : (a b : Bool) → T (both a b) → T b
both_right true b t = t
both_right false b t = absurd t

-- the test passes at each number below n
abbrev pub below : (ℕ → Bool) → ℕ → Bool
below f zero = true
below f (suc n) = both (f n) (below f n)

last_or : (f : ℕ → Bool) (n k : ℕ) → T (f n) → (k < n → T (f k)) → k < suc n → (t : Bool) → ltb k n ≡ t → T (f k)
last_or f n k p ih h true e = ih (ltb-true k n e)
last_or f n k p ih h false e = let q : n ≤ k = ltb-false k n e in subst (λ (m : ℕ). T (f m)) (omega arith) p

pub at : (f : ℕ → Bool) (n : ℕ) → T (below f n) → (k : ℕ) → k < n → T (f k)
at f zero t k h = absurd (not-suc-le-zero h)
at f (suc n) t k h =
    last_or f n k (both_left (f n) (below f n) t) (λ l. at f n (both_right (f n) (below f n) t) k l) h (ltb k n) refl
