-- A digit put above a number, and what that pushes out of 64 bits. Assumes nothing.
use mathlib.Core.Path.{◌≡◌, refl, sym, ◌∙◌, ap}
use mathlib.Core.Bool.{Bool, true, false}
use Prim.Native.Nat.{ℕ, ◌+◌, ◌-◌, ◌*◌, ◌/◌, ◌%◌, ◌^◌, ◌<◌, ◌≤◌}
use native.Mathlib.Nat.{mul_comm, mod-eq_of_lt, div-eq_of_lt}
use native.Mathlib.Omega.{arith}
use lib.Pow.{pow-add, pow_mono, shl_exact}
use lib.Arith.{digits_lt}
use lib.Dec.{eqb}
use borrow.Author.Tests.{eqb-true, eqb-false}
use Rattle.list.specs.Pick.{pick}

-- a digit put at bit 5k, above a number that is below that bit
pub place_next : (k : ℕ) → 2 ^ (5 * (k + 1)) ≡ 2 ^ (5 * k) * 32
place_next k = ap (λ (e : ℕ). 2 ^ e) (omega arith) ∙ pow-add 2 (5 * k) 5

pub put_lt : (cur k m : ℕ) → cur < 2 ^ (5 * k) → m < 32 → cur + m * 2 ^ (5 * k) < 2 ^ (5 * (k + 1))
put_lt cur k m h l =
    let q : m * 2 ^ (5 * k) + cur < 32 * 2 ^ (5 * k) = digits_lt l h in
    rw (place_next k) (omega (arith, mul_comm (2 ^ (5 * k)) 32))

pub put_small : (cur k m : ℕ) → k < 12 → cur < 2 ^ (5 * k) → m < 32 → cur + m * 2 ^ (5 * k) < 2 ^ 60
put_small cur k m kk h l =
    let q : 2 ^ (5 * (k + 1)) ≤ 2 ^ 60 = pow_mono {i = 5 * (k + 1)} {j = 60} (omega arith) in
    omega (arith, put_lt cur k m h l)

pub put_exact : (cur k m : ℕ) → k < 12 → cur < 2 ^ (5 * k) → m < 32 → (cur + m * 2 ^ (5 * k)) % 2 ^ 64 ≡ cur + m * 2 ^ (5 * k)
put_exact cur k m kk h l = mod-eq_of_lt (omega (arith, put_small cur k m kk h l))

pub shift_exact : (k m : ℕ) → k < 12 → m < 32 → m * 2 ^ (5 * k) % 2 ^ 64 ≡ m * 2 ^ (5 * k)
shift_exact k m kk l = shl_exact 5 (5 * k) 64 l (omega arith)

-- what stands above 64 bits
lost_by : (t : Bool) (cur k m : ℕ) → eqb k 12 ≡ t → k < 13 → cur < 2 ^ (5 * k) → m < 32 → (cur + m * 2 ^ (5 * k)) / 2 ^ 64 ≡ pick t (m / 16) 0
lost_by true cur k m e kk h l =
    let q : k ≡ 12 = eqb-true k 12 e in
    let g : cur < 2 ^ 60 = rw q at h in
    rw q (omega arith)
lost_by false cur k m e kk h l =
    let n : (k ≡ 12 → ⊥) = eqb-false k 12 e in
    let q : k < 12 = omega arith in
    div-eq_of_lt (omega (arith, put_small cur k m q h l))

pub lost_is : (cur k m : ℕ) → k < 13 → cur < 2 ^ (5 * k) → m < 32 → (cur + m * 2 ^ (5 * k)) / 2 ^ 64 ≡ pick (eqb k 12) (m / 16) 0
lost_is cur k m kk h l = lost_by (eqb k 12) cur k m refl kk h l

-- the digit's bits but for the lost one, shifted to their place: nothing of them is pushed out
put_by : (t : Bool) (cur k m lost : ℕ) → eqb k 12 ≡ t → k < 13 → cur < 2 ^ (5 * k) → m < 32 → lost ≡ pick t (m / 16) 0
    → cur + (m - 16 * lost) * 2 ^ (5 * k) % 2 ^ 64 ≡ (cur + m * 2 ^ (5 * k)) % 2 ^ 64
put_by true cur k m lost e kk h l z =
    let q : k ≡ 12 = eqb-true k 12 e in
    let g : cur < 2 ^ 60 = rw q at h in
    rw q (omega arith)
put_by false cur k m lost e kk h l z =
    let n : (k ≡ 12 → ⊥) = eqb-false k 12 e in
    let q : k < 12 = omega arith in
    let s : m - 16 * lost ≡ m = omega arith in
    rw (s, shift_exact k m q l) (sym (put_exact cur k m q h l))

module _ (cur k m lost : ℕ) (kk : k < 13) (h : cur < 2 ^ (5 * k)) (l : m < 32) (z : lost ≡ pick (eqb k 12) (m / 16) 0) where
  pub put_is : cur + (m - 16 * lost) * 2 ^ (5 * k) % 2 ^ 64 ≡ (cur + m * 2 ^ (5 * k)) % 2 ^ 64
  put_is = put_by (eqb k 12) cur k m lost refl kk h l z

  pub put_fits : cur + (m - 16 * lost) * 2 ^ (5 * k) % 2 ^ 64 < 2 ^ 64
  put_fits = rw put_is (omega arith)

  lost_little : (t : Bool) → lost ≡ pick t (m / 16) 0 → 16 * lost ≤ m
  lost_little true e = omega arith
  lost_little false e = omega arith

  pub lost_least : 16 * lost ≤ m
  lost_least = lost_little (eqb k 12) z
