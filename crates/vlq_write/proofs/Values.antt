-- The step from one number to another: as the code makes it, its range, and that it is read back. Assumes nothing.
use Rattle.std.proofs.Common.{◌≡◌, ℕ, zero, suc, ◌+◌, ◌-◌, ◌*◌, ◌/◌, ◌%◌, ◌^◌, ◌<◌, ◌≤◌, Bool, true, false, ltb, pos, negsuc, ◌-ℤ◌, refl, ap, arith, ltb-false, ltb-true, le-ltb, lt-ltb, eq-eqb, ne_eqb}
use Rattle.std.specs.Int.{abs_diff, from_bool}
use Rattle.list.specs.Pick.{pick}
use Rattle.value.specs.Value.{sign_of}
use Rattle.vlq_write.specs.Write.{vlq_value}

made_by : (t : Bool) (a b : ℕ) → ltb a b ≡ t → abs_diff a b * 2 + from_bool t ≡ pick t ((b - a) * 2 + 1) ((a - b) * 2)
made_by true a b e = omega (arith, ltb-true a b e)
made_by false a b e = omega (arith, ltb-false a b e)

-- the size doubled, and the sign
pub made : (a b : ℕ) → abs_diff a b * 2 + from_bool (ltb a b) ≡ vlq_value a b
unfolding vlq_value
made a b = made_by (ltb a b) a b refl

small_by : (t : Bool) (a b : ℕ) → a < 2 ^ 32 → b < 2 ^ 32 → pick t ((b - a) * 2 + 1) ((a - b) * 2) < 2 ^ 33
small_by true a b h l = omega arith
small_by false a b h l = omega arith

-- the step between two 32-bit numbers
pub value_small : (a b : ℕ) → a < 2 ^ 32 → b < 2 ^ 32 → vlq_value a b < 2 ^ 33
unfolding vlq_value
value_small a b h l = small_by (ltb a b) a b h l

pub value_none : (a : ℕ) → vlq_value a a ≡ 0
unfolding vlq_value
value_none a = rw (le-ltb a a (omega arith)) (omega arith)

not_one_by : (t : Bool) (a b : ℕ) → ltb a b ≡ t → pick t ((b - a) * 2 + 1) ((a - b) * 2) ≡ 1 → ⊥
not_one_by true a b e q = omega (arith, ltb-true a b e)
not_one_by false a b e q = omega arith

-- a step of nothing is never written as one that goes down
pub never_one : (a b : ℕ) → vlq_value a b ≡ 1 → ⊥
unfolding vlq_value
never_one a b q = not_one_by (ltb a b) a b refl q

-- ---- the sign is read back
sign_down : (a b : ℕ) → a < b → sign_of (pos ((b - a) * 2 + 1)) ≡ pos a -ℤ pos b
sign_down a zero h = absurd (omega arith)
sign_down a (suc b) h =
    let e : ((suc b - a) * 2 + 1) / 2 ≡ suc (b - a) = omega arith in
    rw (eq-eqb (((suc b - a) * 2 + 1) % 2) 1 (omega arith), e, lt-ltb a (suc b) h) (ap negsuc (omega arith))

sign_up : (a b : ℕ) → b ≤ a → sign_of (pos ((a - b) * 2)) ≡ pos a -ℤ pos b
sign_up a zero h = rw (ne_eqb ((a - 0) * 2 % 2) 1 (λ q. omega arith)) (ap pos (omega arith))
sign_up a (suc b) h = rw (ne_eqb ((a - suc b) * 2 % 2) 1 (λ q. omega arith), le-ltb a (suc b) h) (ap pos (omega arith))

sign_by : (t : Bool) (a b : ℕ) → ltb a b ≡ t → sign_of (pos (pick t ((b - a) * 2 + 1) ((a - b) * 2))) ≡ pos a -ℤ pos b
sign_by true a b e = sign_down a b (ltb-true a b e)
sign_by false a b e = sign_up a b (ltb-false a b e)

pub sign_back : (a b : ℕ) → sign_of (pos (vlq_value a b)) ≡ pos a -ℤ pos b
unfolding vlq_value
sign_back a b = sign_by (ltb a b) a b refl
