-- How many digits a number takes, by comparisons. Assumes nothing.
use Rattle.std.proofs.Common.{◌≡◌, ℕ, zero, suc, ◌+◌, ◌*◌, ◌/◌, ◌^◌, ◌<◌, ◌≤◌, length, ap, ◌∙◌, lt_of_not-le, arith, pow_pos, pow-add, le-ltb, lt-ltb}
use native.Mathlib.Decide.{dec_le}
use Rattle.vlq_write.specs.Size.{Reaches, StepSize}
use Rattle.vlq_write.specs.Write.{digits_of, write_of, vlq_value}
use Rattle.vlq_write.proofs.Digits.{size_one, size_more, step_most}
use Rattle.vlq_write.proofs.Values.{value_small}

-- one order or the other
pub either {ℓ} : {X : Type ℓ} (a b : ℕ) → (a < b → X) → (b ≤ a → X) → X
either a b f g = elim (dec_le b a) [ yes h ↦ g h | no h ↦ f (lt_of_not-le h) ]

-- one digit more for each five bits more
sized : (k f n : ℕ) → n ≤ f → 2 ^ (5 * k) ≤ n → n < 2 ^ (5 * k) * 32 → length (digits_of f n) ≡ k + 1
sized zero f n b h l = size_one f n l
sized (suc k) zero n b h l = absurd (omega (arith, pow_pos (5 * suc k)))
sized (suc k) (suc f) n b h l =
    let p : 2 ^ (5 * suc k) ≡ 2 ^ (5 * k) * 32 = ap (λ (e : ℕ). 2 ^ e) (omega arith) ∙ pow-add 2 (5 * k) 5 in
    size_more f n (omega (arith, pow_pos (5 * k)))
    ∙ ap (λ (m : ℕ). m + 1) (sized k f (n / 32) (omega (arith, pow_pos (5 * k))) (omega arith) (omega arith))
    ∙ omega arith

pub is_under : (v m a : ℕ) → Reaches v m a → v < m → a ≡ 0
is_under v m a r h = r.is ∙ rw (lt-ltb v m h)

pub is_over : (v m a : ℕ) → Reaches v m a → m ≤ v → a ≡ 1
is_over v m a r h = r.is ∙ rw (le-ltb v m h)

-- one digit or two
pub size_short : (v a : ℕ) → v < 1024 → Reaches v 32 a → 1 + a ≡ length (write_of v)
size_short v a h e =
    either v 32
    (λ l. omega (arith, is_under v 32 a e l, size_one v v l))
    (λ l. omega (arith, is_over v 32 a e l, sized 1 v v (omega arith) l h))

-- three digits or more
module _ (v a b c d : ℕ) (h : 1024 ≤ v) (l : v < 2 ^ 35) (ra : Reaches v 32768 a) (rb : Reaches v 1048576 b)
    (rc : Reaches v 33554432 c) (rd : Reaches v 1073741824 d) where
  pub size_long : 3 + a + b + c + d ≡ length (write_of v)
  size_long =
      either v 32768
      (λ u. omega (arith, is_under v 32768 a ra u, is_under v 1048576 b rb (omega arith), is_under v 33554432 c rc (omega arith), is_under v 1073741824 d rd (omega arith), sized 2 v v (omega arith) h u))
      (λ u. either v 1048576
      (λ y. omega (arith, is_over v 32768 a ra u, is_under v 1048576 b rb y, is_under v 33554432 c rc (omega arith), is_under v 1073741824 d rd (omega arith), sized 3 v v (omega arith) u y))
      (λ y. either v 33554432
      (λ z. omega (arith, is_over v 32768 a ra u, is_over v 1048576 b rb y, is_under v 33554432 c rc z, is_under v 1073741824 d rd (omega arith), sized 4 v v (omega arith) y z))
      (λ z. either v 1073741824
      (λ w. omega (arith, is_over v 32768 a ra u, is_over v 1048576 b rb y, is_over v 33554432 c rc z, is_under v 1073741824 d rd w, sized 5 v v (omega arith) z w))
      (λ w. omega (arith, is_over v 32768 a ra u, is_over v 1048576 b rb y, is_over v 33554432 c rc z, is_over v 1073741824 d rd w, sized 6 v v (omega arith) w l)))))

-- the step between two 32-bit numbers; v is the step as the code has it, and r its size
module _ (a b v : ℕ) (ha : a < 2 ^ 32) (hb : b < 2 ^ 32) (ev : v ≡ vlq_value a b) where
  pub step_fits : v < 2 ^ 35
  step_fits = omega (arith, value_small a b ha hb)

  pub step_size : (r : ℕ) → r ≡ length (write_of v) → StepSize a b r
  step_size r er =
      let e : r ≡ length (write_of (vlq_value a b)) = er ∙ ap (λ (n : ℕ). length (write_of n)) ev in
      record { is = e; few = omega (arith, step_most a b ha hb) }
