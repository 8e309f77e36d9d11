-- The steps of one digit: the rule of their table, by one test that antt computes over it, and that a step depends on the
-- difference alone. Assumes nothing.
use Rattle.std.proofs.Common.{◌≡◌, ℕ, ◌+◌, ◌-◌, ◌*◌, ◌%◌, ◌^◌, ◌<◌, ◌≤◌, Bool, eqb, get_or, sym, ap, ◌∙◌, arith, eqb→eq, le-ltb, lt-ltb}
use Rattle.list.proofs.Table.{at}
use Rattle.digits.specs.Digits.{char_of}
use Rattle.vlq_write.specs.Few.{Few}
use Rattle.vlq_write.specs.Near.{near_writing, Off}
use Rattle.vlq_write.specs.Write.{vlq_value}
use Rattle.vlq_write.proofs.Sizes.{either}

right_near : ℕ → ℕ → Bool
right_near k x = eqb x (char_of (vlq_value k 15))

pub near_writes : (x : ℕ) → x < 31 → get_or near_writing x 0 ≡ char_of (vlq_value x 15)
unfolding near_writing right_near char_of vlq_value
near_writes x h = eqb→eq (get_or near_writing x 0) (char_of (vlq_value x 15)) (at right_near near_writing tt x h)

down : (a b : ℕ) → a < b → vlq_value a b ≡ (b - a) * 2 + 1
unfolding vlq_value
down a b h = rw (lt-ltb a b h)

up : (a b : ℕ) → b ≤ a → vlq_value a b ≡ (a - b) * 2
unfolding vlq_value
up a b h = rw (le-ltb a b h)

-- a step depends on the difference alone
module _ (a b x : ℕ) (e : x + b ≡ a + 15) where
  same_step : vlq_value x 15 ≡ vlq_value a b
  same_step =
      either x 15
      (λ h. down x 15 h ∙ omega arith ∙ sym (down a b (omega arith)))
      (λ h. up x 15 h ∙ omega arith ∙ sym (up a b (omega arith)))

  short_step : x < 31 → vlq_value x 15 < 32
  short_step h = either x 15 (λ l. omega (arith, down x 15 l)) (λ l. omega (arith, up x 15 l))

-- r is the difference as the code makes it, modulo 2^64
module _ (a b r : ℕ) (ha : a < 2 ^ 32) (hb : b < 2 ^ 32) (hr : r < 2 ^ 64) (e : (r + b) % 2 ^ 64 ≡ a + 15) where
  far : 31 ≤ r → 32 ≤ vlq_value a b
  far h = either a b (λ l. omega (arith, down a b l)) (λ l. omega (arith, up a b l))

  pub is_off : Off a b r
  is_off = record { near = λ h. omega arith; far = far }

-- x is off, as the code has it
module _ (a b x : ℕ) (o : Off a b x) (h : x < 31) where
  pub near_small : vlq_value a b < 32
  near_small = rw (← same_step a b x (o.near h)) (short_step a b x (o.near h) h)

  pub near_char : (d : ℕ) → d ≡ char_of (vlq_value x 15) → d ≡ char_of (vlq_value a b)
  near_char d e = e ∙ ap char_of (same_step a b x (o.near h))

pub far_few : (a b x : ℕ) → Off a b x → 31 ≤ x → (v : ℕ) → v ≡ vlq_value a b → v < 2 ^ 20 → Few v
far_few a b x o h v ev l = record { least = rw ev (o.far h); most = l }
