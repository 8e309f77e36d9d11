-- The reader's loop, as laws of the definitions: where it starts, each of its ways out, and a turn.
-- Assumes nothing.
use Rattle.std.specs.Prelude.{Some, None, Ok, Err}
use mathlib.Core.Path.{◌≡◌, refl, sym, ◌∙◌, ap}
use mathlib.Core.Bool.{Bool, true, false}
use mathlib.Core.List.{List, [], ◌∷◌}
use Prim.Native.Nat.{ℕ, suc, ◌+◌, ◌-◌, ◌*◌, ◌/◌, ◌%◌, ◌^◌, ◌<◌, ◌≤◌}
use native.Mathlib.Nat.{mul-add, mul_assoc, mul_comm, mod-eq_of_lt, zero-add}
use native.Mathlib.Numerals.{add-one}
use native.Mathlib.Omega.{arith}
use lib.Dec.{ltb, eqb}
use lib.ListN.{length, get_or, drop, drop_of_length-le}
use lib.Seq.{drop-cons}
use borrow.Author.Tests.{lt-ltb, le-ltb, eq-eqb, ne_eqb, ltb-true, ltb-false}
use Rattle.list.specs.Pick.{pick}
use Rattle.digits.specs.Digits.{digit_of, is_delim, class_of}
use Rattle.digits.proofs.Tables.{Digit, delim_is, is_digit}
use Rattle.vlq.specs.Vlq.{Digits, cut, long, num, push, digits_from, vlq_from, vlq_of, vlq_at}
use Rattle.vlq.proofs.Places.{place_next, put_exact, put_lt, lost_is}
use Rattle.vlq.specs.declared.Broken.{Broken}

-- k digits have been read, which make cur: what the rest of the digits then gives
abbrev pub under : ℕ → ℕ → Digits → Digits
under cur k (cut j) = cut (k + j)
under cur k (long j) = long (k + j)
under cur k (num n len) = num (cur + 2 ^ (5 * k) * n) (k + len)

under_none : (t : Digits) → under 0 0 t ≡ t
under_none (cut j) = ap cut (zero-add j)
under_none (long j) = ap long (zero-add j)
under_none (num n len) = ap (λ (m : ℕ). num m (0 + len)) (omega arith) ∙ ap (λ (m : ℕ). num n m) (omega arith)

under_push : (cur k d : ℕ) (t : Digits) → under cur k (push d t) ≡ under (cur + d % 32 * 2 ^ (5 * k)) (k + 1) t
under_push cur k d (cut j) = ap cut (omega arith)
under_push cur k d (long j) = ap long (omega arith)
under_push cur k d (num n len) =
    ap (λ (m : ℕ). num m (k + (len + 1))) (above (d % 32))
    ∙ ap (λ (m : ℕ). num (cur + d % 32 * 2 ^ (5 * k) + 2 ^ (5 * (k + 1)) * n) m) (omega arith)
  where
    above : (m : ℕ) → cur + 2 ^ (5 * k) * (m + 32 * n) ≡ cur + m * 2 ^ (5 * k) + 2 ^ (5 * (k + 1)) * n
    above m =
        rw (place_next k)
        (omega (arith, mul-add (2 ^ (5 * k)) m (32 * n), mul_assoc (2 ^ (5 * k)) 32 n, mul_comm m (2 ^ (5 * k))))

-- ---- the list's head
module _ (left b : ℕ) (bs : List ℕ) where
  pub tail_delim : is_delim b ≡ true → digits_from left (b ∷ bs) ≡ cut 0
  unfolding digits_from
  tail_delim e = rw e

  pub tail_long : is_delim b ≡ false → left ≡ 0 → digits_from left (b ∷ bs) ≡ long 0
  unfolding digits_from
  tail_long e z = rw (e, eq-eqb left 0 z)

  pub tail_last : is_delim b ≡ false → 0 < left → digit_of b < 32 → digits_from left (b ∷ bs) ≡ num (digit_of b) 1
  unfolding digits_from
  tail_last e z h = rw (e, ne_eqb left 0 (λ q. omega arith), lt-ltb (digit_of b) 32 h)

  pub tail_more : is_delim b ≡ false → 0 < left → 32 ≤ digit_of b → digits_from left (b ∷ bs) ≡ push (digit_of b) (digits_from (left - 1) bs)
  unfolding digits_from
  tail_more e z h = rw (e, ne_eqb left 0 (λ q. omega arith), le-ltb (digit_of b) 32 h)

pub tail_nil : (left : ℕ) → digits_from left [] ≡ cut 0
unfolding digits_from
tail_nil left = refl

-- where no digit may follow, there is no number
spent_by : (t : Bool) (a b k c : ℕ) (cs : List ℕ) → is_delim c ≡ t → under a k (digits_from 0 (c ∷ cs)) ≡ under b k (digits_from 0 (c ∷ cs))
spent_by true a b k c cs e = rw (tail_delim 0 c cs e)
spent_by false a b k c cs e = rw (tail_long 0 c cs e refl)

spent : (a b k : ℕ) (l : List ℕ) → under a k (digits_from 0 l) ≡ under b k (digits_from 0 l)
spent a b k [] = rw (tail_nil 0)
spent a b k (c ∷ cs) = spent_by (is_delim c) a b k c cs refl

-- ---- the loop: k digits from at have been read, up to i, and make cur
pub record Reading (s : List ℕ) (at cur k i : ℕ) : Type 0 where
  pub within : i ≤ length s
  pub place : i ≡ at + k
  pub few : k ≤ 13
  pub low : k < 13 → cur < 2 ^ (5 * k)
  pub is : vlq_at s at ≡ vlq_from at (under cur k (digits_from (13 - k) (drop i s)))

pub past_end : (s : List ℕ) (at : ℕ) → length s ≤ at → vlq_at s at ≡ Ok None
unfolding vlq_of
past_end s at h = rw (drop_of_length-le s {i = at} h)

pub at_delim : (s : List ℕ) (at : ℕ) → at < length s → is_delim (get_or s at 0) ≡ true → vlq_at s at ≡ Ok None
unfolding vlq_of
at_delim s at h e = rw (drop-cons s at 0 h, e)

pub start : (s : List ℕ) (at : ℕ) → at < length s → is_delim (get_or s at 0) ≡ false → Reading s at 0 0 at
unfolding vlq_of
start s at h e =
    record {
      within = omega arith;
      place = omega arith;
      few = omega arith;
      low = λ _. omega arith;
      is = rw (drop-cons s at 0 h, e) (ap (vlq_from at) (sym (under_none (digits_from 13 (get_or s at 0 ∷ drop (suc at) s)))));
    }

module _ (s : List ℕ) (at cur k i : ℕ) (r : Reading s at cur k i) where
  here : at + (k + 0) ≡ i
  here = omega (arith, r.place)

  pub ends : length s ≤ i → vlq_at s at ≡ Err (Broken.Leftover i)
  ends h = r.is ∙ rw (drop_of_length-le s {i = i} h, tail_nil (13 - k)) (ap (λ (p : ℕ). Err (Broken.Leftover p)) here)

  module _ (h : i < length s) where
    pub cuts : is_delim (get_or s i 0) ≡ true → vlq_at s at ≡ Err (Broken.Leftover i)
    cuts e = r.is ∙ rw (drop-cons s i 0 h, tail_delim (13 - k) (get_or s i 0) (drop (suc i) s) e) (ap (λ (p : ℕ). Err (Broken.Leftover p)) here)

    pub overflows : is_delim (get_or s i 0) ≡ false → 13 ≤ k → vlq_at s at ≡ Err (Broken.Overflow i)
    overflows e l = r.is ∙ rw (drop-cons s i 0 h, tail_long (13 - k) (get_or s i 0) (drop (suc i) s) e (omega arith)) (ap (λ (p : ℕ). Err (Broken.Overflow p)) here)

    -- n and lost are what the code makes of the last digit
    pub gives : is_delim (get_or s i 0) ≡ false → k < 13 → digit_of (get_or s i 0) < 32
        → (n lost : ℕ) → n ≡ (cur + digit_of (get_or s i 0) % 32 * 2 ^ (5 * k)) % 2 ^ 64 → lost ≡ pick (eqb k 12) (digit_of (get_or s i 0) % 32 / 16) 0
        → vlq_at s at ≡ Ok (Some (n, lost, i + 1))
    gives e l d n lost en el =
        r.is
        ∙ rw (drop-cons s i 0 h, tail_last (13 - k) (get_or s i 0) (drop (suc i) s) e (omega arith) d, sum)
        (rw (← en, lost_is cur k (digit_of (get_or s i 0) % 32) l (r.low l) (omega arith), ← el)
        (ap (λ (m : ℕ). Ok (Some (n, lost, m))) (omega (arith, r.place))))
      where
        sum : 2 ^ (5 * k) * digit_of (get_or s i 0) ≡ digit_of (get_or s i 0) % 32 * 2 ^ (5 * k)
        sum = rw (mod-eq_of_lt d) (mul_comm (2 ^ (5 * k)) (digit_of (get_or s i 0)))

    next_is : is_delim (get_or s i 0) ≡ false → k < 13 → 32 ≤ digit_of (get_or s i 0)
        → vlq_at s at ≡ vlq_from at (under (cur + digit_of (get_or s i 0) % 32 * 2 ^ (5 * k)) (k + 1) (digits_from (13 - (k + 1)) (drop (i + 1) s)))
    next_is e l d =
        r.is
        ∙ rw (drop-cons s i 0 h, tail_more (13 - k) (get_or s i 0) (drop (suc i) s) e (omega arith) d, under_push, add-one i)
        (ap (λ (m : ℕ). vlq_from at (under (cur + digit_of (get_or s i 0) % 32 * 2 ^ (5 * k)) (k + 1) (digits_from m (drop (suc i) s)))) (omega arith))

    module _ (e : is_delim (get_or s i 0) ≡ false) (l : k < 13) (d : 32 ≤ digit_of (get_or s i 0)) where
      next : ℕ
      next = cur + digit_of (get_or s i 0) % 32 * 2 ^ (5 * k)

      exact : k < 12 → next % 2 ^ 64 ≡ next
      unfolding next
      exact q = put_exact cur k (digit_of (get_or s i 0) % 32) q (r.low l) (omega arith)

      turn_is : (t : Bool) → ltb k 12 ≡ t → vlq_at s at ≡ vlq_from at (under (next % 2 ^ 64) (k + 1) (digits_from (13 - (k + 1)) (drop (i + 1) s)))
      unfolding next
      turn_is true q = next_is e l d ∙ rw (exact (ltb-true k 12 q))
      turn_is false q =
          let z : 13 - (k + 1) ≡ 0 = omega (arith, ltb-false k 12 q) in
          next_is e l d ∙ rw z (ap (vlq_from at) (spent next (next % 2 ^ 64) (k + 1) (drop (i + 1) s)))

      pub turns : Reading s at ((cur + digit_of (get_or s i 0) % 32 * 2 ^ (5 * k)) % 2 ^ 64) (k + 1) (i + 1)
      unfolding next
      turns =
          record {
            within = omega arith;
            place = omega (arith, r.place);
            few = omega arith;
            low = λ q. let p : k < 12 = omega arith in rw (exact p) (put_lt cur k (digit_of (get_or s i 0) % 32) (r.low l) (omega arith));
            is = turn_is (ltb k 12) refl;
          }

-- a value of one digit
pub one_digit : (s : List ℕ) (at : ℕ) → at < length s → is_delim (get_or s at 0) ≡ false → digit_of (get_or s at 0) < 32
    → vlq_at s at ≡ Ok (Some (digit_of (get_or s at 0), 0, at + 1))
one_digit s at h e d =
    gives s at 0 0 at (start s at h e) h e (omega arith) d (digit_of (get_or s at 0)) 0 (omega arith) refl

-- ---- the same as the code has it: t tells whether the byte is a delimiter, d is what it reads as, w and v are d widened
module _ (s : List ℕ) (at : ℕ) (h : at < length s) (t : Bool) (e : t ≡ is_delim (get_or s at 0)) where
  pub begins_not : t ≡ true → Ok None ≡ vlq_at s at
  begins_not q = sym (at_delim s at h (sym e ∙ q))

  pub begins : t ≡ false → Reading s at 0 0 at
  begins q = start s at h (sym e ∙ q)

module _ (s : List ℕ) (at cur k i : ℕ) (r : Reading s at cur k i) (h : i < length s) (small : get_or s i 0 < 256) (d : ℕ) (ed : d ≡ class_of (get_or s i 0)) where
  pub cut_at : d ≡ 64 → Err (Broken.Leftover i) ≡ vlq_at s at
  cut_at q = sym (cuts s at cur k i r h (delim_is (get_or s i 0) d small ed q))

  module _ (n : d ≡ 64 → ⊥) where
    digit : Digit (get_or s i 0)
    digit = is_digit (get_or s i 0) d small ed n

    same : d ≡ digit_of (get_or s i 0)
    same = ed ∙ digit.is

    pub over_at : 13 ≤ k → Err (Broken.Overflow i) ≡ vlq_at s at
    over_at q = sym (overflows s at cur k i r h digit.delim q)

    module _ (l : k < 13) (w : ℕ) (ew : w ≡ d) (next : ℕ) (en : next ≡ (cur + w % 32 * 2 ^ (5 * k)) % 2 ^ 64) where
      next_is' : next ≡ (cur + digit_of (get_or s i 0) % 32 * 2 ^ (5 * k)) % 2 ^ 64
      next_is' = en ∙ ap (λ (x : ℕ). (cur + x % 32 * 2 ^ (5 * k)) % 2 ^ 64) (ew ∙ same)

      pub last_at : d < 32 → (v lost : ℕ) → v ≡ d → lost ≡ pick (eqb k 12) (v % 32 / 16) 0 → Ok (Some (next, lost, i + 1)) ≡ vlq_at s at
      last_at q v lost ev el =
          sym (gives s at cur k i r h digit.delim l (omega (arith, same)) next lost next_is'
          (el ∙ ap (λ (x : ℕ). pick (eqb k 12) (x % 32 / 16) 0) (ev ∙ same)))

      pub turn_at : 32 ≤ d → Reading s at next (k + 1) (i + 1)
      turn_at q = rw next_is' (turns s at cur k i r h digit.delim l (omega (arith, same)))
