-- A value that is read stands in the text as a run of the standard's digits, and checked mode takes it for what the run says. Assumes
-- nothing.
use Rattle.std.specs.Prelude.{Some, None, Ok, Err}
use mathlib.Core.Path.{◌≡◌, refl, ◌∙◌, ap}
use mathlib.Core.Bool.{Bool, true, false}
use mathlib.Core.List.{List, [], ◌∷◌, ◌++◌}
use Prim.Native.Nat.{ℕ, suc, ◌+◌, ◌-◌, ◌<◌, ◌≤◌}
use native.Mathlib.Omega.{arith}
use lib.Dec.{eqb, leb, ltb}
use lib.ListN.{drop}
use borrow.Author.Tests.{ltb-false, leb-true, le-leb, lt-ltb}
use Rattle.list.specs.Pick.{pick}
use Rattle.list.proofs.Pick.{pick_ind}
use Rattle.digits.specs.Digits.{within, digit_of, is_delim, char_of}
use Rattle.value.specs.Standard.{Run, terminal, goes_on, is_run, unsigned, signed}
use Rattle.value.specs.Value.{value_of}
use Rattle.value.proofs.Standard.{value_standard}
use Rattle.vlq.specs.Runs.{spell}
use Rattle.vlq.specs.Vlq.{Digits, cut, long, num, push, digits_from, vlq_from, vlq_of, Vlq}
use Rattle.exact.specs.Exact.{mode, as_read}
use Rattle.vlq.specs.declared.Broken.{Broken}

-- ---- a digit
up_to : (lo hi b : ℕ) → within lo hi b ≡ true → b ≤ hi
up_to lo hi b e = by (leb lo b) e
  where
    by : (t : Bool) → pick t (leb b hi) false ≡ true → b ≤ hi
    by true q = leb-true b hi q
    by false q = absurd (omega (arith, no q))
      where
        no : false ≡ true → ◌≡◌ {A = ℕ} 0 1
        no z = cc

pub digit_small : (b : ℕ) → digit_of b < 64
unfolding digit_of
digit_small b =
    pick_ind (λ (n : ℕ). n < 64) (within 65 90 b) (λ e. omega (arith, up_to 65 90 b e)) (λ _.
    pick_ind (λ (n : ℕ). n < 64) (within 97 122 b) (λ e. omega (arith, up_to 97 122 b e)) (λ _.
    pick_ind (λ (n : ℕ). n < 64) (within 48 57 b) (λ e. omega (arith, up_to 48 57 b e)) (λ _.
    pick_ind (λ (n : ℕ). n < 64) (eqb b 43) (λ _. omega arith) (λ _. omega arith))))

as_digit : (b : ℕ) (bs : List ℕ) → is_delim b ≡ false → as_read (b ∷ bs) ≡ char_of (digit_of b) ∷ as_read bs
unfolding as_read
as_digit b bs e = rw e

-- ---- digits that make a number
pub record Spelled (n len : ℕ) (bs : List ℕ) : Type 0 where
  pub run : Run
  pub digits : is_run run ≡ true
  pub number : unsigned run ≡ n
  pub some : 0 < len
  pub spelled : as_read bs ≡ spell run ++ as_read (drop len bs)

abbrev Reads : List ℕ → Digits → Type 0
Reads bs (cut k) = Unit {0}
Reads bs (long k) = Unit {0}
Reads bs (num n len) = Spelled n len bs

-- the last digit
ends_it : (b : ℕ) (bs : List ℕ) → is_delim b ≡ false → ltb (digit_of b) 32 ≡ true → Spelled (digit_of b) 1 (b ∷ bs)
unfolding is_run unsigned spell
ends_it b bs d e = record { run = terminal (digit_of b); digits = e; number = refl; some = omega arith; spelled = as_digit b bs d }

-- a digit that another follows
goes_it : (b : ℕ) (bs : List ℕ) (r : Digits) → is_delim b ≡ false → ltb (digit_of b) 32 ≡ false → Reads bs r → Reads (b ∷ bs) (push (digit_of b) r)
unfolding is_run unsigned spell
goes_it b bs (cut k) d e h = tt
goes_it b bs (long k) d e h = tt
goes_it b bs (num n len) d e h =
    let l : 32 ≤ digit_of b = omega (arith, ltb-false (digit_of b) 32 e) in
    let u : digit_of b < 64 = digit_small b in
    let v : unsigned h.run ≡ n = h.number in
    let m : len + 1 ≡ suc len = omega arith in
    record {
      run = goes_on (digit_of b) h.run;
      digits = rw (le-leb 32 (digit_of b) l, lt-ltb (digit_of b) 64 u) h.digits;
      number = omega (arith, l, u, v);
      some = omega arith;
      spelled = rw m (as_digit b bs d ∙ ap (λ (x : List ℕ). char_of (digit_of b) ∷ x) h.spelled);
    }

reads : (left : ℕ) (bs : List ℕ) → Reads bs (digits_from left bs)
unfolding digits_from
reads left [] = tt
reads left (b ∷ bs) = by (is_delim b) (eqb left 0) (ltb (digit_of b) 32) refl refl (reads (left - 1) bs)
  where
    by : (t u v : Bool) → is_delim b ≡ t → ltb (digit_of b) 32 ≡ v → Reads bs (digits_from (left - 1) bs)
        → Reads (b ∷ bs) (pick t (cut 0) (pick u (long 0) (pick v (num (digit_of b) 1) (push (digit_of b) (digits_from (left - 1) bs)))))
    by true u v d e h = tt
    by false true v d e h = tt
    by false false true d e h = ends_it b bs d e
    by false false false d e h = goes_it b bs (digits_from (left - 1) bs) d e h

-- ---- a value, with the place behind it
pub record Stands (at : ℕ) (bs : List ℕ) (bits lost next : ℕ) : Type 0 where
  pub run : Run
  pub digits : is_run run ≡ true
  pub value : value_of mode bits lost ≡ signed (unsigned run)
  pub past : at < next
  pub spelled : as_read bs ≡ spell run ++ as_read (drop (next - at) bs)

abbrev pub Standing : ℕ → List ℕ → Vlq → Type 0
Standing at bs (Ok None) = Unit {0}
Standing at bs (Ok (Some (bits, lost, next))) = Stands at bs bits lost next
Standing at bs (Err (Broken.Leftover place)) = Unit {0}
Standing at bs (Err (Broken.Overflow place)) = Unit {0}

from_digits : (at : ℕ) (bs : List ℕ) (r : Digits) → Reads bs r → Standing at bs (vlq_from at r)
from_digits at bs (cut k) h = tt
from_digits at bs (long k) h = tt
from_digits at bs (num n len) h =
    let m : at + len - at ≡ len = omega arith in
    record {
      run = h.run;
      digits = h.digits;
      value = rw (← h.number) (value_standard h.run);
      past = omega (arith, h.some);
      spelled = rw m h.spelled;
    }

pub standing : (at : ℕ) (bs : List ℕ) → Standing at bs (vlq_of at bs)
unfolding vlq_of
standing at [] = tt
standing at (b ∷ bs) = by (is_delim b)
  where
    by : (t : Bool) → Standing at (b ∷ bs) (pick t (Ok None) (vlq_from at (digits_from 13 (b ∷ bs))))
    by true = tt
    by false = from_digits at (b ∷ bs) (digits_from 13 (b ∷ bs)) (reads 13 (b ∷ bs))
