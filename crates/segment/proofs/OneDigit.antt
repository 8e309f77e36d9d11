-- A field as the code reads it: at once where it is a capital, else by its bits. Assumes nothing.
use Rattle.std.specs.Prelude.{Option, Some, None, Ok, Err, ℤ}
use Rattle.std.proofs.Common.{◌≡◌, ℕ, ◌+◌, ◌%◌, ◌^◌, ◌<◌, List, length, get_or, sym, refl, ap, ◌∙◌, arith}
use Rattle.digits.specs.Digits.{class_of, digit_of}
use Rattle.digits.proofs.Ranges.{capital}
use Rattle.digits.proofs.Tables.{Digit, is_digit}
use Rattle.value.specs.Value.{value_of}
use Rattle.value.specs.declared.Mode.{Mode}
use Rattle.vlq.specs.Vlq.{vlq_at, Vlq}
use Rattle.vlq.proofs.Steps.{one_digit}
use Rattle.segment.specs.Fields.{parsed, parsed_at}
use Rattle.vlq.specs.declared.Broken.{Broken}

module _ (mode : Mode) (s : List ℕ) (at : ℕ) where
  -- d is what the byte has above `A`
  module _ (d : ℕ) (h : at < length s) (is : (d + 65) % 2 ^ 8 ≡ get_or s at 0) (l : d < 26) where
    byte : get_or s at 0 ≡ d + 65
    byte = omega arith

    class : class_of (get_or s at 0) ≡ d
    class = capital (get_or s at 0) (λ p. omega (arith, byte)) (λ p. omega (arith, byte)) (omega (arith, byte)) (omega (arith, byte)) ∙ omega (arith, byte)

    o : Digit (get_or s at 0)
    o = is_digit (get_or s at 0) d (omega (arith, byte)) (sym class) (λ q. omega arith)

    digit : digit_of (get_or s at 0) ≡ d
    digit = sym o.is ∙ class

    pub capital_field : Ok (Some (value_of mode d 0, at + 1)) ≡ parsed_at mode s at
    unfolding parsed_at
    capital_field = ap (parsed mode) (ap (λ (n : ℕ). Ok (Some (n, 0, at + 1))) (sym digit) ∙ sym (one_digit s at h o.delim (omega (arith, digit))))

  -- v is what the reader gives
  module _ (v : Vlq) (is : v ≡ vlq_at s at) where
    pub field : parsed mode v ≡ parsed_at mode s at
    unfolding parsed_at
    field = ap (parsed mode) is

-- ---- back from a field to what the reader gave
zero_one : ◌≡◌ {A = ℕ} 0 1 → ⊥
zero_one z = omega arith

pub record Found (mode : Mode) (v : Vlq) (x : Option ℤ) (next : ℕ) : Type 0 where
  pub bits : ℕ
  pub lost : ℕ
  pub is : Ok (Some (bits, lost, next)) ≡ v
  pub value : x ≡ value_of mode bits lost

found_in : (mode : Mode) (v : Vlq) (x : Option ℤ) (next : ℕ) → Ok (Some (x, next)) ≡ parsed mode v → Found mode v x next
found_in mode (Ok None) x next e = absurd (zero_one cc)
found_in mode (Ok (Some (bits, lost, n))) x next e =
    let t : ◌≡◌ {A = Option ℤ × ℕ} (x, next) (value_of mode bits lost, n) = cc in
    let q : next ≡ n = ap (λ (p : Option ℤ × ℕ). p.1) t in
    record { bits = bits; lost = lost; is = rw q; value = ap (λ (p : Option ℤ × ℕ). p.0) t }
found_in mode (Err b) x next e = absurd (zero_one cc)

pub found : (mode : Mode) (s : List ℕ) (at : ℕ) (x : Option ℤ) (next : ℕ) → Ok (Some (x, next)) ≡ parsed_at mode s at → Found mode (vlq_at s at) x next
unfolding parsed_at
found mode s at x next e = found_in mode (vlq_at s at) x next e

ended_in : (mode : Mode) (v : Vlq) → Ok None ≡ parsed mode v → Ok None ≡ v
ended_in mode (Ok None) e = refl
ended_in mode (Ok (Some (bits, lost, n))) e = absurd (zero_one cc)
ended_in mode (Err b) e = absurd (zero_one cc)

pub ended : (mode : Mode) (s : List ℕ) (at : ℕ) → Ok None ≡ parsed_at mode s at → Ok None ≡ vlq_at s at
unfolding parsed_at
ended mode s at e = ended_in mode (vlq_at s at) e

broke_in : (mode : Mode) (v : Vlq) (b : Broken) → Err b ≡ parsed mode v → Err b ≡ v
broke_in mode (Ok None) b e = absurd (zero_one cc)
broke_in mode (Ok (Some (bits, lost, n))) b e = absurd (zero_one cc)
broke_in mode (Err a) b e = let q : b ≡ a = cc in rw q

pub broke : (mode : Mode) (s : List ℕ) (at : ℕ) (b : Broken) → Err b ≡ parsed_at mode s at → Err b ≡ vlq_at s at
unfolding parsed_at
broke mode s at b e = broke_in mode (vlq_at s at) b e
