-- The loop that writes a number's digits, as laws of the definitions. Assumes nothing.
use Rattle.std.proofs.Common.{◌≡◌, ℕ, suc, ◌+◌, ◌-◌, ◌/◌, ◌%◌, ◌<◌, ◌≤◌, List, [], ◌∷◌, length, set, sym, refl, ap, ◌∙◌, arith}
use Rattle.digits.specs.Digits.{char_of}
use Rattle.list.specs.Put.{Put}
use Rattle.vlq_write.specs.Write.{digits_of, write_of}
use Rattle.list.proofs.Put.{Due, due_all, due_is, due_same, due_room, due_byte, due_none}
use Rattle.vlq_write.proofs.Digits.{digits_last, digits_more, digits_some}

-- the digits of n are due, of which `steps` others may come before the last
pub record Writing (out₀ : List ℕ) (at num : ℕ) (out : List ℕ) (n i : ℕ) : Type 0 where
  pub steps : ℕ
  pub enough : n ≤ steps
  pub due : Due out₀ at (write_of num) (digits_of steps n) i out

pub start : (out₀ : List ℕ) (at num : ℕ) → at + length (write_of num) ≤ length out₀ → Writing out₀ at num out₀ num at
start out₀ at num h = record { steps = num; enough = omega arith; due = due_all out₀ at (write_of num) h }

module _ (out₀ : List ℕ) (at num : ℕ) (out : List ℕ) (n i : ℕ) (w : Writing out₀ at num out n i) where
  pub same : length out ≡ length out₀
  same = due_same out₀ at (write_of num) (digits_of w.steps n) i out w.due

  pub inside : i < length out
  inside = omega (arith, due_room out₀ at (write_of num) (digits_of w.steps n) i out w.due, digits_some w.steps n)

  -- x is the digit that is due
  put : (x : ℕ) (xs : List ℕ) → digits_of w.steps n ≡ x ∷ xs → Due out₀ at (write_of num) xs (i + 1) (set out i x)
  put x xs e = due_byte out₀ at (write_of num) x xs i out (due_is out₀ at (write_of num) (digits_of w.steps n) (x ∷ xs) i out e w.due)

  -- d is the digit as the code has it
  pub turn : (d : ℕ) → d ≡ char_of (n % 32 + 32) → 32 ≤ n → Writing out₀ at num (set out i d) (n / 32) (i + 1)
  turn d ed h =
      let s : w.steps ≡ suc (w.steps - 1) = omega (arith, w.enough) in
      let e : digits_of w.steps n ≡ d ∷ digits_of (w.steps - 1) (n / 32) =
      ap (λ (f : ℕ). digits_of f n) s ∙ digits_more (w.steps - 1) n h ∙ ap (λ (x : ℕ). x ∷ digits_of (w.steps - 1) (n / 32)) (sym ed) in
      record { steps = w.steps - 1; enough = omega (arith, w.enough); due = put d (digits_of (w.steps - 1) (n / 32)) e }

  pub last : (d : ℕ) → d ≡ char_of n → n < 32 → Put out₀ at (write_of num) (i + 1) (set out i d)
  last d ed h =
      let e : digits_of w.steps n ≡ d ∷ [] = digits_last w.steps n h ∙ ap (λ (x : ℕ). x ∷ []) (sym ed) in
      due_none out₀ at (write_of num) [] (i + 1) (set out i d) (put d [] e) refl

-- one digit and no loop; d is the digit as the code has it
module _ (out : List ℕ) (at num : ℕ) (h : at + length (write_of num) ≤ length out) where
  pub one_fits : at < length out
  one_fits = inside out at num out num at (start out at num h)

  pub one : num < 32 → (d : ℕ) → d ≡ char_of num → Put out at (write_of num) (at + 1) (set out at d)
  one l d ed = last out at num out num at (start out at num h) d ed l
