-- What stands before a token's fields: its size, and how it is put. Assumes nothing.
use mathlib.Core.Path.{◌≡◌, refl, sym, ◌∙◌, ap}
use mathlib.Core.Bool.{Bool, true, false, not}
use mathlib.Core.List.{List, [], ◌∷◌}
use Prim.Native.Nat.{ℕ, suc, ◌+◌, ◌-◌, ◌^◌, ◌≤◌, ◌<◌}
use native.Mathlib.Omega.{arith}
use lib.Dec.{eqb}
use lib.ListN.{length, set, replicate, length-replicate}
use mir.Val.{bool_byte as from_bool}
use borrow.Author.Tests.{eq-eqb, ne_eqb}
use Rattle.list.specs.Pick.{pick}
use Rattle.list.specs.Put.{Put}
use Rattle.list.proofs.Put.{put_nothing, put_byte, put_then, put_is, Due, due_all, due_is, due_same, due_none, due_byte_fits, due_byte}
use Rattle.chunk.specs.Chunk.{lead}
use Rattle.chunk.specs.Parts.{LeadSize}

-- by cases
module _ (f : Bool) (a b : ℕ) where
  pub lead_nothing : a ≡ b → f ≡ true → lead f a b ≡ []
  unfolding lead
  lead_nothing e g = rw (eq-eqb a b e, g)

  pub lead_comma : a ≡ b → f ≡ false → lead f a b ≡ 44 ∷ []
  unfolding lead
  lead_comma e g = rw (eq-eqb a b e, g)

  module _ (n : a ≡ b → ⊥) where
    pub lead_semis : lead f a b ≡ replicate (b - a) 59
    unfolding lead
    lead_semis = rw (ne_eqb a b n)

    pub lead_one : b - a ≡ 1 → lead f a b ≡ 59 ∷ []
    lead_one e = lead_semis ∙ rw e

    pub lead_more : a ≤ b → lead f a b ≡ 59 ∷ replicate (b - a - 1) 59
    lead_more h =
        let e : b - a ≡ suc (b - a - 1) = omega arith in
        lead_semis ∙ ap (λ (k : ℕ). replicate k 59) e

  -- a lead is at most a byte longer than the lines that it passes
  most_by : (e g : Bool) → length {A = ℕ} (pick e (pick g [] (44 ∷ [])) (replicate (b - a) 59)) ≤ 1 + (b - a)
  most_by true true = omega arith
  most_by true false = omega arith
  most_by false g = simp length-replicate (omega arith)

  pub lead_most : length (lead f a b) ≤ 1 + (b - a)
  unfolding lead
  lead_most = most_by (eqb a b) f

  same_by : (g : Bool) → from_bool (not g) ≡ length {A = ℕ} (pick g [] (44 ∷ []))
  same_by true = refl
  same_by false = refl

  -- its size
  pub size_same : a ≡ b → (r : ℕ) → r ≡ from_bool (not f) → LeadSize f a b r
  unfolding lead
  size_same e r er =
      let q : r ≡ length (lead f a b) = er ∙ rw (eq-eqb a b e) (same_by f) in
      record { is = q; few = omega (arith, lead_most) }

  pub size_semis : (a ≡ b → ⊥) → b < 2 ^ 32 → LeadSize f a b (b - a)
  size_semis n h = record { is = rw (lead_semis n) (sym (length-replicate (b - a) 59)); few = omega arith }

-- ---- the loop of `;`: k are put
pub record Semis (out₀ : List ℕ) (at count : ℕ) (out : List ℕ) (i k : ℕ) : Type 0 where
  pub few : k ≤ count
  pub due : Due out₀ at (replicate count 59) (replicate (count - k) 59) i out

pub semis_start : (out₀ : List ℕ) (at count : ℕ) → at + count ≤ length out₀ → Semis out₀ at count out₀ at 0
semis_start out₀ at count h =
    let e : count ≡ count - 0 = omega arith in
    record {
      few = omega arith;
      due =
          due_is out₀ at (replicate count 59) (replicate count 59) (replicate (count - 0) 59) at out₀ (ap (λ (n : ℕ). replicate n 59) e)
          (due_all out₀ at (replicate count 59) (simp length-replicate h));
    }

module _ (out₀ : List ℕ) (at count : ℕ) (out : List ℕ) (i k : ℕ) (s : Semis out₀ at count out i k) where
  pub semis_same : length out ≡ length out₀
  semis_same = due_same out₀ at (replicate count 59) (replicate (count - k) 59) i out s.due

  module _ (h : k < count) where
    next : Due out₀ at (replicate count 59) (59 ∷ replicate (count - (k + 1)) 59) i out
    next =
        let e : count - k ≡ suc (count - (k + 1)) = omega arith in
        due_is out₀ at (replicate count 59) (replicate (count - k) 59) (59 ∷ replicate (count - (k + 1)) 59) i out (ap (λ (n : ℕ). replicate n 59) e) s.due

    pub semis_inside : i < length out
    semis_inside = due_byte_fits out₀ at (replicate count 59) 59 (replicate (count - (k + 1)) 59) i out next

    pub semis_turn : Semis out₀ at count (set out i 59) (i + 1) (k + 1)
    semis_turn =
        record {
          few = omega arith;
          due = due_byte out₀ at (replicate count 59) 59 (replicate (count - (k + 1)) 59) i out next;
        }

  pub semis_end : count ≤ k → Put out₀ at (replicate count 59) i out
  semis_end h =
      let e : count - k ≡ 0 = omega arith in
      due_none out₀ at (replicate count 59) (replicate (count - k) 59) i out s.due (ap (λ (n : ℕ). replicate n 59) e)

-- ---- the lead put
module _ (out : List ℕ) (at : ℕ) (f : Bool) (a b : ℕ) where
  pub put_none : a ≡ b → f ≡ true → Put out at (lead f a b) at out
  put_none e g = rw (lead_nothing f a b e g) (put_nothing out at)

  module _ (room : at + length (lead f a b) ≤ length out) where
    pub comma_fits : a ≡ b → f ≡ false → at < length out
    comma_fits e g = omega (arith, ap length (lead_comma f a b e g))

    pub put_comma : a ≡ b → f ≡ false → Put out at (lead f a b) (at + 1) (set out at 44)
    put_comma e g = rw (lead_comma f a b e g) (put_byte out at 44 (comma_fits e g))

    module _ (n : a ≡ b → ⊥) (h : a ≤ b) where
      more : length (lead f a b) ≡ suc (b - a - 1)
      more = ap length (lead_more f a b n h) ∙ ap suc (length-replicate (b - a - 1) 59)

      pub semi_fits : at < length out
      semi_fits = omega (arith, more)

      pub semis_fit : at + 1 + (b - a - 1) ≤ length out
      semis_fit = omega (arith, more)

      pub put_one : b - a ≡ 1 → Put out at (lead f a b) (at + 1) (set out at 59)
      put_one e = rw (lead_one f a b n e) (put_byte out at 59 semi_fits)

      -- the rest put by the loop
      pub put_more : (r : ℕ) (out' : List ℕ) → Put (set out at 59) (at + 1) (replicate (b - a - 1) 59) r out' → Put out at (lead f a b) r out'
      put_more r out' q =
          put_is out at (59 ∷ replicate (b - a - 1) 59) (lead f a b) r out' (sym (lead_more f a b n h))
          (put_then out at (59 ∷ []) (replicate (b - a - 1) 59) (at + 1) (set out at 59) r out' (put_byte out at 59 semi_fits) q
          (omega (arith, more, length-replicate {A = ℕ} (b - a - 1) 59)))
