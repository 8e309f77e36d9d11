-- Two, three or four digits put by four stores, as laws of the definitions. Assumes nothing.
use Rattle.std.proofs.Common.{◌≡◌, ℕ, ◌+◌, ◌/◌, ◌%◌, ◌<◌, ◌≤◌, eqb, List, length, get_or, set, ap, ◌∙◌, arith, le-ltb, lt-ltb, eq-eqb, ne_eqb}
use lib.Seq.{set-get_or}
use Rattle.list.specs.Pick.{pick}
use Rattle.digits.specs.Digits.{char_of}
use Rattle.vlq_write.specs.Few.{Few, GoesOn, low_char}
use Rattle.list.specs.Put.{Put}
use Rattle.vlq_write.specs.Size.{Reaches}
use Rattle.vlq_write.specs.Write.{write_of}
use Rattle.vlq_write.proofs.Digits.{few}
use Rattle.vlq_write.proofs.Loop.{Writing, start, turn, last}
use Rattle.vlq_write.proofs.Sizes.{either, is_under, is_over}

-- k is what is added and x the character, as the code has them
pub low_char_is : (n k x : ℕ) → GoesOn n k → x ≡ char_of (n % 32 + k) → x ≡ low_char n
unfolding low_char
low_char_is n k x g e = e ∙ ap (λ (j : ℕ). char_of (n % 32 + j)) g.is

low_last : (n : ℕ) → n < 32 → low_char n ≡ char_of n
unfolding low_char
low_last n h = rw (lt-ltb n 32 h) (ap char_of (omega arith))

low_more : (n : ℕ) → 32 ≤ n → low_char n ≡ char_of (n % 32 + 32)
unfolding low_char
low_more n h = rw (le-ltb n 32 h)

-- a store of what stands there
same_byte : (l : List ℕ) (i n c x : ℕ) → n ≡ 0 → x ≡ pick (eqb n 0) (get_or l i 0) c → set l i x ≡ l
same_byte l i n c x z e = rw (e, eq-eqb n 0 z) (set-get_or l i 0)

new_byte : (l : List ℕ) (i n c x : ℕ) → (n ≡ 0 → ⊥) → x ≡ pick (eqb n 0) (get_or l i 0) c → x ≡ c
new_byte l i n c x z e = e ∙ rw (ne_eqb n 0 z)

module _ (out : List ℕ) (at n : ℕ) (h : Few n) (room : at + 4 ≤ length out) where
  pub few_fits : at + length (write_of n) ≤ length out
  few_fits = omega (arith, few n 4 n (omega arith) h.most)

  -- n₁ to n₃ are what is left of the number, x₀ to x₃ the bytes stored, c₂ and c₃ the characters, m₁ and m₂ 1 where digits follow
  module _ (n₁ n₂ n₃ : ℕ) (e₁ : n₁ ≡ n / 32) (e₂ : n₂ ≡ n₁ / 32) (e₃ : n₃ ≡ n₂ / 32)
      (x₀ x₁ c₂ x₂ c₃ x₃ m₁ m₂ : ℕ) (ex₀ : x₀ ≡ char_of (n % 32 + 32)) (ex₁ : x₁ ≡ low_char n₁)
      (ec₂ : c₂ ≡ low_char n₂) (ex₂ : x₂ ≡ pick (eqb n₂ 0) (get_or (set (set out at x₀) (at + 1) x₁) (at + 2) 0) c₂)
      (ec₃ : c₃ ≡ char_of (n₃ % 32)) (ex₃ : x₃ ≡ pick (eqb n₃ 0) (get_or (set (set (set out at x₀) (at + 1) x₁) (at + 2) x₂) (at + 3) 0) c₃)
      (r₁ : Reaches n₁ 32 m₁) (r₂ : Reaches n₂ 32 m₂) where
    abbrev l₁ : List ℕ
    l₁ = set out at x₀

    abbrev l₂ : List ℕ
    l₂ = set l₁ (at + 1) x₁

    abbrev l₃ : List ℕ
    l₃ = set l₂ (at + 2) x₂

    abbrev l₄ : List ℕ
    l₄ = set l₃ (at + 3) x₃

    w₁ : Writing out at n l₁ n₁ (at + 1)
    w₁ = rw e₁ (turn out at n out n at (start out at n few_fits) x₀ ex₀ h.least)

    two : n₁ < 32 → Put out at (write_of n) (at + 2 + m₁ + m₂) l₄
    two k =
        let z₂ : n₂ ≡ 0 = omega arith in
        let z₃ : n₃ ≡ 0 = omega arith in
        let p : Put out at (write_of n) (at + 1 + 1) l₂ = last out at n l₁ n₁ (at + 1) w₁ x₁ (ex₁ ∙ low_last n₁ k) k in
        let q : l₄ ≡ l₂ = same_byte l₃ (at + 3) n₃ c₃ x₃ z₃ ex₃ ∙ same_byte l₂ (at + 2) n₂ c₂ x₂ z₂ ex₂ in
        record { past = omega (arith, p.past, is_under n₁ 32 m₁ r₁ k, is_under n₂ 32 m₂ r₂ (omega arith)); wrote = q ∙ p.wrote }

    module _ (k : 32 ≤ n₁) where
      b₂ : x₂ ≡ low_char n₂
      b₂ = new_byte l₂ (at + 2) n₂ c₂ x₂ (λ z. omega arith) ex₂ ∙ ec₂

      place : at + 1 + 1 ≡ at + 2
      place = omega arith

      w₂ : Writing out at n l₂ n₂ (at + 2)
      w₂ = rw (e₂, ← place) (turn out at n l₁ n₁ (at + 1) w₁ x₁ (ex₁ ∙ low_more n₁ k) k)

      three : n₂ < 32 → Put out at (write_of n) (at + 2 + m₁ + m₂) l₄
      three j =
          let z₃ : n₃ ≡ 0 = omega arith in
          let p : Put out at (write_of n) (at + 2 + 1) l₃ = last out at n l₂ n₂ (at + 2) w₂ x₂ (b₂ ∙ low_last n₂ j) j in
          let q : l₄ ≡ l₃ = same_byte l₃ (at + 3) n₃ c₃ x₃ z₃ ex₃ in
          record { past = omega (arith, p.past, is_over n₁ 32 m₁ r₁ k, is_under n₂ 32 m₂ r₂ j); wrote = q ∙ p.wrote }

      four : 32 ≤ n₂ → Put out at (write_of n) (at + 2 + m₁ + m₂) l₄
      four j =
          let s : n₃ < 32 = omega (arith, h.most) in
          let d : n₃ % 32 ≡ n₃ = omega arith in
          let b₃ : x₃ ≡ char_of n₃ = new_byte l₃ (at + 3) n₃ c₃ x₃ (λ z. omega arith) ex₃ ∙ ec₃ ∙ ap char_of d in
          let e : at + 2 + 1 ≡ at + 3 = omega arith in
          let w₃ : Writing out at n l₃ n₃ (at + 3) = rw (e₃, ← e) (turn out at n l₂ n₂ (at + 2) w₂ x₂ (b₂ ∙ low_more n₂ j) j) in
          let p : Put out at (write_of n) (at + 3 + 1) l₄ = last out at n l₃ n₃ (at + 3) w₃ x₃ b₃ s in
          record { past = omega (arith, p.past, is_over n₁ 32 m₁ r₁ k, is_over n₂ 32 m₂ r₂ j); wrote = p.wrote }

    pub few_put : Put out at (write_of n) (at + 2 + m₁ + m₂) l₄
    few_put = either n₁ 32 two (λ k. either n₂ 32 (three k) (four k))
