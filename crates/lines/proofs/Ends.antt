-- The first line and the last. Assumes nothing.
use mathlib.Core.Path.{◌≡◌, ap}
use mathlib.Core.List.{List, [], ◌∷◌, ◌++◌}
use Prim.Native.Nat.{ℕ, ◌+◌, ◌^◌, ◌≤◌, ◌<◌}
use native.Mathlib.Omega.{arith}
use lib.ListN.{length, length-append}
use Rattle.std.proofs.Common.{Result, Ok, Err}
use Rattle.std.specs.Prelude.{⊤}
use Rattle.list.specs.Put.{Put}
use Rattle.list.proofs.Put.{Due, due_all, due_is}
use Rattle.code.specs.Code.{code_of, number_of}
use Rattle.code.specs.declared.Code.{Code}
use Rattle.decimal.specs.Decimal.{figures_of}
use Rattle.decimal.proofs.Figures.{twenty}
use Rattle.lines.specs.Lines.{line, count_line, end_line}
use Rattle.lines.specs.Parts.{PutMost}
use Rattle.lines.proofs.Words.{word_fits, word_put, last_fits, last_put}

two : (w a : List ℕ) → length w ≤ 6 → length a ≤ 20 → length (line (w ∷ a ∷ [])) ≤ 28
unfolding line
two w a hw ha = simp length-append (omega arith)

five : (v w a b c : List ℕ) → length v ≤ 3 → length w ≤ 2 → length a ≤ 20 → length b ≤ 20 → length c ≤ 20
    → length (line (v ∷ a ∷ b ∷ w ∷ c ∷ [])) ≤ 70
unfolding line
five v w a b c hv hw ha hb hc = simp length-append (omega arith)

-- ---- `tokens` and a number

abbrev tokens : List ℕ
tokens = 116 ∷ 111 ∷ 107 ∷ 101 ∷ 110 ∷ 115 ∷ []

module _ (out : List ℕ) (at n : ℕ) (h : n < 2 ^ 64) (room : at + 28 ≤ length out) where
  count_most : length (count_line n) ≤ 28
  unfolding count_line
  count_most = two tokens (figures_of n) (omega arith) (twenty n h)

  count : Due out at (count_line n) (line (tokens ∷ figures_of n ∷ [])) at out
  unfolding count_line
  count = due_all out at (count_line n) (omega (arith, count_most))

  module _ (i : ℕ) (mid : List ℕ) (p : Put out at (tokens ++ (32 ∷ [])) i mid) where
    counted : Due out at (count_line n) (line (figures_of n ∷ [])) i mid
    counted = word_put out at (count_line n) tokens (figures_of n) [] at out count i mid p

    pub count_fits : i + length (figures_of n ++ (10 ∷ [])) ≤ length mid
    count_fits = last_fits out at (count_line n) (figures_of n) i mid counted

    pub count_put : (r : ℕ) (out' : List ℕ) → Put mid i (figures_of n ++ (10 ∷ [])) r out' → PutMost 28 out at (count_line n) r out'
    count_put r out' q = record { put = last_put out at (count_line n) (figures_of n) i mid counted r out' q; few = count_most }

-- ---- `end`, the code, its number, `at` and the offset

abbrev end : List ℕ
end = 101 ∷ 110 ∷ 100 ∷ []

abbrev word : List ℕ
word = 97 ∷ 116 ∷ []

module _ (out : List ℕ) (at : ℕ) (answer : Result ⊤ Code) (offset : ℕ) (room : at + 70 ≤ length out) where
  module _ (t : ⊤) (z : answer ≡ Ok t) where
    done_is : end_line answer offset ≡ line (end ∷ figures_of 0 ∷ [])
    unfolding end_line
    done_is = rw z

    done_most : length (end_line answer offset) ≤ 70
    done_most = omega (arith, ap length done_is, two end (figures_of 0) (omega arith) (twenty 0 (omega arith)))

    done : Due out at (end_line answer offset) (line (end ∷ figures_of 0 ∷ [])) at out
    done = due_is out at (end_line answer offset) (end_line answer offset) (line (end ∷ figures_of 0 ∷ [])) at out done_is (due_all out at (end_line answer offset) (omega (arith, done_most)))

    module _ (i : ℕ) (mid : List ℕ) (p : Put out at (end ++ (32 ∷ [])) i mid) where
      done_due : Due out at (end_line answer offset) (line (figures_of 0 ∷ [])) i mid
      done_due = word_put out at (end_line answer offset) end (figures_of 0) [] at out done i mid p

      pub done_fits : i + length (figures_of 0 ++ (10 ∷ [])) ≤ length mid
      done_fits = last_fits out at (end_line answer offset) (figures_of 0) i mid done_due

      pub done_put : (r : ℕ) (out' : List ℕ) → Put mid i (figures_of 0 ++ (10 ∷ [])) r out' → PutMost 70 out at (end_line answer offset) r out'
      done_put r out' q = record { put = last_put out at (end_line answer offset) (figures_of 0) i mid done_due r out' q; few = done_most }

  -- no and number are the code's, as the code has them
  module _ (code : Code) (z : answer ≡ Err code) (no : ℕ) (en : no ≡ code_of code) (hn : no < 2 ^ 64)
      (number : ℕ) (em : number ≡ number_of code) (hm : number < 2 ^ 64) (ho : offset < 2 ^ 64) where
    refused_is : end_line answer offset ≡ line (end ∷ figures_of no ∷ figures_of number ∷ word ∷ figures_of offset ∷ [])
    unfolding end_line
    refused_is = rw (z, em, en)

    refused_most : length (end_line answer offset) ≤ 70
    refused_most =
        omega (arith, ap length refused_is, five end word (figures_of no) (figures_of number) (figures_of offset) (omega arith) (omega arith) (twenty no hn) (twenty number hm) (twenty offset ho))

    refused : Due out at (end_line answer offset) (line (end ∷ figures_of no ∷ figures_of number ∷ word ∷ figures_of offset ∷ [])) at out
    refused =
        due_is out at (end_line answer offset) (end_line answer offset) (line (end ∷ figures_of no ∷ figures_of number ∷ word ∷ figures_of offset ∷ [])) at out refused_is
        (due_all out at (end_line answer offset) (omega (arith, refused_most)))

    module _ (i₁ : ℕ) (out₁ : List ℕ) (p₁ : Put out at (end ++ (32 ∷ [])) i₁ out₁) where
      due₁ : Due out at (end_line answer offset) (line (figures_of no ∷ figures_of number ∷ word ∷ figures_of offset ∷ [])) i₁ out₁
      due₁ = word_put out at (end_line answer offset) end (figures_of no) (figures_of number ∷ word ∷ figures_of offset ∷ []) at out refused i₁ out₁ p₁

      pub no_fits : i₁ + length (figures_of no ++ (32 ∷ [])) ≤ length out₁
      no_fits = word_fits out at (end_line answer offset) (figures_of no) (figures_of number) (word ∷ figures_of offset ∷ []) i₁ out₁ due₁

      module _ (i₂ : ℕ) (out₂ : List ℕ) (p₂ : Put out₁ i₁ (figures_of no ++ (32 ∷ [])) i₂ out₂) where
        due₂ : Due out at (end_line answer offset) (line (figures_of number ∷ word ∷ figures_of offset ∷ [])) i₂ out₂
        due₂ = word_put out at (end_line answer offset) (figures_of no) (figures_of number) (word ∷ figures_of offset ∷ []) i₁ out₁ due₁ i₂ out₂ p₂

        pub number_fits : i₂ + length (figures_of number ++ (32 ∷ [])) ≤ length out₂
        number_fits = word_fits out at (end_line answer offset) (figures_of number) word (figures_of offset ∷ []) i₂ out₂ due₂

        module _ (i₃ : ℕ) (out₃ : List ℕ) (p₃ : Put out₂ i₂ (figures_of number ++ (32 ∷ [])) i₃ out₃) where
          due₃ : Due out at (end_line answer offset) (line (word ∷ figures_of offset ∷ [])) i₃ out₃
          due₃ = word_put out at (end_line answer offset) (figures_of number) word (figures_of offset ∷ []) i₂ out₂ due₂ i₃ out₃ p₃

          pub at_fits : i₃ + length (word ++ (32 ∷ [])) ≤ length out₃
          at_fits = word_fits out at (end_line answer offset) word (figures_of offset) [] i₃ out₃ due₃

          module _ (i₄ : ℕ) (out₄ : List ℕ) (p₄ : Put out₃ i₃ (word ++ (32 ∷ [])) i₄ out₄) where
            due₄ : Due out at (end_line answer offset) (line (figures_of offset ∷ [])) i₄ out₄
            due₄ = word_put out at (end_line answer offset) word (figures_of offset) [] i₃ out₃ due₃ i₄ out₄ p₄

            pub offset_fits : i₄ + length (figures_of offset ++ (10 ∷ [])) ≤ length out₄
            offset_fits = last_fits out at (end_line answer offset) (figures_of offset) i₄ out₄ due₄

            pub end_put : (r : ℕ) (out' : List ℕ) → Put out₄ i₄ (figures_of offset ++ (10 ∷ [])) r out' → PutMost 70 out at (end_line answer offset) r out'
            end_put r out' q = record { put = last_put out at (end_line answer offset) (figures_of offset) i₄ out₄ due₄ r out' q; few = refused_most }

-- ---- `input`

pub input_put : (out : List ℕ) (at r : ℕ) (out' : List ℕ) → Put out at (105 ∷ 110 ∷ 112 ∷ 117 ∷ 116 ∷ 10 ∷ []) r out' → Put out at (line ((105 ∷ 110 ∷ 112 ∷ 117 ∷ 116 ∷ []) ∷ [])) r out'
unfolding line
input_put out at r out' p = p
