-- A table that is not bad: the numbers of its tokens, and not too many of them. Assumes nothing.
use mathlib.Core.Path.{◌≡◌, refl, sym, ◌∙◌, ap}
use mathlib.Core.Bool.{Bool, true, false}
use mathlib.Core.List.{List, ◌∷◌, ◌++◌, append_assoc, append-nil}
use Prim.Native.Nat.{ℕ, zero, suc, ◌+◌, ◌*◌, ◌%◌, ◌≤◌, ◌<◌}
use native.Mathlib.Omega.{arith}
use native.Mathlib.Nat.{add-zero}
use lib.Dec.{eqb, ltb}
use lib.ListN.{length, drop, get_or, drop_of_length-le}
use lib.Seq.{drop-cons}
use borrow.Author.Tests.{eqb-true, ltb-false}
use Rattle.list.specs.Pick.{pick}
use Rattle.list.specs.Memory.{onto}
use Rattle.token.specs.Table.{row, width, places, bad_table, token_at, tokens_from, tokens_of, flat, over}

next : (xs : List ℕ) (n m : ℕ) → m ≡ suc n → n < length xs → drop n xs ≡ get_or xs n 0 ∷ drop m xs
next xs n m e h = rw e (drop-cons xs n 0 h)

-- the i-th token's numbers, and what stands after them
drop_row : (xs : List ℕ) (i : ℕ) → width * (i + 1) ≤ length xs → drop (width * i) xs ≡ row (token_at xs i) ++ drop (width * (i + 1)) xs
unfolding token_at
drop_row xs i h =
    rw (
      next xs (width * i) (width * i + 1) (omega arith) (omega arith),
      next xs (width * i + 1) (width * i + 2) (omega arith) (omega arith),
      next xs (width * i + 2) (width * i + 3) (omega arith) (omega arith),
      next xs (width * i + 3) (width * i + 4) (omega arith) (omega arith),
      next xs (width * i + 4) (width * i + 5) (omega arith) (omega arith),
      next xs (width * i + 5) (width * i + 6) (omega arith) (omega arith),
      next xs (width * i + 6) (width * (i + 1)) (omega arith) (omega arith),
    )

flat_from : (xs : List ℕ) (n i : ℕ) → width * (i + n) ≤ length xs → flat (tokens_from xs i n) ++ drop (width * (i + n)) xs ≡ drop (width * i) xs
unfolding tokens_from flat
flat_from xs zero i h = rw add-zero
flat_from xs (suc n) i h =
    let e : i + suc n ≡ i + 1 + n = omega arith in
    append_assoc (row (token_at xs i)) (flat (tokens_from xs (i + 1) n)) (drop (width * (i + suc n)) xs)
    ∙ ap (λ (r : List ℕ). row (token_at xs i) ++ r)
    (ap (λ (m : ℕ). flat (tokens_from xs (i + 1) n) ++ drop (width * m) xs) e ∙ flat_from xs n (i + 1) (omega arith))
    ∙ sym (drop_row xs i (omega arith))

whole_by : (t : Bool) (numbers : ℕ) → eqb (numbers % width) 0 ≡ t → pick t (ltb 4294967294 (places numbers)) true ≡ false → numbers % width ≡ 0
whole_by true numbers e h = eqb-true (numbers % width) 0 e
whole_by false numbers e h = let z : ◌≡◌ {A = Bool} true false = h in absurd (zero_one z)
  where
    zero_one : true ≡ false → ⊥
    zero_one q = let y : ◌≡◌ {A = ℕ} 0 1 = cc in omega arith

few_if : (b : Bool) (k : ℕ) → pick b (ltb 4294967294 k) true ≡ false → k ≤ 4294967294
few_if true k e = ltb-false 4294967294 k e
few_if false k e = let z : ◌≡◌ {A = ℕ} 0 1 = cc in omega arith

-- a table that is not bad has an index of 32 bits for each token
pub few : (numbers : ℕ) → bad_table numbers ≡ false → places numbers ≤ 4294967294
few numbers e = few_if (eqb (numbers % width) 0) (places numbers) e

pub whole_tokens : (xs : List ℕ) → bad_table (length xs) ≡ false → width * places (length xs) ≡ length xs
whole_tokens xs g = omega (arith, whole_by (eqb (length xs % width) 0) (length xs) refl g)

-- the numbers of a table's tokens are the table
pub flat_tokens : (xs : List ℕ) → bad_table (length xs) ≡ false → flat (tokens_of xs) ≡ xs
flat_tokens xs g =
    let n : width * (0 + places (length xs)) ≡ length xs = omega (arith, whole_tokens xs g) in
    sym (append-nil (flat (tokens_of xs)))
    ∙ ap (λ (r : List ℕ). flat (tokens_of xs) ++ r) (sym (drop_of_length-le xs {i = width * (0 + places (length xs))} (omega arith)))
    ∙ flat_from xs (places (length xs)) 0 (omega arith)

-- written over a table of the same length
pub over_tokens : (xs table : List ℕ) → bad_table (length xs) ≡ false → length table ≡ length xs → over (tokens_of xs) table ≡ xs
unfolding onto
over_tokens xs table g e = rw (flat_tokens xs g, drop_of_length-le table {i = length xs} (omega arith), append-nil)
