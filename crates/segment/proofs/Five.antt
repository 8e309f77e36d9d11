-- The first five entries of a list, with a filler past its end, as it grows. Assumes nothing.
use Rattle.std.proofs.Common.{◌≡◌, ℕ, ◌<◌, ◌≤◌, List, [], ◌∷◌, ◌++◌, length, take, set, sym, ap, ◌∙◌, append_assoc, arith, length-append}
use lib.Seq.{take-set-lt, set_at, take-append-le}

abbrev pub five : {A : Type 0} → A → List A
five z = z ∷ z ∷ z ∷ z ∷ z ∷ []

module _ {A : Type 0} (z v : A) (xs : List A) (count : ℕ) (counted : length xs ≡ count) where
  four : List A
  four = z ∷ z ∷ z ∷ z ∷ []

  pub keeps : count < 5 → set (take 5 (xs ++ five z)) count v ≡ take 5 ((xs ++ (v ∷ [])) ++ five z)
  unfolding four
  keeps h =
      sym (take-set-lt 5 (xs ++ five z) count v h)
      ∙ ap (take 5) (set_at xs z four v count counted)
      ∙ sym (take-append-le 5 (xs ++ (v ∷ four)) (z ∷ []) long)
      ∙ ap (take 5) (append_assoc xs (v ∷ four) (z ∷ []) ∙ sym (append_assoc xs (v ∷ []) (five z)))
    where
      long : 5 ≤ length (xs ++ (v ∷ four))
      long = omega (arith, length-append xs (v ∷ four))

  pub passes : 5 ≤ count → take 5 (xs ++ five z) ≡ take 5 ((xs ++ (v ∷ [])) ++ five z)
  passes h =
      take-append-le 5 xs (five z) (omega (arith, counted))
      ∙ sym (take-append-le 5 xs ((v ∷ []) ++ five z) (omega (arith, counted)))
      ∙ ap (take 5) (sym (append_assoc xs (v ∷ []) (five z)))

-- a further filler changes nothing
pub fills : {A : Type 0} (z : A) (xs : List A) → take 5 (xs ++ five z) ≡ take 5 ((xs ++ (z ∷ [])) ++ five z)
fills z xs =
    sym (take-append-le 5 (xs ++ five z) (z ∷ []) (omega (arith, length-append xs (five z))))
    ∙ ap (take 5) (append_assoc xs (five z) (z ∷ []) ∙ sym (append_assoc xs (z ∷ []) (five z)))
