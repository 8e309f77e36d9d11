-- What the figures of a number are: its value, no leading zero, and few. Assumes nothing.
use mathlib.Core.Path.{◌≡◌, refl, ap, ◌∙◌}
use mathlib.Core.List.{List, [], ◌∷◌, ◌++◌}
use Prim.Native.Nat.{ℕ, zero, suc, ◌+◌, ◌-◌, ◌*◌, ◌/◌, ◌%◌, ◌^◌, ◌<◌, ◌≤◌}
use native.Mathlib.Omega.{arith}
use native.Mathlib.Nat.{pow-suc}
use lib.Dec.{ltb}
use lib.ListN.{length, get_or, length-append}
use borrow.Author.Tests.{lt-ltb, le-ltb, ltb-true, ltb-false}
use Rattle.list.proofs.Pick.{pick_ind}
use Rattle.decimal.specs.Decimal.{Figure, Figures, decimal_from, decimal, figure, figures_in, figures_of}

-- ---- the figures, one by one

figures_last : (steps n : ℕ) → n < 10 → figures_in steps n ≡ figure n ∷ []
unfolding figures_in
figures_last zero n h = refl
figures_last (suc steps) n h = rw (lt-ltb n 10 h)

figures_next : (steps n : ℕ) → 10 ≤ n → figures_in (suc steps) n ≡ figures_in steps (n / 10) ++ (figure (n % 10) ∷ [])
unfolding figures_in
figures_next steps n h = rw (le-ltb n 10 h)

-- what holds of one figure, and of others and one more, holds of all figures of a number
module _ (P : ℕ → List ℕ → Type 0) (one : (n : ℕ) → n < 10 → P n (figure n ∷ []))
    (more : (n : ℕ) (ds : List ℕ) → 10 ≤ n → P (n / 10) ds → P n (ds ++ (figure (n % 10) ∷ []))) where
  by_figures : (steps n : ℕ) → n ≤ steps → P n (figures_in steps n)
  unfolding figures_in
  by_figures zero n h = one n (omega arith)
  by_figures (suc steps) n h =
      pick_ind (P n) (ltb n 10) (λ e. one n (ltb-true n 10 e))
      (λ e. more n (figures_in steps (n / 10)) (ltb-false n 10 e) (by_figures steps (n / 10) (omega (arith, ltb-false n 10 e))))

  of_number : (n : ℕ) → P n (figures_of n)
  of_number n = by_figures n n (omega arith)

-- more steps than the number change nothing
enough : (n t : ℕ) → n ≤ t → figures_in t n ≡ figures_of n
enough n t h =
    of_number (λ m ds. (t : ℕ) → m ≤ t → figures_in t m ≡ ds) (λ m l t g. figures_last t m l)
    (λ m ds l e t g.
    let s : t ≡ suc (t - 1) = omega arith in
    ap (λ (k : ℕ). figures_in k m) s ∙ figures_next (t - 1) m l ∙ ap (λ (r : List ℕ). r ++ (figure (m % 10) ∷ [])) (e (t - 1) (omega arith)))
    n t h

pub one_figure : (n : ℕ) → n < 10 → figures_of n ≡ figure n ∷ []
one_figure n h = figures_last n n h

pub then_last : (n : ℕ) → 10 ≤ n → figures_of n ≡ figures_of (n / 10) ++ (figure (n % 10) ∷ [])
then_last n h =
    let s : n ≡ suc (n - 1) = omega arith in
    ap (λ (k : ℕ). figures_in k n) s ∙ figures_next (n - 1) n h ∙ ap (λ (r : List ℕ). r ++ (figure (n % 10) ∷ [])) (enough (n / 10) (n - 1) (omega arith))

-- ---- read back

decimal_append : (n : ℕ) (a b : List ℕ) → decimal_from n (a ++ b) ≡ decimal_from (decimal_from n a) b
unfolding decimal_from
decimal_append n [] b = refl
decimal_append n (x ∷ a) b = decimal_append (10 * n + (x - 48)) a b

decimal_one : (n d : ℕ) → decimal_from n (figure d ∷ []) ≡ 10 * n + d
unfolding decimal_from
decimal_one n d = omega arith

-- reading the figures back gives the number
pub read_back : (n : ℕ) → decimal (figures_of n) ≡ n
read_back =
    of_number (λ n ds. decimal ds ≡ n) (λ n h. decimal_one 0 n ∙ omega arith)
    (λ n ds h e. decimal_append 0 ds (figure (n % 10) ∷ []) ∙ decimal_one (decimal ds) (n % 10) ∙ omega arith)

-- ---- each is a figure, and the first is no zero

figures_append : (a : List ℕ) (b : ℕ) → Figures a → Figure b → Figures (a ++ (b ∷ []))
figures_append [] b f g = (g, tt)
figures_append (x ∷ a) b f g = (f.0, figures_append a b f.1 g)

pub only_figures : (n : ℕ) → Figures (figures_of n)
only_figures =
    of_number (λ n ds. Figures ds) (λ n h. ((omega arith, omega arith), tt))
    (λ n ds h f. figures_append ds (figure (n % 10)) f (omega arith, omega arith))

pub zero_alone : figures_of 0 ≡ 48 ∷ []
zero_alone = one_figure 0 (omega arith)

first_append : (a b : List ℕ) → 1 ≤ length a → get_or (a ++ b) 0 0 ≡ get_or a 0 0
first_append [] b h = absurd (omega arith)
first_append (x ∷ a) b h = refl

-- no leading zero: a number above 0 begins with `1` to `9`
pub leads : (n : ℕ) → 1 ≤ n → 49 ≤ get_or (figures_of n) 0 0
leads n h =
    (of_number (λ n ds. (1 ≤ length ds) × (1 ≤ n → 49 ≤ get_or ds 0 0)) (λ n l. (omega arith, λ k. omega arith))
    (λ n ds l f. (simp length-append (omega arith), λ k. omega (arith, first_append ds (figure (n % 10) ∷ []) f.0, f.1 (omega arith))))
    n).1 h

-- ---- how many

-- a number below 10 to the k has at most k figures
few : (k n : ℕ) → n < 10 ^ suc k → length (figures_of n) ≤ suc k
few k n h =
    of_number (λ n ds. (k : ℕ) → n < 10 ^ suc k → length ds ≤ suc k) (λ n l k h. omega arith) (λ n ds l f k h. shorter n ds l f k h) n k h
  where
    shorter : (n : ℕ) (ds : List ℕ) → 10 ≤ n → ((k : ℕ) → n / 10 < 10 ^ suc k → length ds ≤ suc k) → (k : ℕ) → n < 10 ^ suc k → length (ds ++ (figure (n % 10) ∷ [])) ≤ suc k
    shorter n ds l f zero h = absurd (omega arith)
    shorter n ds l f (suc k) h = simp length-append (omega (arith, f k (omega (arith, pow-suc 10 (suc k)))))

-- ten figures for a number of 32 bits
pub ten : (n : ℕ) → n < 2 ^ 32 → length (figures_of n) ≤ 10
ten n h = few 9 n (omega arith)

-- twenty for one of 64
pub twenty : (n : ℕ) → n < 2 ^ 64 → length (figures_of n) ≤ 20
twenty n h = few 19 n (omega arith)
