-- The figures of a number, put one after the other. Assumes nothing.
use mathlib.Core.Path.{◌≡◌, ap, sym, ◌∙◌}
use mathlib.Core.List.{List, [], ◌∷◌, ◌++◌}
use Prim.Native.Nat.{ℕ, ◌+◌, ◌/◌, ◌%◌, ◌≤◌, ◌<◌}
use native.Mathlib.Omega.{arith}
use lib.ListN.{length, set, length-append}
use Rattle.list.specs.Put.{Put}
use Rattle.list.proofs.Put.{put_byte, put_then, put_long, put_is}
use Rattle.decimal.specs.Decimal.{figure, figures_of}
use Rattle.decimal.proofs.Figures.{one_figure, then_last}

module _ (out : List ℕ) (at n : ℕ) (room : at + length (figures_of n) ≤ length out) where
  -- one figure; d is the figure as the code has it
  module _ (h : n < 10) where
    pub one_fits : at < length out
    one_fits = omega (arith, ap length (one_figure n h))

    pub one_put : (d : ℕ) → d ≡ figure n → Put out at (figures_of n) (at + 1) (set out at d)
    one_put d e = put_is out at (d ∷ []) (figures_of n) (at + 1) (set out at d) (ap (λ (x : ℕ). x ∷ []) e ∙ sym (one_figure n h)) (put_byte out at d one_fits)

  -- the others, and then the last
  module _ (h : 10 ≤ n) where
    counted : length (figures_of n) ≡ length (figures_of (n / 10)) + 1
    counted = ap length (then_last n h) ∙ length-append (figures_of (n / 10)) (figure (n % 10) ∷ [])

    pub others_fit : at + length (figures_of (n / 10)) ≤ length out
    others_fit = omega (arith, counted)

    module _ (i : ℕ) (mid : List ℕ) (p : Put out at (figures_of (n / 10)) i mid) where
      pub same : length mid ≡ length out
      same = put_long out at (figures_of (n / 10)) i mid p others_fit

      pub last_fits : i < length mid
      last_fits = omega (arith, same, p.past, counted)

      pub last_put : (d : ℕ) → d ≡ figure (n % 10) → Put out at (figures_of n) (i + 1) (set mid i d)
      last_put d e =
          put_is out at (figures_of (n / 10) ++ (d ∷ [])) (figures_of n) (i + 1) (set mid i d)
          (ap (λ (x : ℕ). figures_of (n / 10) ++ (x ∷ [])) e ∙ sym (then_last n h))
          (put_then out at (figures_of (n / 10)) (d ∷ []) i mid (i + 1) (set mid i d) p (put_byte mid i d last_fits) (omega (arith, counted)))
