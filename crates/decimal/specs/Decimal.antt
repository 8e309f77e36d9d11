-- Numbers in decimal: the value of figures, and the figures of a number. Assumes nothing.
use Rattle.std.specs.Prelude.{List, [], ◌∷◌, ◌++◌, ℕ, zero, suc, ◌+◌, ◌-◌, ◌*◌, ◌/◌, ◌%◌, ◌≤◌, ltb}
use Rattle.list.specs.Pick.{pick}

-- a byte `0` to `9`
abbrev pub Figure : ℕ → Type 0
Figure b = (48 ≤ b) × (b ≤ 57)

-- figures only
abbrev pub Figures : List ℕ → Type 0
Figures [] = Unit {0}
Figures (b ∷ bs) = Figure b × Figures bs

-- the value of figures that follow others with the value n
unfoldable pub decimal_from : ℕ → List ℕ → ℕ
decimal_from n [] = n
decimal_from n (b ∷ bs) = decimal_from (10 * n + (b - 48)) bs

-- the value of figures
abbrev pub decimal : List ℕ → ℕ
decimal ds = decimal_from 0 ds

-- the byte of a figure
abbrev pub figure : ℕ → ℕ
figure d = 48 + d

-- the figures of n, the highest first: those of n / 10, and then the last; at most `steps` before the last
unfoldable pub figures_in : ℕ → ℕ → List ℕ
figures_in zero n = figure n ∷ []
figures_in (suc steps) n = let more : List ℕ = figures_in steps (n / 10) ++ (figure (n % 10) ∷ []) in pick (ltb n 10) (figure n ∷ []) more

-- as many steps as the number itself are always enough
abbrev pub figures_of : ℕ → List ℕ
figures_of n = figures_in n n
