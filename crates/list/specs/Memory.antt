-- What lent memory holds after a run of numbers is written to it. Assumes nothing.
use Rattle.std.specs.Prelude.{List, ◌++◌, ℕ, ◌+◌, length, take, drop}

-- ws from the start on; past them what xs has there
unfoldable pub onto : List ℕ → List ℕ → List ℕ
onto ws xs = ws ++ drop (length ws) xs

-- ws from the place at on; before and past them what xs has there
unfoldable pub blit : List ℕ → ℕ → List ℕ → List ℕ
blit xs at ws = take at xs ++ (ws ++ drop (at + length ws) xs)
