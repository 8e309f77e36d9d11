-- docs/RULES.md, dumpmap: the first line as a function that computes, a count read up to the byte that must stop it.
-- Its answer is the one that `Reads` has: `computed_reads` and `reads_computed` (proofs/Line.antt). Assumes nothing.
use Rattle.std.specs.Prelude.{Bool, List, [], ◌∷◌, ℕ, ◌+◌, ◌-◌, ◌*◌, eqb, leb, ltb, drop, Option, Some, None}
use Rattle.list.specs.Pick.{pick, both}
use Rattle.first_line.specs.declared.FirstLine.{FirstLine}
use Rattle.first_line.specs.declared.Number.{Number}

-- a byte `0` to `9`
unfoldable pub is_figure : ℕ → Bool
is_figure b = both (leb 48 b) (leb b 57)

-- so many figures with the value n, and then the stop byte, past which `next` is
unfoldable pub ended_at : ℕ → ℕ → ℕ → Option Number
ended_at figures n next = pick (eqb figures 0) None (pick (ltb 4294967295 n) None (Some (record { value = n; next = next })))

-- from the place i on, after so many figures with the value n
unfoldable pub number_from : ℕ → ℕ → ℕ → ℕ → List ℕ → Option Number
number_from stop figures n i [] = None
number_from stop figures n i (b ∷ bs) =
    pick (eqb b stop) (ended_at figures n (i + 1))
    (pick (is_figure b)
    (pick (eqb figures 10) None (number_from stop (figures + 1) (10 * n + (b - 48)) (i + 1) bs))
    None)

-- the count that begins at a place
abbrev pub number_at : List ℕ → ℕ → ℕ → Option Number
number_at s at stop = number_from stop 0 0 at (drop at s)

-- the second count, up to a newline, after the first
abbrev pub second : ℕ → Option Number → Option FirstLine
second sources (Some names) = Some (record { sources = sources; names = names.value; text = names.next })
second sources None = None

-- the first count, up to a space, and then the second
abbrev pub first : List ℕ → Option Number → Option FirstLine
first input (Some sources) = second sources.value (number_at input sources.next 10)
first input None = None

abbrev pub first_line : List ℕ → Option FirstLine
first_line input = first input (number_at input 0 32)
