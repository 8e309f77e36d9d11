-- Helpers: what inner contracts and proofs need; no contract of an entry and no theorem reaches this file.
-- How the quick ways of reading see bytes, and the writing table. Assumes nothing.
use Rattle.std.specs.Prelude.{List, [], ◌∷◌, ℕ, ◌+◌, ◌-◌, ◌*◌, ◌/◌, ◌%◌, ltb, eqb}
use Rattle.list.specs.Pick.{pick}
use Rattle.digits.specs.Digits.{digit_of, is_delim}

-- 16 more than the value of a digit below 32
abbrev pub step_of : ℕ → ℕ
step_of d = pick (eqb (d % 2) 1) (16 - d / 2) (16 + d / 2)

-- a byte as a value of one digit that is not minus zero: its step; 80 for a delimiter, 160 for any other byte
unfoldable pub short_of : ℕ → ℕ
short_of b = pick (is_delim b) 80 (pick (eqb (digit_of b) 1) 160 (pick (ltb (digit_of b) 32) (step_of (digit_of b)) 160))

-- four bytes as one number, the first lowest
abbrev pub word : ℕ → ℕ → ℕ → ℕ → ℕ
word a b c d = ((d * 256 + c) * 256 + b) * 256 + a

-- the constant table of the code; that it follows the rule of Digits.antt is proved
unfoldable pub writing : List ℕ
writing =
    65 ∷ 66 ∷ 67 ∷ 68 ∷ 69 ∷ 70 ∷ 71 ∷ 72 ∷ 73 ∷ 74 ∷ 75 ∷ 76 ∷ 77 ∷ 78 ∷ 79 ∷ 80 ∷
    81 ∷ 82 ∷ 83 ∷ 84 ∷ 85 ∷ 86 ∷ 87 ∷ 88 ∷ 89 ∷ 90 ∷ 97 ∷ 98 ∷ 99 ∷ 100 ∷ 101 ∷ 102 ∷
    103 ∷ 104 ∷ 105 ∷ 106 ∷ 107 ∷ 108 ∷ 109 ∷ 110 ∷ 111 ∷ 112 ∷ 113 ∷ 114 ∷ 115 ∷ 116 ∷ 117 ∷ 118 ∷
    119 ∷ 120 ∷ 121 ∷ 122 ∷ 48 ∷ 49 ∷ 50 ∷ 51 ∷ 52 ∷ 53 ∷ 54 ∷ 55 ∷ 56 ∷ 57 ∷ 43 ∷ 47 ∷ []
