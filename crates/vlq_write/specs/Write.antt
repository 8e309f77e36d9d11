-- docs/RULES.md, Values and Writing: how the step from one number to another is written. Assumes nothing.
use Rattle.std.specs.Prelude.{ℕ, zero, suc, ◌+◌, ◌-◌, ◌*◌, ◌/◌, ◌%◌, List, [], ◌∷◌, nat_lt}
use Rattle.list.specs.Pick.{pick}
use Rattle.digits.specs.Digits.{char_of}

-- the step from b to a: its size doubled, and 1 more where it goes down
unfoldable pub vlq_value : ℕ → ℕ → ℕ
vlq_value a b = pick (nat_lt a b) ((b - a) * 2 + 1) ((a - b) * 2)

-- the digits of n, the lowest first, each but the last with 32 added; at most `steps` others before the last
unfoldable pub digits_of : ℕ → ℕ → List ℕ
digits_of zero n = char_of n ∷ []
digits_of (suc steps) n = pick (nat_lt n 32) (char_of n ∷ []) (char_of (n % 32 + 32) ∷ digits_of steps (n / 32))

-- as many steps as the number itself are always enough
abbrev pub write_of : ℕ → List ℕ
write_of n = digits_of n n
