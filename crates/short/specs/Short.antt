-- Helpers: what inner contracts and proofs need; no contract of an entry and no theorem reaches this file.
-- What the short way tests and makes: a segment of four or five values of few digits each. It decides nothing by itself: that it
-- agrees with the general way wherever it is taken is proved. Assumes nothing.
use Rattle.std.specs.Prelude.{◌≡◌, ℕ, ◌+◌, ◌-◌, ◌/◌, ◌%◌, ◌^◌, ◌<◌, true, List, length, ◌==◌, slice_index, Some, Ok}
use Rattle.list.specs.Pick.{pick}
use Rattle.digits.specs.Digits.{digit_of, is_delim}
use Rattle.digits.specs.Tables.{short_of, step_of, word}
use Rattle.vlq.specs.Vlq.{vlq_at}
use Rattle.apply.specs.declared.State.{State}
use Rattle.short.specs.declared.Near.{Near}
use Rattle.short.specs.declared.Shape.{Shape}

-- a number below 2^32 as four bytes, each below a bound
pub record Bytes (bound w : ℕ) : Type 0 where
  pub a : ℕ
  pub b : ℕ
  pub c : ℕ
  pub d : ℕ
  pub is : w ≡ word a b c d
  pub la : a < bound
  pub lb : b < bound
  pub lc : c < bound
  pub ld : d < bound

-- what `A` needs to become each of these four bytes is in t: their digits are in r, and each has a value of one digit
pub record Ones (t r : ℕ) : Type 0 where
  pub all : Bytes 128 t
  pub digits : r ≡ word (digit_of (all.a + 65)) (digit_of (all.b + 65)) (digit_of (all.c + 65)) (digit_of (all.d + 65))
  pub one_a : short_of (all.a + 65) < 32
  pub one_b : short_of (all.b + 65) < 32
  pub one_c : short_of (all.c + 65) < 32
  pub one_d : short_of (all.d + 65) < 32

-- the steps of four bytes that have a value of one digit each
pub record Read (a b c d r : ℕ) : Type 0 where
  pub one_a : short_of a < 32
  pub one_b : short_of b < 32
  pub one_c : short_of c < 32
  pub one_d : short_of d < 32
  pub is : r ≡ word (short_of a) (short_of b) (short_of c) (short_of d)

-- each of the four digits of d becomes its step
abbrev pub Stepping : ℕ → ℕ → Type 0
Stepping d r = (x : Bytes 32 d) → r ≡ word (step_of x.a) (step_of x.b) (step_of x.c) (step_of x.d)

-- r has the steps of the four bytes of w
abbrev pub Reading : ℕ → ℕ → Type 0
Reading w r = (x : Bytes 256 w) → Read x.a x.b x.c x.d r

-- 16 more than the value of a number, modulo 2^64
unfoldable pub move_of : ℕ → ℕ
move_of n = pick (n % 2 == 1) ((2 ^ 64 + 16 - n / 2) % 2 ^ 64) (16 + n / 2)

-- a number below 2^32 that is not minus zero stands from p up to q; e is 16 more than its value
pub record Stands (s : List ℕ) (p q e : ℕ) : Type 0 where
  pub num : ℕ
  pub reads : vlq_at s p ≡ Ok (Some (num, 0, q))
  pub small : num < 2 ^ 32
  pub plain : num ≡ 1 → ⊥
  pub moves : e ≡ move_of num

-- three values of one digit each stand from `at` on, and the second is 0
pub record Three (s : List ℕ) (at steps : ℕ) : Type 0 where
  pub first : Stands s at (at + 1) (steps % 256)
  pub second : Stands s (at + 1) (at + 2) 16
  pub third : Stands s (at + 2) (at + 3) (steps / 65536 % 256)

-- four fields end at the place p, or a fifth begins there
pub data Rest (s : List ℕ) (at p : ℕ) (r : Shape) : Type 0 where
  four : r.fields ≡ 4 → p ≡ at + r.len → r.name ≡ 16 → Rest s at p r
  five : r.fields ≡ 5 → Stands s p (at + r.len) r.name → Rest s at p r

-- the fields of a shape stand from `at` on, and then a delimiter
pub record Shaped (s : List ℕ) (at : ℕ) (r : Shape) : Type 0 where
  pub three : Three s at r.steps
  pub place : ℕ
  pub fourth : Stands s (at + 3) place r.col
  pub rest : Rest s at place r
  pub within : at + r.len < length s
  pub delim : is_delim (slice_index s (at + r.len)) ≡ true

-- x is the number `base` after the step e, modulo 2^64
pub record Stepped (x base e : ℕ) : Type 0 where
  pub small : base < 2 ^ 32
  pub moved : (x + 16) % 2 ^ 64 ≡ (base + e) % 2 ^ 64

-- the running numbers after the steps of a shape
pub record Nears (r : Shape) (st : State) (n : Near) : Type 0 where
  pub col : Stepped n.dst_col st.dst_col (r.steps % 256)
  pub source : Stepped n.source_id st.source_id 16
  pub line : Stepped n.src_line st.src_line (r.steps / 65536 % 256)
  pub scol : Stepped n.src_col st.src_col r.col
  pub name : Stepped n.name_id st.name_id r.name

-- every sum may be taken, in both modes
pub record Fit (n : Near) (k sources names : ℕ) : Type 0 where
  pub col : n.dst_col < 2 ^ 32
  pub source : n.source_id < sources
  pub line : n.src_line < 2 ^ 32
  pub scol : n.src_col < 2 ^ 32
  pub name : n.name_id < 2 ^ 32
  pub named : k ≡ 5 → n.name_id < names
