-- The tables' rules, each by one test that antt computes over the whole table, and what follows of the definitions.
-- Assumes nothing.
use mathlib.Core.Path.{◌≡◌, refl, sym, ◌∙◌, ap, subst}
use mathlib.Core.Bool.{Bool, true, false}
use mathlib.Core.Logic.{◌⊎◌, inl, inr}
use Prim.Native.Nat.{ℕ, ◌+◌, ◌*◌, ◌%◌, ◌<◌}
use native.Mathlib.Omega.{arith}
use lib.Dec.{T, eqb, ltb, eqb→eq, leb→le}
use lib.ListN.{get_or}
use Rattle.list.specs.Pick.{pick}
use Rattle.list.proofs.Table.{at}
use Rattle.digits.specs.Digits.{digit_of, is_delim, class_of, char_of}
use Rattle.digits.specs.Tables.{writing}
use Rattle.digits.proofs.Below as below

right_write : ℕ → ℕ → Bool
right_write k x = eqb x (char_of k)

-- reading inverts writing
back : ℕ → ℕ → Bool
back k x = eqb (class_of x) k

pub writes : (d : ℕ) → d < 64 → get_or writing d 0 ≡ char_of d
unfolding writing right_write char_of
writes d h = eqb→eq (get_or writing d 0) (char_of d) (at right_write writing tt d h)

pub read_back : (d : ℕ) → d < 64 → class_of (char_of d) ≡ d
unfolding writing back class_of is_delim digit_of
read_back d h = ap class_of (sym (writes d h)) ∙ eqb→eq (class_of (get_or writing d 0)) d (at back writing tt d h)

-- what a caller learns of a byte's code, by its two cases
pub record Delim (b : ℕ) : Type 0 where
  pub is : class_of b ≡ 64
  pub delim : is_delim b ≡ true

pub record Digit (b : ℕ) : Type 0 where
  pub small : class_of b < 64
  pub delim : is_delim b ≡ false
  pub is : class_of b ≡ digit_of b

kind : ℕ → Bool
kind b = ltb (digit_of b) 64

digit_small : (b : ℕ) → b < 256 → digit_of b < 64
unfolding kind digit_of
digit_small b h = leb→le _ _ (below.at kind 256 tt b h)

by_kind : (t : Bool) (b : ℕ) → is_delim b ≡ t → digit_of b < 64 → Delim b ⊎ Digit b
unfolding class_of
by_kind true b e h = inl (record { is = rw e; delim = e })
by_kind false b e h = inr (record { small = rw e h; delim = e; is = rw e })

pub code_cases : (b : ℕ) → b < 256 → Delim b ⊎ Digit b
code_cases b h = by_kind (is_delim b) b refl (digit_small b h)

delim_of : (b : ℕ) → class_of b ≡ 64 → Delim b ⊎ Digit b → Delim b
delim_of b e (inl d) = d
delim_of b e (inr d) = let z : class_of b < 64 = d.small in absurd (omega arith)

digit_is : (b : ℕ) → (class_of b ≡ 64 → ⊥) → Delim b ⊎ Digit b → Digit b
digit_is b n (inl d) = absurd (n d.is)
digit_is b n (inr d) = d

-- what `code`'s result says of the byte
pub delim_is : (b r : ℕ) → b < 256 → r ≡ class_of b → r ≡ 64 → is_delim b ≡ true
delim_is b r h e q = (delim_of b (sym e ∙ q) (code_cases b h)).delim

pub is_digit : (b r : ℕ) → b < 256 → r ≡ class_of b → (r ≡ 64 → ⊥) → Digit b
is_digit b r h e n = digit_is b (λ q. n (e ∙ q)) (code_cases b h)

-- the character of a digit is a digit, and reads as it
plain : ℕ → ℕ → Bool
plain k x = pick (is_delim x) false (eqb (digit_of x) k)

pub record Char (d : ℕ) : Type 0 where
  pub delim : is_delim (char_of d) ≡ false
  pub reads : digit_of (char_of d) ≡ d

plain_of : (t : Bool) (x d : ℕ) → is_delim x ≡ t → T (pick t false (eqb (digit_of x) d)) → (is_delim x ≡ false) × (digit_of x ≡ d)
plain_of true x d e h = absurd h
plain_of false x d e h = (e, eqb→eq (digit_of x) d h)

pub char : (d : ℕ) → d < 64 → Char d
unfolding writing plain is_delim digit_of
char d h =
    let p : T (pick (is_delim (get_or writing d 0)) false (eqb (digit_of (get_or writing d 0)) d)) = at plain writing tt d h in
    let q : T (pick (is_delim (char_of d)) false (eqb (digit_of (char_of d)) d)) = subst (λ (x : ℕ). T (pick (is_delim x) false (eqb (digit_of x) d))) (writes d h) p in
    let r = plain_of (is_delim (char_of d)) (char_of d) d refl q in
    record { delim = r.0; reads = r.1 }

-- the number that the two delimiters alone have below 2
abbrev pub agree : Bool → Bool → Bool
agree true t = t
agree false true = false
agree false false = true

pub agree_eq : (s t : Bool) → T (agree s t) → s ≡ t
agree_eq true true h = refl
agree_eq true false h = absurd h
agree_eq false true h = absurd h
agree_eq false false h = refl

marked : ℕ → Bool
marked b = agree (ltb ((b * 17 + 21) % 256) 2) (is_delim b)

pub delim_mark : (b : ℕ) → b < 256 → ltb ((b * 17 + 21) % 256) 2 ≡ is_delim b
unfolding marked is_delim
delim_mark b h = agree_eq (ltb ((b * 17 + 21) % 256) 2) (is_delim b) (below.at marked 256 tt b h)
