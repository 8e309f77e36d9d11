-- What the tests of the short way show. Assumes nothing.
use Rattle.std.specs.Prelude.{Some, Ok}
use Rattle.std.proofs.Common.{◌≡◌, ℕ, ◌+◌, ◌-◌, ◌*◌, ◌/◌, ◌%◌, ◌^◌, ◌<◌, ◌≤◌, Bool, true, false, eqb, ltb, List, length, get_or, drop, sym, refl, ap, ◌∙◌, arith}
use lib.Bits.{bit_or, or_add_and, and_le_l, and_le_r}
use borrow.Author.Tests.{eqb-false}
use Rattle.list.specs.Pick.{pick}
use Rattle.digits.specs.Digits.{digit_of, is_delim}
use Rattle.digits.specs.Tables.{short_of, step_of, word}
use Rattle.digits.proofs.Words as words
use Rattle.digits.proofs.Shorts.{one}
use Rattle.vlq.specs.Several.{FewAt}
use Rattle.vlq.specs.declared.Few.{Few}
use Rattle.vlq.proofs.Steps.{one_digit}
use Rattle.vlq.proofs.Values.{few_under}
use Rattle.short.specs.declared.Shape.{Shape}
use Rattle.short.specs.declared.Near.{Near}
use Rattle.short.specs.Short.{Bytes, Read, Reading, move_of, Stands, Three, Rest, Shaped, Fit}

-- ---- the shape: b is the fifth byte

few_by : (t : Bool) (k : ℕ) → k ≡ pick t 4 5 → k ≤ 5
few_by true k h = omega arith
few_by false k h = omega arith

pub at_most_five : (b k : ℕ) → k ≡ pick (ltb b 60) 4 5 → k ≤ 5
at_most_five b k h = few_by (ltb b 60) k h

byte_by : (t : Bool) (b f : ℕ) → b < 256 → f ≡ pick t 65 b → f < 256
byte_by true b f l h = omega arith
byte_by false b f l h = omega arith

capital_a : short_of 65 ≡ 16
unfolding short_of is_delim digit_of
capital_a = refl

abbrev pub shape : ℕ → ℕ → ℕ → ℕ → ℕ → Shape
shape fields len steps col name = record { fields = fields; len = len; steps = steps; col = col; name = name }

-- a digit of one value: its step is its number's
move_by : (t : Bool) (d : ℕ) → d < 32 → pick t (16 - d / 2) (16 + d / 2) ≡ pick t ((2 ^ 64 + 16 - d / 2) % 2 ^ 64) (16 + d / 2)
move_by true d h = omega arith
move_by false d h = refl

step_move : (d : ℕ) → d < 32 → step_of d ≡ move_of d
unfolding move_of
step_move d h = move_by (eqb (d % 2) 1) d h

stands_one : (s : List ℕ) (p q e : ℕ) → p < length s → q ≡ p + 1 → short_of (get_or s p 0) < 32 → e ≡ short_of (get_or s p 0) → Stands s p q e
stands_one s p q e h eq u m =
    let o = one (get_or s p 0) (omega arith) in
    record {
      num = digit_of (get_or s p 0);
      reads = one_digit s p h o.delim o.small ∙ ap (λ (n : ℕ). Ok (Some (digit_of (get_or s p 0), 0, n))) (sym eq);
      small = omega (arith, o.small);
      plain = o.plain;
      moves = m ∙ o.is ∙ step_move (digit_of (get_or s p 0)) o.small;
    }

three_ones : (s : List ℕ) (at steps : ℕ) → at + 3 ≤ length s → short_of (get_or s at 0) < 32 → get_or s (at + 1) 0 ≡ 65 → short_of (get_or s (at + 2) 0) < 32
    → steps % 256 ≡ short_of (get_or s at 0) → steps / 65536 % 256 ≡ short_of (get_or s (at + 2) 0) → Three s at steps
three_ones s at steps h a b c ea ec =
    let z : short_of (get_or s (at + 1) 0) ≡ 16 = ap short_of b ∙ capital_a in
    record {
      first = stands_one s at (at + 1) (steps % 256) (omega arith) refl a ea;
      second = stands_one s (at + 1) (at + 2) 16 (omega arith) (omega arith) (omega (arith, z)) (sym z);
      third = stands_one s (at + 2) (at + 3) (steps / 65536 % 256) (omega arith) (omega arith) c ec;
    }

module _ (s : List ℕ) (at : ℕ) (small : (i : ℕ) → get_or s i 0 < 256) (b : ℕ) (eb : b ≡ get_or s (at + 4) 0) (second : get_or s (at + 1) 0 ≡ 65)
    (w : ℕ) (ew : w ≡ word (get_or s at 0) (get_or s (at + 1) 0) (get_or s (at + 2) 0) (get_or s (at + 3) 0)) (f : ℕ) (ef : f ≡ pick (ltb b 60) 65 b) where
  f_small : f < 256
  f_small = byte_by (ltb b 60) b f (omega (arith, eb, small (at + 4))) ef

  w_is : w ≡ word (get_or s at 0) 65 (get_or s (at + 2) 0) (get_or s (at + 3) 0)
  w_is = ew ∙ ap (λ (n : ℕ). word (get_or s at 0) n (get_or s (at + 2) 0) (get_or s (at + 3) 0)) second

  pub second_fits : (16640 ≤ w) × (w - 16640 + f * 256 < 2 ^ 32)
  second_fits =
      (omega (arith, w_is), omega (arith, w_is, f_small, small at, small (at + 2), small (at + 3)))

  module _ (w' : ℕ) (ew' : w' ≡ w - 16640 + f * 256) (steps : ℕ) (rs : Reading w' steps) where
    four : Bytes 256 w'
    four =
        record {
          a = get_or s at 0;
          b = f;
          c = get_or s (at + 2) 0;
          d = get_or s (at + 3) 0;
          is = omega (arith, ew', w_is);
          la = small at;
          lb = f_small;
          lc = small (at + 2);
          ld = small (at + 3);
        }

    r : Read (get_or s at 0) f (get_or s (at + 2) 0) (get_or s (at + 3) 0) steps
    unfolding four
    r = rs four

    first_step : steps % 256 ≡ short_of (get_or s at 0)
    first_step = ap (λ (n : ℕ). n % 256) r.is ∙ words.first (short_of (get_or s at 0)) (short_of f) _ _ (omega (arith, r.one_a))

    third_step : steps / 65536 % 256 ≡ short_of (get_or s (at + 2) 0)
    third_step =
        ap (λ (n : ℕ). n / 65536 % 256) r.is
        ∙ words.third (short_of (get_or s at 0)) (short_of f) (short_of (get_or s (at + 2) 0)) _ (omega (arith, r.one_a)) (omega (arith, r.one_b)) (omega (arith, r.one_c))

    fourth_step : steps / 16777216 ≡ short_of (get_or s (at + 3) 0)
    fourth_step =
        ap (λ (n : ℕ). n / 16777216) r.is
        ∙ words.fourth (short_of (get_or s at 0)) (short_of f) (short_of (get_or s (at + 2) 0)) (short_of (get_or s (at + 3) 0)) (omega (arith, r.one_a)) (omega (arith, r.one_b)) (omega (arith, r.one_c))

    fifth_step : steps / 256 % 256 ≡ short_of f
    fifth_step =
        ap (λ (n : ℕ). n / 256 % 256) r.is
        ∙ words.second (short_of (get_or s at 0)) (short_of f) (short_of (get_or s (at + 2) 0)) _ (omega (arith, r.one_a)) (omega (arith, r.one_b))

    pub ones_three : at + 3 ≤ length s → Three s at steps
    ones_three h = three_ones s at steps h r.one_a second r.one_c first_step third_step

    shaped_by : (t : Bool) (k : ℕ) → k ≡ pick t 4 5 → f ≡ pick t 65 b → is_delim (get_or s (at + k) 0) ≡ true → at + 6 ≤ length s → Shaped s at (shape k k steps (steps / 16777216) (steps / 256 % 256))
    shaped_by true k ek e d h =
        record {
          three = ones_three (omega arith);
          place = at + 4;
          fourth = stands_one s (at + 3) (at + 4) (steps / 16777216) (omega arith) (omega arith) r.one_d fourth_step;
          rest = Rest.four ek (omega arith) (fifth_step ∙ ap short_of e ∙ capital_a);
          within = omega arith;
          delim = d;
        }
    shaped_by false k ek e d h =
        let q : f ≡ get_or s (at + 4) 0 = e ∙ eb in
        record {
          three = ones_three (omega arith);
          place = at + 4;
          fourth = stands_one s (at + 3) (at + 4) (steps / 16777216) (omega arith) (omega arith) r.one_d fourth_step;
          rest = Rest.five ek (stands_one s (at + 4) (at + k) (steps / 256 % 256) (omega arith) (omega arith) (omega (arith, ap short_of q, r.one_b)) (fifth_step ∙ ap short_of q));
          within = omega arith;
          delim = d;
        }

    pub shaped : (k : ℕ) → k ≡ pick (ltb b 60) 4 5 → is_delim (get_or s (at + k) 0) ≡ true → at + 6 ≤ length s → Shaped s at (shape k k steps (steps / 16777216) (steps / 256 % 256))
    shaped k ek d h = shaped_by (ltb b 60) k ek ef d h

-- ---- the shape of few digits

-- the fourth byte is `A` instead
module _ (s : List ℕ) (at : ℕ) (small : (i : ℕ) → get_or s i 0 < 256) (h : at + 12 ≤ length s) (second : get_or s (at + 1) 0 ≡ 65)
    (w : ℕ) (ew : w ≡ word (get_or s at 0) (get_or s (at + 1) 0) (get_or s (at + 2) 0) (get_or s (at + 3) 0)) (steps : ℕ) (rs : Reading (w % 16777216 + 1090519040) steps) where
  with_a : Bytes 256 (w % 16777216 + 1090519040)
  with_a =
      record {
        a = get_or s at 0;
        b = 65;
        c = get_or s (at + 2) 0;
        d = 65;
        is = omega (arith, ew, second, small at, small (at + 2), small (at + 3));
        la = small at;
        lb = omega arith;
        lc = small (at + 2);
        ld = omega arith;
      }

  r_a : Read (get_or s at 0) 65 (get_or s (at + 2) 0) 65 steps
  unfolding with_a
  r_a = rs with_a

  pub few_three : Three s at steps
  few_three =
      three_ones s at steps (omega arith) r_a.one_a second r_a.one_c
      (ap (λ (n : ℕ). n % 256) r_a.is ∙ words.first (short_of (get_or s at 0)) (short_of 65) _ _ (omega (arith, r_a.one_a)))
      (ap (λ (n : ℕ). n / 65536 % 256) r_a.is
      ∙ words.third (short_of (get_or s at 0)) (short_of 65) (short_of (get_or s (at + 2) 0)) _ (omega (arith, r_a.one_a)) (omega (arith, r_a.one_b)) (omega (arith, r_a.one_c)))

-- a number of few digits
stands_few : (s : List ℕ) (p : ℕ) (f : Few) (e : ℕ) → FewAt s p f → (f.bits ≡ 1 → ⊥) → e ≡ move_of f.bits → Stands s p (p + f.count) e
stands_few s p f e few plain m =
    record {
      num = f.bits;
      reads = few.reads;
      small = omega (arith, few_under p (drop p s) f.bits f.count few.reads few.short);
      plain = plain;
      moves = m;
    }

module _ (s : List ℕ) (at steps : ℕ) (h : at + 12 ≤ length s) (three : Three s at steps)
    (f : Few) (few : FewAt s (at + 3) f) (plain : f.bits ≡ 1 → ⊥) (col : ℕ) (ec : col ≡ move_of f.bits) where
  pub few_four : is_delim (get_or s (at + 3 + f.count) 0) ≡ true → Shaped s at (shape 4 (3 + f.count) steps col 16)
  few_four d =
      let q : at + (3 + f.count) ≡ at + 3 + f.count = omega arith in
      record {
        three = three;
        place = at + 3 + f.count;
        fourth = stands_few s (at + 3) f col few plain ec;
        rest = Rest.four refl (omega arith) refl;
        within = omega (arith, few.short);
        delim = ap (λ (n : ℕ). is_delim (get_or s n 0)) q ∙ d;
      }

  pub few_five : (g : Few) → FewAt s (at + 3 + f.count) g → (g.bits ≡ 1 → ⊥)
      → (name : ℕ) → name ≡ move_of g.bits → is_delim (get_or s (at + 3 + f.count + g.count) 0) ≡ true → Shaped s at (shape 5 (3 + f.count + g.count) steps col name)
  few_five g few' plain' name en d =
      let q : at + (3 + f.count + g.count) ≡ at + 3 + f.count + g.count = omega arith in
      record {
        three = three;
        place = at + 3 + f.count;
        fourth = stands_few s (at + 3) f col few plain ec;
        rest = Rest.five refl (rw q (stands_few s (at + 3 + f.count) g name few' plain' en));
        within = omega (arith, few.short, few'.short);
        delim = ap (λ (n : ℕ). is_delim (get_or s n 0)) q ∙ d;
      }

-- ---- the sums

-- each number is at most what it makes with others, bit by bit
or_left : (a b : ℕ) → a ≤ bit_or a b
or_left a b = omega (arith, or_add_and a b, and_le_r a b)

or_right : (a b : ℕ) → b ≤ bit_or a b
or_right a b = omega (arith, or_add_and a b, and_le_l a b)

-- the tests of the sums
module _ (n : Near) (k sources names cap : ℕ) (ec : cap ≡ pick (eqb k 5) names 4294967296) (small : names < 2 ^ 32)
    (all : bit_or (bit_or n.dst_col n.src_line) n.src_col < 4294967296) (source : n.source_id < sources) (name : n.name_id < cap) where
  two : bit_or n.dst_col n.src_line < 4294967296
  two = omega (arith, all, or_left (bit_or n.dst_col n.src_line) n.src_col)

  cap_by : (t : Bool) → eqb k 5 ≡ t → cap ≡ pick t names 4294967296 → (cap ≤ 4294967296) × (k ≡ 5 → cap ≡ names)
  cap_by true q e = (omega arith, λ h. e)
  cap_by false q e = (omega arith, λ h. absurd (eqb-false k 5 q h))

  pub fit : Fit n k sources names
  fit =
      let c = cap_by (eqb k 5) refl ec in
      record {
        col = omega (arith, two, or_left n.dst_col n.src_line);
        source = source;
        line = omega (arith, two, or_right n.dst_col n.src_line);
        scol = omega (arith, all, or_right (bit_or n.dst_col n.src_line) n.src_col);
        name = omega (arith, name, c.0);
        named = λ h. omega (arith, name, c.1 h);
      }
