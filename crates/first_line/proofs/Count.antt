-- Reading a count byte by byte: what each byte does to it, on the definitions alone. Assumes nothing.
use mathlib.Core.Path.{◌≡◌, refl, ap, sym, ◌∙◌}
use mathlib.Core.Bool.{Bool, true, false}
use mathlib.Core.List.{List, [], ◌∷◌}
use Prim.Native.Nat.{ℕ, ◌+◌, ◌-◌, ◌*◌, ◌^◌, ◌≤◌, ◌<◌}
use native.Mathlib.Omega.{arith}
use native.Mathlib.Nat.{pow-suc, pow-le-pow_right}
use native.Mathlib.Numerals.{add-one}
use lib.Dec.{leb}
use Rattle.std.proofs.Common.{Option, Some, None, ◌&&◌}
use Rattle.std.specs.Char.{is_ascii_digit}
use lib.ListN.{length, drop, get_or, drop_of_length-le}
use lib.Seq.{drop-cons}
use borrow.Author.Tests.{le-ltb, le-leb, leb-true, eq-eqb, ne_eqb}
use Rattle.list.specs.Pick.{pick}
use Rattle.decimal.specs.Decimal.{Figure}
use Rattle.first_line.specs.Reading.{is_figure, ended_at, number_from, number_at}
use Rattle.first_line.specs.declared.Number.{Number}

-- a count of this value, and where what follows it begins
abbrev pub counted : ℕ → ℕ → Option Number
counted value next = Some (record { value = value; next = next })

pub counted_is : (v k v' k' : ℕ) → counted v k ≡ counted v' k' → (v ≡ v') × (k ≡ k')
counted_is v k v' k' e =
    let z : ◌≡◌ {A = Number} (record { value = v; next = k }) (record { value = v'; next = k' }) = cc in
    (ap (λ (m : Number). m.value) z, ap (λ (m : Number). m.next) z)

-- ---- a figure

same_by : (x y : Bool) → ◌&&◌ x y ≡ pick x y false
same_by true y = refl
same_by false y = refl

-- as std says it
pub same_figure : (b : ℕ) → is_ascii_digit b ≡ is_figure b
unfolding is_figure
same_figure b = same_by (leb 48 b) (leb b 57)

module _ (b : ℕ) where
  pub figure : Figure b → is_figure b ≡ true
  unfolding is_figure
  figure f = rw (le-leb 48 b f.0, le-leb b 57 f.1)

  figured_if : (x : Bool) → leb 48 b ≡ x → pick x (leb b 57) false ≡ true → Figure b
  figured_if true e h = (leb-true 48 b e, leb-true b 57 h)
  figured_if false e h = let z : ◌≡◌ {A = ℕ} 0 1 = cc in absurd (omega arith)

  pub figured : is_figure b ≡ true → Figure b
  unfolding is_figure
  figured e = figured_if (leb 48 b) refl e

-- ---- the stop byte

module _ (figures n next : ℕ) where
  pub a_count : (figures ≡ 0 → ⊥) → n ≤ 4294967295 → ended_at figures n next ≡ counted n next
  unfolding ended_at
  a_count ne h = rw (ne_eqb figures 0 ne, le-ltb 4294967295 n h)

-- ---- one byte

module _ (stop figures n i : ℕ) where
  pub from_none : number_from stop figures n i [] ≡ None
  unfolding number_from
  from_none = refl

  module _ (b : ℕ) (bs : List ℕ) where
    pub from_stop : b ≡ stop → number_from stop figures n i (b ∷ bs) ≡ ended_at figures n (i + 1)
    unfolding number_from
    from_stop e = rw (eq-eqb b stop e)

    module _ (ne : b ≡ stop → ⊥) where
      pub from_strange : is_figure b ≡ false → number_from stop figures n i (b ∷ bs) ≡ None
      unfolding number_from
      from_strange e = rw (ne_eqb b stop ne, e)

      module _ (f : is_figure b ≡ true) where
        pub from_eleventh : figures ≡ 10 → number_from stop figures n i (b ∷ bs) ≡ None
        unfolding number_from
        from_eleventh e = rw (ne_eqb b stop ne, f, eq-eqb figures 10 e)

        pub from_figure : (figures ≡ 10 → ⊥) → number_from stop figures n i (b ∷ bs) ≡ number_from stop (figures + 1) (10 * n + (b - 48)) (i + 1) bs
        unfolding number_from
        from_figure l = rw (ne_eqb b stop ne, f, ne_eqb figures 10 l)

-- ---- the loop

-- so many figures were read, with the value n, and the count is what reading on from i gives
pub record Reading (s : List ℕ) (at stop n figures i : ℕ) : Type 0 where
  pub place : i ≡ at + figures
  pub few : figures ≤ 10
  pub small : n < 10 ^ figures
  pub rest : number_at s at stop ≡ number_from stop figures n i (drop i s)

pub start : (s : List ℕ) (at stop : ℕ) → Reading s at stop 0 (at - at) at
start s at stop =
    let z : at - at ≡ 0 = omega arith in
    rw z (record { place = omega arith; few = omega arith; small = omega arith; rest = refl })

module _ (s : List ℕ) (at stop n figures i : ℕ) (f : Reading s at stop n figures i) where
  -- ten figures fit 64 bits with room to spare
  pub room : n < 10 ^ 10
  room = omega (arith, f.small, pow-le-pow_right {n = 10} (omega arith) f.few)

  pub at_end : length s ≤ i → None ≡ number_at s at stop
  at_end h = sym (f.rest ∙ rw (drop_of_length-le s h) (from_none stop figures n i))

  module _ (h : i < length s) (b : ℕ) (eb : b ≡ get_or s i 0) where
    here : drop i s ≡ b ∷ drop (i + 1) s
    here = rw (add-one i, eb) (drop-cons s i 0 h)

    next : (r : Option Number) → number_from stop figures n i (b ∷ drop (i + 1) s) ≡ r → number_at s at stop ≡ r
    next r e = f.rest ∙ ap (number_from stop figures n i) here ∙ e

    pub stops : b ≡ stop → (r : Option Number) → r ≡ ended_at figures n (i + 1) → r ≡ number_at s at stop
    stops e r er = er ∙ sym (next _ (from_stop stop figures n i b (drop (i + 1) s) e))

    module _ (ne : b ≡ stop → ⊥) where
      pub strange : false ≡ is_figure b → None ≡ number_at s at stop
      strange e = sym (next _ (from_strange stop figures n i b (drop (i + 1) s) ne (sym e)))

      module _ (e : true ≡ is_figure b) where
        pub eleventh : figures ≡ 10 → None ≡ number_at s at stop
        eleventh q = sym (next _ (from_eleventh stop figures n i b (drop (i + 1) s) ne (sym e) q))

        -- w is the figure, as the code has it
        module _ (w : ℕ) (ew : w ≡ b - 48) where
          pub turns : (figures ≡ 10 → ⊥) → Reading s at stop (10 * n + w) (i + 1 - at) (i + 1)
          turns l =
              let g = figured b (sym e) in
              let p : 10 ^ (figures + 1) ≡ 10 ^ figures * 10 = rw (add-one figures) (pow-suc 10 figures) in
              let k : i + 1 - at ≡ figures + 1 = omega (arith, f.place) in
              rw k
              (record {
                place = omega (arith, f.place);
                few = omega (arith, f.few);
                small = omega (arith, f.small, g.0, g.1);
                rest = rw ew (next _ (from_figure stop figures n i b (drop (i + 1) s) ne (sym e) l));
              })
