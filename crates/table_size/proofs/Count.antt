-- Each turn of the loop that counts segments. Assumes nothing.
use mathlib.Core.Path.{◌≡◌, sym, ◌∙◌}
use mathlib.Core.Bool.{Bool, true, false, not}
use mathlib.Core.Logic.{⊎_elim}
use mathlib.Core.List.{List, ◌∷◌}
use Prim.Native.Nat.{ℕ, ◌+◌, ◌*◌, ◌/◌, ◌<◌, ◌≤◌}
use native.Mathlib.Omega.{arith}
use native.Mathlib.Numerals.{add-one}
use lib.Dec.{eqb, ltb}
use lib.ListN.{length, drop, get_or, drop_of_length-le}
use lib.Seq.{drop-cons}
use borrow.Author.Tests.{lt-ltb, le-ltb, eq-eqb, ne_eqb}
use Rattle.list.specs.Pick.{pick}
use Rattle.token.specs.Table.{width}
use Rattle.digits.specs.Digits.{is_delim, class_of}
use Rattle.digits.proofs.Tables.{code_cases}
use Rattle.table_size.specs.Size.{segments_from}

-- a byte's code is 64 exactly where it is a delimiter
pub coded : (b r : ℕ) → b < 256 → r ≡ class_of b → eqb r 64 ≡ is_delim b
coded b r h e =
    ⊎_elim (λ k. eq-eqb r 64 (e ∙ k.is) ∙ sym k.delim) (λ k. ne_eqb r 64 (λ q. omega (arith, k.small)) ∙ sym k.delim) (code_cases b h)

-- the segments that begin before the i-th byte are counted
pub record Counting (text : List ℕ) (n : ℕ) (inside : Bool) (i : ℕ) : Type 0 where
  pub is : n + segments_from inside (drop i text) ≡ segments_from false text
  pub few : n ≤ i

pub begins : (text : List ℕ) → Counting text 0 false 0
begins text = record { is = omega arith; few = omega arith }

turned : (n : ℕ) (inside : Bool) (b : ℕ) (bs : List ℕ) (d : Bool) → d ≡ is_delim b
    → pick d n (pick inside n (n + 1)) + segments_from (not d) bs ≡ n + segments_from inside (b ∷ bs)
unfolding segments_from
turned n inside b bs true e = rw (← e)
turned n true b bs false e = rw (← e)
turned n false b bs false e = rw (← e) (omega arith)

module _ (text : List ℕ) (n : ℕ) (inside : Bool) (i : ℕ) (c : Counting text n inside i) where
  pub ends : length text ≤ i → n ≡ segments_from false text
  unfolding segments_from
  ends h = let z : segments_from inside (drop i text) ≡ 0 = rw (drop_of_length-le text h) in omega (arith, c.is)

  module _ (h : i < length text) (d : Bool) (ed : d ≡ is_delim (get_or text i 0)) (m : ℕ) (em : m ≡ pick d n (pick inside n (n + 1))) where
    grown : (d inside : Bool) → pick d n (pick inside n (n + 1)) ≤ n + 1
    grown true inside = omega arith
    grown false true = omega arith
    grown false false = omega arith

    pub turns : Counting text m (not d) (i + 1)
    turns =
        let headed : drop i text ≡ get_or text i 0 ∷ drop (i + 1) text = rw (add-one i) (drop-cons text i 0 h) in
        let t = turned n inside (get_or text i 0) (drop (i + 1) text) d ed in
        record { is = rw em (t ∙ rw (← headed) c.is); few = rw em (omega (arith, grown d inside, c.few)) }

-- so many numbers
pub more : (n : ℕ) → 18446744073709551615 / width < n → ◌≡◌ {A = ℕ} 18446744073709551615 (pick (ltb 18446744073709551615 (width * n)) 18446744073709551615 (width * n))
more n h = rw (lt-ltb 18446744073709551615 (width * n) (omega arith))

pub fewer : (n : ℕ) → n ≤ 18446744073709551615 / width → width * n ≡ pick (ltb 18446744073709551615 (width * n)) 18446744073709551615 (width * n)
fewer n h = rw (le-ltb 18446744073709551615 (width * n) (omega arith))
