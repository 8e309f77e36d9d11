-- Covers: what fits under one, exactly for one token, and for all tokens that it was laid over. Assumes nothing.
use Rattle.std.proofs.Common.{◌≡◌, ℕ, ◌+◌, ◌≤◌, Bool, true, false, not, eqb, ltb, leb, sym, refl, ap, ◌∙◌, arith, ltb-false, le-ltb, lt-ltb, eq-eqb, ne_eqb, eqb-true, leb-false, leb-true}
use lib.Bits.{bit_or, or_add_and, and_le_l, and_le_r}
use borrow.Author.Tests.{eqb-false}
use Rattle.list.specs.Pick.{pick}
use Rattle.token.specs.Table.{no_id}
use Rattle.token.specs.declared.Token.{Token}
use Rattle.translate.specs.Translate.{id_too_big, too_big}
use Rattle.translate.specs.Covers.{no_cover, from_one, cover_with, passes, cover_fits, Over}
use Rattle.translate.specs.declared.Cover.{Cover}

or_left : (a b : ℕ) → a ≤ bit_or a b
or_left a b = omega (arith, or_add_and a b, and_le_r a b)

or_right : (a b : ℕ) → b ≤ bit_or a b
or_right a b = omega (arith, or_add_and a b, and_le_l a b)

-- the zeros
pub zeros : (c : Cover) → (c.line ≡ 0) × ((c.source ≡ 0) × (c.name ≡ 0)) → c ≡ no_cover
zeros c e = let a = e.0 in let b = e.1.0 in let d = e.1.1 in rw (a, b, d)

pub is_with : (c : Cover) (t : Token) (s n : ℕ) → s ≡ from_one t.source_id → n ≡ from_one t.name_id
    → record { line = bit_or c.line t.dst_line; source = bit_or c.source s; name = bit_or c.name n } ≡ cover_with c t
unfolding cover_with
is_with c t s n es en = rw (es, en)

-- ---- an id: none is 0 and passes nothing, and each other is one more
module _ (id offset : ℕ) (fits : id ≤ no_id) (short : offset ≤ no_id) where
  none_passes : id ≡ no_id → id_too_big id offset ≡ passes (from_one id) offset
  none_passes e =
      let z : from_one id ≡ 0 = omega (arith, e) in
      simp (eq-eqb id no_id e, le-ltb no_id (from_one id + offset) (omega (arith, z)))

  some_passes : (id ≡ no_id → ⊥) → id_too_big id offset ≡ passes (from_one id) offset
  some_passes ne =
      let z : from_one id ≡ id + 1 = some ne in
      rw (ne_eqb id no_id ne, z) (one_more (leb no_id (id + offset)) refl)
    where
      some : (id ≡ no_id → ⊥) → from_one id ≡ id + 1
      some k = omega (arith, k)

      one_more : (b : Bool) → leb no_id (id + offset) ≡ b → b ≡ ltb no_id (id + 1 + offset)
      one_more true e = sym (lt-ltb no_id (id + 1 + offset) (omega (arith, leb-true no_id (id + offset) e)))
      one_more false e = sym (le-ltb no_id (id + 1 + offset) (omega (arith, leb-false no_id (id + offset) e)))

  id_passes : id_too_big id offset ≡ passes (from_one id) offset
  id_passes = by (eqb id no_id) refl
    where
      by : (b : Bool) → eqb id no_id ≡ b → id_too_big id offset ≡ passes (from_one id) offset
      by true e = none_passes (eqb-true id no_id e)
      by false e = some_passes (eqb-false id no_id e)

-- ---- a cover and offsets
either_true : (a b : Bool) → pick a false b ≡ true → (a ≡ false) × (b ≡ true)
either_true true b e = let z : ◌≡◌ {A = ℕ} 0 1 = cc in absurd (omega arith)
either_true false b e = (refl, e)

module _ (line source name : ℕ) where
  pub record Fit (c : Cover) : Type 0 where
    pub on : c.line + line ≤ no_id
    pub from : c.source + source ≤ no_id
    pub called : c.name + name ≤ no_id

  module _ (c : Cover) where
    fit : cover_fits line source name c ≡ true → Fit c
    unfolding cover_fits
    fit e =
        let x = either_true (passes c.line line) (pick (passes c.source source) false (pick (passes c.name name) false true)) e in
        let y = either_true (passes c.source source) (pick (passes c.name name) false true) x.1 in
        let z = either_true (passes c.name name) true y.1 in
        record {
          on = ltb-false no_id (c.line + line) x.0;
          from = ltb-false no_id (c.source + source) y.0;
          called = ltb-false no_id (c.name + name) z.0;
        }

    pub all_fit : Fit c → true ≡ cover_fits line source name c
    unfolding cover_fits
    all_fit f =
        simp (
          le-ltb no_id (c.line + line) f.on,
          le-ltb no_id (c.source + source) f.from,
          le-ltb no_id (c.name + name) f.called,
        )

-- ---- a token of 32-bit numbers
pub record Narrow (t : Token) : Type 0 where
  pub line : t.dst_line ≤ no_id
  pub source : t.source_id ≤ no_id
  pub name : t.name_id ≤ no_id

turned : (a b c : Bool) → not (pick a false (pick b false (pick c false true))) ≡ pick a true (pick b true c)
turned true b c = refl
turned false true c = refl
turned false false true = refl
turned false false false = refl

-- under a cover of its own it fits exactly where it is not too big
pub exact : (line source name : ℕ) (t : Token) → Narrow t → source ≤ no_id → name ≤ no_id
    → not (cover_fits line source name (cover_with no_cover t)) ≡ too_big line source name t
unfolding cover_fits cover_with too_big
exact line source name t n hs hn =
    rw (id_passes t.source_id source n.source hs, id_passes t.name_id name n.name hn)
    (turned (passes t.dst_line line) (passes (from_one t.source_id) source) (passes (from_one t.name_id) name))

module _ (line source name : ℕ) (c : Cover) (t : Token) (e : cover_fits line source name (cover_with c t) ≡ true) where
  below : Fit line source name c
  unfolding cover_with
  below =
      let f = fit line source name (cover_with c t) e in
      record {
        on = omega (arith, f.on, or_left c.line t.dst_line);
        from = omega (arith, f.from, or_left c.source (from_one t.source_id));
        called = omega (arith, f.called, or_left c.name (from_one t.name_id));
      }

  alone : Fit line source name (cover_with no_cover t)
  unfolding cover_with
  alone =
      let f = fit line source name (cover_with c t) e in
      record {
        on = omega (arith, f.on, or_right c.line t.dst_line);
        from = omega (arith, f.from, or_right c.source (from_one t.source_id));
        called = omega (arith, f.called, or_right c.name (from_one t.name_id));
      }

  kept_with : cover_fits line source name c ≡ true
  kept_with = sym (all_fit line source name c below)

  small_with : Narrow t → too_big line source name t ≡ false
  small_with n =
      let a = alone in
      sym (exact line source name t n (omega (arith, a.from)) (omega (arith, a.called))) ∙ ap not (sym (all_fit line source name (cover_with no_cover t) a))

pub both : (c : Cover) (t u : Token) (r : Cover) → Narrow t → Narrow u → r ≡ cover_with (cover_with c t) u → Over c t u r
both c t u r nt nu er =
    record {
      kept = λ line source name e. kept_with line source name c t (one line source name e);
      one = λ line source name e. small_with line source name c t (one line source name e) nt;
      two = λ line source name e. small_with line source name (cover_with c t) u (all line source name e) nu;
    }
  where
    all : (line source name : ℕ) → cover_fits line source name r ≡ true → cover_fits line source name (cover_with (cover_with c t) u) ≡ true
    all line source name e = ap (cover_fits line source name) (sym er) ∙ e

    one : (line source name : ℕ) → cover_fits line source name r ≡ true → cover_fits line source name (cover_with c t) ≡ true
    one line source name e = kept_with line source name (cover_with c t) u (all line source name e)
