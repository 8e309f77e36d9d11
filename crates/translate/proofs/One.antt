-- One id and one token that are not too big: what holds of them, and what they are moved to. Assumes nothing.
use Rattle.std.proofs.Common.{◌≡◌, ℕ, ◌+◌, ◌<◌, ◌≤◌, Bool, true, false, ltb, refl, arith, ltb-false, eq-eqb, ne_eqb, leb-false}
use Rattle.list.specs.Pick.{pick}
use Rattle.token.specs.Table.{no_id}
use Rattle.token.specs.declared.Token.{Token}
use Rattle.translate.specs.Translate.{id_moved, id_too_big, too_big, moved}

module _ (id offset : ℕ) (fits : id ≤ no_id) where
  pub none_kept : id ≡ no_id → id ≡ id_moved id offset
  none_kept e = simp (eq-eqb id no_id e)

  pub some_moved : (id ≡ no_id → ⊥) → id + offset ≡ id_moved id offset
  some_moved ne = simp (ne_eqb id no_id ne)

  pub some_fits : (id ≡ no_id → ⊥) → id_too_big id offset ≡ false → id + offset < no_id
  some_fits ne small = leb-false no_id (id + offset) (rw (ne_eqb id no_id ne) at small)

either_false : (a b : Bool) → pick a true b ≡ false → (a ≡ false) × (b ≡ false)
either_false true b e = (e, let z : ◌≡◌ {A = ℕ} 0 1 = cc in absurd (omega arith))
either_false false b e = (refl, e)

-- a token that is not too big
pub record Small (line source name : ℕ) (t : Token) : Type 0 where
  pub on : t.dst_line + line ≤ no_id
  pub from : id_too_big t.source_id source ≡ false
  pub called : id_too_big t.name_id name ≡ false

module _ (line source name : ℕ) (t : Token) where
  pub small : too_big line source name t ≡ false → Small line source name t
  unfolding too_big
  small e =
      let a = either_false (ltb no_id (t.dst_line + line)) (pick (id_too_big t.source_id source) true (id_too_big t.name_id name)) e in
      let b = either_false (id_too_big t.source_id source) (id_too_big t.name_id name) a.1 in
      record { on = ltb-false no_id (t.dst_line + line) a.0; from = b.0; called = b.1 }

  pub is_moved : (s n : ℕ) → s ≡ id_moved t.source_id source → n ≡ id_moved t.name_id name
      → record {
        dst_line = t.dst_line + line;
        dst_col = t.dst_col;
        src_line = t.src_line;
        src_col = t.src_col;
        source_id = s;
        name_id = n;
        segment = t.segment;
      }
      ≡ moved line source name t
  unfolding moved
  is_moved s n es en = rw (es, en)
