-- The column base and the state after a token, case by case, and that they stay 32-bit numbers. Assumes nothing.
use mathlib.Core.Path.{◌≡◌, refl}
use Prim.Native.Nat.{ℕ, ◌^◌, ◌<◌}
use native.Mathlib.Omega.{arith}
use lib.Dec.{eqb}
use borrow.Author.Tests.{eq-eqb, ne_eqb}
use mir.Syntax.{w32}
use mir.Val.{Fits}
use Rattle.list.proofs.Pick.{pick_ind}
use Rattle.token.specs.Table.{no_id, is_none}
use Rattle.token.specs.declared.Token.{Token}
use Rattle.token.specs.declared.TokenChunk.{TokenChunk}
use Rattle.chunk.specs.Chunk.{base_of, after}

module _ (p : TokenChunk) (t : Token) where
  pub base_same : p.prev_dst_line ≡ t.dst_line → p.prev_dst_col ≡ base_of p t
  unfolding base_of
  base_same e = rw (eq-eqb _ _ e)

  pub base_new : (p.prev_dst_line ≡ t.dst_line → ⊥) → 0 ≡ base_of p t
  unfolding base_of
  base_new n = rw (ne_eqb _ _ n)

  -- a token without a source, with one and no name, with both
  pub after_bare : t.source_id ≡ no_id →
      record {
        start = p.start;
        end = p.end;
        prev_dst_line = t.dst_line;
        prev_dst_col = t.dst_col;
        prev_src_line = p.prev_src_line;
        prev_src_col = p.prev_src_col;
        prev_name_id = p.prev_name_id;
        prev_source_id = p.prev_source_id;
      } ≡ after p t
  unfolding after
  after_bare s = rw (eq-eqb _ _ s)

  pub after_sourced : (t.source_id ≡ no_id → ⊥) → t.name_id ≡ no_id →
      record {
        start = p.start;
        end = p.end;
        prev_dst_line = t.dst_line;
        prev_dst_col = t.dst_col;
        prev_src_line = t.src_line;
        prev_src_col = t.src_col;
        prev_name_id = p.prev_name_id;
        prev_source_id = t.source_id;
      } ≡ after p t
  unfolding after
  after_sourced s n = rw (ne_eqb _ _ s, eq-eqb _ _ n)

  pub after_named : (t.source_id ≡ no_id → ⊥) → (t.name_id ≡ no_id → ⊥) →
      record {
        start = p.start;
        end = p.end;
        prev_dst_line = t.dst_line;
        prev_dst_col = t.dst_col;
        prev_src_line = t.src_line;
        prev_src_col = t.src_col;
        prev_name_id = t.name_id;
        prev_source_id = t.source_id;
      } ≡ after p t
  unfolding after
  after_named s n = rw (ne_eqb _ _ s, ne_eqb _ _ n)

  pub after_line : (after p t).prev_dst_line ≡ t.dst_line
  unfolding after
  after_line = refl

-- 32-bit numbers
pub record SmallToken (t : Token) : Type 0 where
  pub line : t.dst_line < 2 ^ 32
  pub column : t.dst_col < 2 ^ 32
  pub source_line : t.src_line < 2 ^ 32
  pub src_column : t.src_col < 2 ^ 32
  pub source : t.source_id < 2 ^ 32
  pub name : t.name_id < 2 ^ 32

pub record SmallState (p : TokenChunk) : Type 0 where
  pub line : p.prev_dst_line < 2 ^ 32
  pub column : p.prev_dst_col < 2 ^ 32
  pub source_line : p.prev_src_line < 2 ^ 32
  pub src_column : p.prev_src_col < 2 ^ 32
  pub name : p.prev_name_id < 2 ^ 32
  pub source : p.prev_source_id < 2 ^ 32

-- from what the checker knows of a struct's fields
pub small_token : (t : Token)
    → Fits w32 t.dst_line × (Fits w32 t.dst_col × (Fits w32 t.src_line × (Fits w32 t.src_col × (Fits w32 t.source_id × (Fits w32 t.name_id × (Fits w32 t.segment × Unit {0}))))))
    → SmallToken t
small_token t g =
    record {
      line = g.0.fits;
      column = g.1.0.fits;
      source_line = g.1.1.0.fits;
      src_column = g.1.1.1.0.fits;
      source = g.1.1.1.1.0.fits;
      name = g.1.1.1.1.1.0.fits;
    }

pub small_state : (p : TokenChunk)
    → Fits w32 p.start × (Fits w32 p.end × (Fits w32 p.prev_dst_line × (Fits w32 p.prev_dst_col × (Fits w32 p.prev_src_line × (Fits w32 p.prev_src_col × (Fits w32 p.prev_name_id × (Fits w32 p.prev_source_id × Unit {0})))))))
    → SmallState p
small_state p g =
    record {
      line = g.1.1.0.fits;
      column = g.1.1.1.0.fits;
      source_line = g.1.1.1.1.0.fits;
      src_column = g.1.1.1.1.1.0.fits;
      name = g.1.1.1.1.1.1.0.fits;
      source = g.1.1.1.1.1.1.1.0.fits;
    }

abbrev Small : ℕ → Type 0
Small n = n < 2 ^ 32

module _ (p : TokenChunk) (t : Token) (sp : SmallState p) (st : SmallToken t) where
  pub base_small : base_of p t < 2 ^ 32
  unfolding base_of
  base_small = pick_ind Small (eqb p.prev_dst_line t.dst_line) (λ _. sp.column) (λ _. omega arith)

  pub after_small : SmallState (after p t)
  unfolding after
  after_small =
      record {
        line = st.line;
        column = st.column;
        source_line = pick_ind Small (is_none t.source_id) (λ _. sp.source_line) (λ _. st.source_line);
        src_column = pick_ind Small (is_none t.source_id) (λ _. sp.src_column) (λ _. st.src_column);
        name =
            pick_ind Small (is_none t.source_id) (λ _. sp.name)
            (λ _. pick_ind Small (is_none t.name_id) (λ _. sp.name) (λ _. st.name));
        source = pick_ind Small (is_none t.source_id) (λ _. sp.source) (λ _. st.source);
      }
