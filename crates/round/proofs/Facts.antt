-- What the premises say of a token and of the state before it, in plain numbers. Assumes nothing.
use mathlib.Core.Path.{◌≡◌}
use mathlib.Core.Bool.{Bool, true, false}
use mathlib.Core.List.{List, ◌∷◌, ◌++◌}
use Prim.Native.Nat.{ℕ, ◌^◌, ◌<◌, ◌≤◌}
use native.Mathlib.Omega.{arith}
use lib.Dec.{ltb, eqb, leb}
use borrow.Author.Tests.{ltb-true, leb-true, eqb-true}
use Rattle.list.proofs.Pick.{both_true}
use Rattle.list.specs.Pick.{pick}
use Rattle.token.specs.Table.{no_id, is_none, row}
use Rattle.token.specs.declared.Token.{Token}
use Rattle.token.specs.declared.TokenChunk.{TokenChunk}
use Rattle.chunk.specs.Chunk.{base_of, after}
use Rattle.premises.specs.Premises.{id_within, follows, follow}
use Rattle.premises.specs.Premises.{fits32}

-- ---- numbers of 32 bits
pub fits_cons : (x : ℕ) (xs : List ℕ) → fits32 (x ∷ xs) ≡ true → (x < 2 ^ 32) × (fits32 xs ≡ true)
unfolding fits32
fits_cons x xs e = let r = both_true (ltb x (2 ^ 32)) (fits32 xs) e in (ltb-true x 4294967296 r.0, r.1)

pub record Fits (t : Token) : Type 0 where
  pub line : t.dst_line < 2 ^ 32
  pub col : t.dst_col < 2 ^ 32
  pub source_line : t.src_line < 2 ^ 32
  pub source_col : t.src_col < 2 ^ 32
  pub source : t.source_id < 2 ^ 32
  pub name : t.name_id < 2 ^ 32

pub fits_token : (t : Token) (xs : List ℕ) → fits32 (row t ++ xs) ≡ true → Fits t × (fits32 xs ≡ true)
fits_token t xs e =
    let a = fits_cons _ _ e in
    let b = fits_cons _ _ a.1 in
    let c = fits_cons _ _ b.1 in
    let d = fits_cons _ _ c.1 in
    let s = fits_cons _ _ d.1 in
    let n = fits_cons _ _ s.1 in
    let g = fits_cons _ _ n.1 in
    (record { line = a.0; col = b.0; source_line = c.0; source_col = d.0; source = s.0; name = n.0 }, g.1)

pub record Held (p : TokenChunk) : Type 0 where
  pub col : p.prev_dst_col < 2 ^ 32
  pub source_line : p.prev_src_line < 2 ^ 32
  pub source_col : p.prev_src_col < 2 ^ 32
  pub source : p.prev_source_id < 2 ^ 32
  pub name : p.prev_name_id < 2 ^ 32

pick_less : (b : Bool) (x y : ℕ) → x < 2 ^ 32 → y < 2 ^ 32 → pick b x y < 2 ^ 32
pick_less true x y h k = h
pick_less false x y h k = k

pub base_less : (p : TokenChunk) (t : Token) → Held p → base_of p t < 2 ^ 32
unfolding base_of
base_less p t h = pick_less (eqb p.prev_dst_line t.dst_line) p.prev_dst_col 0 h.col (omega arith)

pub held_after : (p : TokenChunk) (t : Token) → Held p → Fits t → Held (after p t)
unfolding after
held_after p t h f =
    record {
      col = f.col;
      source_line = pick_less (is_none t.source_id) p.prev_src_line t.src_line h.source_line f.source_line;
      source_col = pick_less (is_none t.source_id) p.prev_src_col t.src_col h.source_col f.source_col;
      source = pick_less (is_none t.source_id) p.prev_source_id t.source_id h.source f.source;
      name =
          pick_less (is_none t.source_id) p.prev_name_id (pick (is_none t.name_id) p.prev_name_id t.name_id) h.name
          (pick_less (is_none t.name_id) p.prev_name_id t.name_id h.name f.name);
    }

-- ---- what the premises say of a token
id_less : (count id : ℕ) → is_none id ≡ false → id_within count id ≡ true → id < count
id_less count id e w = ltb-true id count (rw e at w)

pub record Lone (source_line source_col : ℕ) (t : Token) : Type 0 where
  pub nameless : t.name_id ≡ no_id
  pub same_line : t.src_line ≡ source_line
  pub same_col : t.src_col ≡ source_col

pub record Follows (sources names line source_line source_col : ℕ) (t : Token) : Type 0 where
  pub forth : line ≤ t.dst_line
  pub sourced : is_none t.source_id ≡ false → t.source_id < sources
  pub named : is_none t.name_id ≡ false → t.name_id < names
  pub lone : is_none t.source_id ≡ true → Lone source_line source_col t

pub follows_all : (sources names line source_line source_col : ℕ) (t : Token) → follows sources names line source_line source_col t ≡ true
    → Follows sources names line source_line source_col t
unfolding follows
follows_all sources names line source_line source_col t w =
    let a = both_true (leb line t.dst_line) _ w in
    let b = both_true (id_within sources t.source_id) _ a.1 in
    let c = both_true (id_within names t.name_id) _ b.1 in
    record {
      forth = leb-true line t.dst_line a.0;
      sourced = λ e. id_less sources t.source_id e b.0;
      named = λ e. id_less names t.name_id e c.0;
      lone = λ e.
          let d = both_true (is_none t.name_id) _ (rw e at c.1) in
          let f = both_true (eqb t.src_line source_line) _ d.1 in
          record {
            nameless = eqb-true t.name_id no_id d.0;
            same_line = eqb-true t.src_line source_line f.0;
            same_col = eqb-true t.src_col source_col f.1;
          };
    }

-- a token, and a list of tokens, that may stand after the state p
abbrev pub After : ℕ → ℕ → TokenChunk → Token → Type 0
After sources names p t = Follows sources names p.prev_dst_line p.prev_src_line p.prev_src_col t

abbrev pub Meets : ℕ → ℕ → TokenChunk → List Token → Type 0
Meets sources names p ts = follow sources names p.prev_dst_line p.prev_src_line p.prev_src_col ts ≡ true

pub meets_after : (sources names : ℕ) (p : TokenChunk) (t : Token) (ts : List Token) → Meets sources names p (t ∷ ts)
    → After sources names p t × Meets sources names (after p t) ts
unfolding follow after
meets_after sources names p t ts w =
    let r = both_true (follows sources names p.prev_dst_line p.prev_src_line p.prev_src_col t) _ w in
    (follows_all sources names p.prev_dst_line p.prev_src_line p.prev_src_col t r.0, r.1)
