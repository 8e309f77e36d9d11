-- The pass that writes, as laws of the definitions. Assumes nothing.
use mathlib.Core.Path.{◌≡◌, refl, sym, ◌∙◌}
use mathlib.Core.List.{List, ◌++◌}
use mathlib.Core.Option.{none, some}
use Prim.Native.Nat.{ℕ, ◌+◌, ◌≤◌, ◌<◌}
use native.Mathlib.Omega.{arith}
use native.Mathlib.Decide.{dec_le}
use native.Mathlib.Nat.{lt_of_not-le}
use lib.Dec.{eqb}
use lib.ListN.{length}
use Rattle.token.specs.Table.{token_at}
use Rattle.token.specs.declared.Token.{Token}
use Rattle.token.specs.declared.TokenChunk.{TokenChunk}
use Rattle.list.specs.Put.{Put}
use Rattle.list.proofs.Put.{Due, put_onto, due_all, due_is, due_same, due_none, due_fits, due_put}
use Rattle.chunk.specs.Chunk.{bytes_of, after, end_of}
use Rattle.encode.specs.Encode.{tokens_in, bytes_in, next_chunk}
use Rattle.encode.specs.Passes.{Inside, Writable, Writes}
use Rattle.chunk.proofs.State.{after_line}
use Rattle.chunk.proofs.Lists.{left, back, bytes, back_here, back_next, bytes_next, bytes_none, end_next, end_none}

not_back : {i : ℕ} → some i ≡ none → ⊥
not_back e = let z : ◌≡◌ {A = ℕ} 0 1 = cc in omega arith

-- from i, where the state is p, no line goes back
pub record Forward (table : List ℕ) (c p : TokenChunk) (i : ℕ) : Type 0 where
  pub inside : Inside table c
  pub before_end : i ≤ c.end
  pub forth : back table c.end i p.prev_dst_line ≡ none

module _ (table : List ℕ) (c p : TokenChunk) (i : ℕ) (f : Forward table c p i) (t : Token) (et : t ≡ token_at table i) (h : i < c.end) where
  -- the next line does not go back either
  forward_line : p.prev_dst_line ≤ t.dst_line
  forward_line =
      elim (dec_le p.prev_dst_line t.dst_line) [
        | yes b ↦ b
        | no b ↦ absurd (not_back (sym (back_here table c.end i t et h p.prev_dst_line (lt_of_not-le b)) ∙ f.forth))
      ]

  forward_next : Forward table c (after p t) (i + 1)
  forward_next =
      record {
        inside = f.inside;
        before_end = omega arith;
        forth = rw (after_line p t) (sym (back_next table c.end i t et h p.prev_dst_line forward_line) ∙ f.forth);
      }

-- the bytes from i on are due
pub record Writing (table : List ℕ) (c : TokenChunk) (out₀ out : List ℕ) (p : TokenChunk) (i at : ℕ) : Type 0 where
  pub forward : Forward table c p i
  pub due : Due out₀ 0 (bytes_in table c) (bytes table c.end i p) at out
  pub ends : end_of c (tokens_in table c) ≡ end_of p (left table c.end i)

pub writing : (table : List ℕ) (c : TokenChunk) (out₀ : List ℕ) → Writable table c out₀ → Writing table c out₀ out₀ c c.start 0
writing table c out₀ w =
    record {
      forward = record { inside = w.inside; before_end = w.inside.order; forth = w.forth };
      due = due_all out₀ 0 (bytes_in table c) (omega (arith, w.room));
      ends = refl;
    }

module _ (table : List ℕ) (c : TokenChunk) (out₀ out : List ℕ) (p : TokenChunk) (i at : ℕ) (f : Writing table c out₀ out p i at) where
  pub written_long : length out ≡ length out₀
  written_long = due_same out₀ 0 (bytes_in table c) (bytes table c.end i p) at out f.due

  -- next is the end state as the code has it
  pub written_all : c.end ≤ i → (next : TokenChunk) → next ≡ next_chunk c.end p
      → Writes table c out₀ (record { bytes = at; next = next }) out
  written_all h next e =
      let q = put_onto out₀ (bytes_in table c) at out (due_none out₀ 0 (bytes_in table c) (bytes table c.end i p) at out f.due (bytes_none table c.end i h p)) in
      let z : end_of c (tokens_in table c) ≡ p = f.ends ∙ end_none table c.end i h p in
      record { says = rw (e, q.0, z); wrote = q.1 }

  module _ (t : Token) (et : t ≡ token_at table i) (h : i < c.end) where
    due : Due out₀ 0 (bytes_in table c) (bytes_of (eqb i 0) p t ++ bytes table c.end (i + 1) (after p t)) at out
    due = due_is out₀ 0 (bytes_in table c) (bytes table c.end i p) (bytes_of (eqb i 0) p t ++ bytes table c.end (i + 1) (after p t)) at out (bytes_next table c.end i t et h p) f.due

    pub write_line : p.prev_dst_line ≤ t.dst_line
    write_line = forward_line table c p i f.forward t et h

    pub write_fits : at + length (bytes_of (eqb i 0) p t) ≤ length out
    write_fits = due_fits out₀ 0 (bytes_in table c) (bytes_of (eqb i 0) p t) (bytes table c.end (i + 1) (after p t)) at out due

    pub write_next : (r : ℕ) (out' : List ℕ) → Put out at (bytes_of (eqb i 0) p t) r out' → (q : TokenChunk) → q ≡ after p t
        → Writing table c out₀ out' q (i + 1) r
    write_next r out' w q eq =
        rw eq
        (record {
          forward = forward_next table c p i f.forward t et h;
          due = due_put out₀ 0 (bytes_in table c) (bytes_of (eqb i 0) p t) (bytes table c.end (i + 1) (after p t)) at out due r out' w;
          ends = f.ends ∙ end_next table c.end i t et h p;
        })
