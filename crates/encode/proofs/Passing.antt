-- The pass over the lines, as laws of the definitions. Assumes nothing.
use mathlib.Core.Path.{◌≡◌, refl, ◌∙◌, ap}
use mathlib.Core.List.{List}
use Prim.Native.Nat.{ℕ, ◌+◌, ◌-◌, ◌*◌, ◌≤◌, ◌<◌}
use native.Mathlib.Omega.{arith}
use lib.Dec.{eqb}
use lib.ListN.{length}
use Rattle.std.specs.Prelude.{Result, Ok, Err}
use Rattle.std.specs.Result.{MatchResult}
use Rattle.token.specs.Table.{token_at}
use Rattle.token.specs.declared.Token.{Token}
use Rattle.token.specs.declared.TokenChunk.{TokenChunk}
use Rattle.chunk.specs.Chunk.{bytes_of, after}
use Rattle.code.specs.declared.Code.{Code}
use Rattle.encode.specs.Passes.{Inside, Backs, Bounded, Counted, Rising}
use Rattle.chunk.proofs.State.{SmallToken, SmallState, after_line}
use Rattle.chunk.proofs.Lists.{bytes, back_here, back_none, bytes_none}
use Rattle.encode.proofs.Measure.{Measuring, measuring, measure_next}

-- the pass that counts, with a state p and a count n that the code does not have: the last line is `line`
pub record Passing (table : List ℕ) (c : TokenChunk) (line i : ℕ) : Type 0 where
  pub p : TokenChunk
  pub n : ℕ
  pub here : p.prev_dst_line ≡ line
  pub counts : Measuring table c p i n

pub passing : (table : List ℕ) (c : TokenChunk) → SmallState c → Inside table c → Passing table c c.prev_dst_line c.start
passing table c s h = record { p = c; n = 0; here = refl; counts = measuring table c s h }

module _ (table : List ℕ) (c : TokenChunk) (line i : ℕ) (f : Passing table c line i) where
  abbrev m : Measuring table c f.p i f.n
  m = f.counts

  pub passed : c.end ≤ i → Rising table c line
  passed h =
      let e : length (bytes table c.end i f.p) ≡ 0 = ap length (bytes_none table c.end i h f.p) in
      record {
        forth = m.backs ∙ back_none table c.end i h f.p.prev_dst_line;
        later = omega (arith, m.later, f.here);
        most = omega (arith, m.size, m.most, m.before_end, m.later, m.inside.order, f.here);
      }

  module _ (t : Token) (et : t ≡ token_at table i) (h : i < c.end) where
    pub goes_back : t.dst_line < line → Backs table c (Code.LineGoesBack i)
    goes_back b = record { at = i; back = m.backs ∙ back_here table c.end i t et h f.p.prev_dst_line (omega (arith, f.here)); says = refl }

    pub passes : line ≤ t.dst_line → SmallToken t → Passing table c t.dst_line (i + 1)
    passes b st =
        record {
          p = after f.p t;
          n = f.n + length (bytes_of (eqb i 0) f.p t);
          here = after_line f.p t;
          counts = measure_next table c f.p i f.n m t et h (omega (arith, f.here)) st (length (bytes_of (eqb i 0) f.p t)) refl (after f.p t) refl;
        }

-- ---- what is needed, by the one pass or the other
module _ (table : List ℕ) (c : TokenChunk) (room : ℕ) where
  -- n is the bound as the code has it
  pub needs_most : (last : ℕ) → Rising table c last → (n : ℕ) → n ≡ (c.end - c.start) * 36 + (last - c.prev_dst_line) → n ≤ room → Bounded table c room n
  needs_most last r n en h =
      record {
        forth = r.forth;
        bounds = record { enough = λ _. omega (arith, r.most); exact = λ k. absurd (omega arith) };
      }

  pub needs_exact : (r : Result ℕ Code) → MatchResult r (Counted table c) (Backs table c) → MatchResult r (Bounded table c room) (Backs table c)
  needs_exact (Err e) m = m
  needs_exact (Ok n) m = record { forth = m.forth; bounds = record { enough = λ k. omega (arith, m.is); exact = λ _. m.is } }
