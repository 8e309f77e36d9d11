-- The pass that looks at the lines and counts the bytes, as laws of the definitions. Assumes nothing.
use mathlib.Core.Path.{◌≡◌, refl, ◌∙◌, ap}
use mathlib.Core.List.{List}
use Prim.Native.Nat.{ℕ, ◌+◌, ◌-◌, ◌*◌, ◌^◌, ◌≤◌, ◌<◌}
use native.Mathlib.Omega.{arith}
use lib.Dec.{eqb}
use lib.ListN.{length}
use Rattle.token.specs.Table.{token_at}
use Rattle.token.specs.declared.Token.{Token}
use Rattle.token.specs.declared.TokenChunk.{TokenChunk}
use Rattle.chunk.specs.Chunk.{bytes_of, after}
use Rattle.encode.specs.Encode.{bytes_in}
use Rattle.code.specs.declared.Code.{Code}
use Rattle.encode.specs.Passes.{Inside, Backs, Counted}
use Rattle.chunk.proofs.State.{SmallToken, SmallState, after_small, after_line}
use Rattle.chunk.proofs.Fields.{bytes_most}
use Rattle.chunk.proofs.Lists.{back, bytes, back_here, back_next, back_none, length_next, bytes_none}

-- up to i no line goes back: p is the state there, and n bytes lead to it
pub record Measuring (table : List ℕ) (c p : TokenChunk) (i n : ℕ) : Type 0 where
  pub small : SmallState p
  pub before_end : i ≤ c.end
  pub inside : Inside table c
  pub later : c.prev_dst_line ≤ p.prev_dst_line
  pub backs : back table c.end c.start c.prev_dst_line ≡ back table c.end i p.prev_dst_line
  pub size : length (bytes_in table c) ≡ n + length (bytes table c.end i p)
  pub most : n + c.prev_dst_line + 36 * c.start ≤ p.prev_dst_line + 36 * i

pub measuring : (table : List ℕ) (c : TokenChunk) → SmallState c → Inside table c → Measuring table c c c.start 0
measuring table c s h =
    record {
      small = s;
      before_end = h.order;
      inside = h;
      later = omega arith;
      backs = refl;
      size = omega arith;
      most = omega arith;
    }

module _ (table : List ℕ) (c p : TokenChunk) (i n : ℕ) (f : Measuring table c p i n) where
  pub measured_all : c.end ≤ i → Counted table c n
  measured_all h =
      record {
        forth = f.backs ∙ back_none table c.end i h p.prev_dst_line;
        is = omega (arith, f.size, ap length (bytes_none table c.end i h p));
      }

  module _ (t : Token) (et : t ≡ token_at table i) (h : i < c.end) where
    pub measured_back : t.dst_line < p.prev_dst_line → Backs table c (Code.LineGoesBack i)
    measured_back b = record { at = i; back = f.backs ∙ back_here table c.end i t et h p.prev_dst_line b; says = refl }

    -- k is the token's size, as the code has it
    module _ (b : p.prev_dst_line ≤ t.dst_line) (st : SmallToken t) (k : ℕ) (ek : k ≡ length (bytes_of (eqb i 0) p t)) where
      few : k ≤ 36 + (t.dst_line - p.prev_dst_line)
      few = rw ek (bytes_most p t f.small st (eqb i 0))

      pub measure_next : (q : TokenChunk) → q ≡ after p t → Measuring table c q (i + 1) (n + k)
      measure_next q eq =
          rw eq
          (record {
            small = after_small p t f.small st;
            before_end = omega arith;
            inside = f.inside;
            later = rw (after_line p t) (omega (arith, f.later));
            backs = rw (after_line p t) (f.backs ∙ back_next table c.end i t et h p.prev_dst_line b);
            size = f.size ∙ omega (arith, length_next table c.end i t et h p);
            most = rw (after_line p t) (omega (arith, f.most, few));
          })

      -- every bound is a 32-bit number
      pub measure_fits : c.end < 2 ^ 32 → n + k < 2 ^ 64
      measure_fits e = omega (arith, f.most, few, st.line)
