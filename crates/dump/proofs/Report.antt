-- What a decode gave, as the lines that are put for it. Assumes nothing.
use mathlib.Core.Path.{◌≡◌, ap}
use mathlib.Core.List.{List, ◌++◌}
use Prim.Native.Nat.{ℕ, ◌+◌, ◌*◌, ◌≤◌}
use native.Mathlib.Omega.{arith}
use lib.ListN.{length, drop, length-append}
use Rattle.list.specs.Memory.{onto}
use Rattle.list.proofs.Put.{put_then, put_long}
use Rattle.token.specs.Table.{places, tokens_from, flat, over}
use Rattle.token.specs.declared.Token.{Token}
use Rattle.token.proofs.Laws.{tokens_flat}
use Rattle.value.specs.declared.Mode.{Mode}
use Rattle.decode.specs.Mapping.{Out, decoded, answer, Decodes}
use Rattle.decode.specs.declared.Decoded.{Decoded}
use Rattle.lines.specs.Lines.{token_lines, count_line, end_line}
use Rattle.lines.specs.Parts.{PutMost}
use Rattle.dump.specs.Rendered.{report}
use Rattle.dump.proofs.Room.{written_fit, same_room}

-- the tokens written over a table are its first ones
tokens_over : (ts : List Token) (xs : List ℕ) → tokens_from (over ts xs) 0 (length ts) ≡ ts
unfolding onto
tokens_over ts xs = tokens_flat ts (drop (length (flat ts)) xs)

-- the parts of a report, put one after the other
module _ (o : Out) (out : List ℕ) (i : ℕ) (out₁ : List ℕ) (p : PutMost 28 out 0 (count_line (length o.tokens)) i out₁)
    (few : length o.tokens ≤ 1024) (room : 67682 ≤ length out) where
  long₁ : length out₁ ≡ length out
  long₁ = put_long out 0 (count_line (length o.tokens)) i out₁ p.put (omega (arith, p.few))

  tokens_room : i + 66 * length o.tokens ≤ length out₁
  tokens_room = omega (arith, long₁, p.put.past, p.few)

  module _ (j : ℕ) (out₂ : List ℕ) (q : PutMost (66 * length o.tokens) out₁ i (token_lines o.tokens) j out₂) where
    long₂ : length out₂ ≡ length out₁
    long₂ = put_long out₁ i (token_lines o.tokens) j out₂ q.put (omega (arith, tokens_room, q.few))

    end_room : j + 70 ≤ length out₂
    end_room = omega (arith, long₁, long₂, p.put.past, p.few, q.put.past, q.few)

    report_put : (r : ℕ) (out' : List ℕ) → PutMost 70 out₂ j (end_line o.end o.offset) r out' → PutMost 67682 out 0 (report o) r out'
    unfolding report
    report_put r out' e =
        let a : List ℕ = count_line (length o.tokens) in
        let b : List ℕ = token_lines o.tokens in
        let c : List ℕ = end_line o.end o.offset in
        let l : length (b ++ c) ≡ length b + length c = length-append b c in
        record {
          put =
              put_then out 0 a (b ++ c) i out₁ r out' p.put
              (put_then out₁ i b c j out₂ r out' q.put e.put (omega (arith, long₁, p.put.past, p.few, q.few, e.few)))
              (omega (arith, l, p.few, q.few, e.few));
          few = omega (arith, length-append a (b ++ c), l, p.few, q.few, e.few);
        }

-- the same, of what a decode into a table of 1,024 places gave; d is its answer, and table' the table then
module _ (sources names : ℕ) (text table : List ℕ) (wide : places (length table) ≡ 1024) (d : Decoded) (table' : List ℕ)
    (e : Decodes Mode.Lenient sources names text table d table') where
  abbrev o : Out
  o = decoded Mode.Lenient sources names text 1024

  is : d ≡ answer o
  is = rw wide at e.says

  count_is : d.tokens ≡ length o.tokens
  count_is = ap (λ (q : Decoded). q.tokens) is

  tokens_are : tokens_from table' 0 d.tokens ≡ o.tokens
  tokens_are =
      let w : table' ≡ over o.tokens table = rw wide at e.wrote in
      rw (w, count_is) (tokens_over o.tokens table)

  few : length o.tokens ≤ 1024
  few = omega (arith, count_is, written_fit Mode.Lenient sources names text table d table' e, same_room Mode.Lenient sources names text table d table' e)

  module _ (out : List ℕ) (room : 67682 ≤ length out) (i : ℕ) (out₁ : List ℕ) (p : PutMost 28 out 0 (count_line d.tokens) i out₁) where
    p' : PutMost 28 out 0 (count_line (length o.tokens)) i out₁
    p' = rw count_is at p

    pub tokens_fit : i + 66 * d.tokens ≤ length out₁
    tokens_fit = rw count_is (tokens_room o out i out₁ p' few room)

    module _ (j : ℕ) (out₂ : List ℕ) (q : PutMost (66 * d.tokens) out₁ i (token_lines (tokens_from table' 0 d.tokens)) j out₂) where
      q' : PutMost (66 * length o.tokens) out₁ i (token_lines o.tokens) j out₂
      q' = rw (tokens_are, count_is) at q

      pub end_fits : j + 70 ≤ length out₂
      end_fits = end_room o out i out₁ p' few room j out₂ q'

      pub reported : (r : ℕ) (out' : List ℕ) → PutMost 70 out₂ j (end_line d.end d.offset) r out' → PutMost 67682 out 0 (report o) r out'
      reported r out' f = report_put o out i out₁ p' few room j out₂ q' r out' (rw is at f)
