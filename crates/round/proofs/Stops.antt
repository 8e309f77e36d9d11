-- The text of tokens of which checked mode does not take a value is refused at the first such token. Assumes nothing.
use Rattle.std.specs.Prelude.{Err}
use mathlib.Core.Path.{◌≡◌, refl, sym, ◌∙◌, ap, subst}
use mathlib.Core.Bool.{Bool, true, false}
use mathlib.Core.List.{List, [], ◌∷◌}
use Prim.Native.Nat.{ℕ, zero, suc, ◌+◌, ◌≤◌}
use native.Mathlib.Omega.{arith}
use native.Mathlib.Nat.{not-suc-le-zero, add-zero}
use lib.Dec.{eqb}
use lib.ListN.{length, drop, length-append}
use Rattle.list.specs.Pick.{both}
use Rattle.code.specs.declared.Code.{Code}
use Rattle.token.specs.Table.{with_segment, flat}
use Rattle.token.specs.declared.Token.{Token}
use Rattle.token.specs.declared.TokenChunk.{TokenChunk}
use Rattle.value.specs.declared.Mode.{Mode}
use Rattle.step.specs.Step.{offset_of, step_from}
use Rattle.decode.specs.Mapping.{Out, token_then, run}
use Rattle.chunk.specs.Chunk.{fields_of, bytes_of, after, written, end_of}
use Rattle.premises.specs.Premises.{fits32}
use Rattle.checked_premises.specs.Checked.{takes_each, takes_from}
use Rattle.decode.proofs.Runs.{run_refused}
use Rattle.decode.proofs.Where.{Passed}
use Rattle.round.specs.Terms.{Early, first_off, Stopped, bytes_before}
use Rattle.round.proofs.Fields.{begins_at}
use Rattle.round.proofs.Judged.{off_less}
use Rattle.round.proofs.Facts.{Fits, Held, held_after, After, Meets, meets_after}
use Rattle.round.proofs.Taken.{state_of, readable, stops}
use Rattle.round.proofs.Run.{step_bytes, ends_next, fits_after, begin_of, placed, rest_on, passed_on, run_on}

-- the outcome of decoding tokens after a state
pub record Outcome (i at : ℕ) (p : TokenChunk) (ts : List Token) (o : Out) : Type 0 where
  pub before : List Token
  pub t : Token
  pub first : Stopped p ts before t
  pub code : o.end ≡ Err (Code.WideValue (first_off (fields_of (end_of p before) t)))
  pub tokens : o.tokens ≡ placed i at p before
  pub offset : o.offset ≡ at + bytes_before i p before t

-- a token that is taken, before it
later : (i at : ℕ) (p : TokenChunk) (t : Token) (ts : List Token) (o : Out) → takes_each Mode.Checked (fields_of p t) ≡ true
    → Outcome (i + 1) (at + length (bytes_of (eqb i 0) p t)) (after p t) ts o → Outcome i at p (t ∷ ts) (token_then (with_segment t (begin_of i at p t)) o)
unfolding takes_from end_of written placed
later i at p t ts o k r =
    let n : i + length (t ∷ r.before) ≡ i + 1 + length r.before = omega arith in
    record {
      before = t ∷ r.before;
      t = r.t;
      first =
          record {
            rest = r.first.rest;
            split = ap (λ (l : List Token). t ∷ l) r.first.split;
            taken = rw k r.first.taken;
            off = r.first.off;
          };
      code = r.code;
      tokens = ap (λ (l : List Token). with_segment t (begin_of i at p t) ∷ l) r.tokens;
      offset = rw (n, length-append (bytes_of (eqb i 0) p t) (written (i + 1) (after p t) r.before)) (r.offset ∙ omega arith);
    }

module _ (sources names : ℕ) where
  pub run_stops : (ts : List Token) (text : List ℕ) (room i at : ℕ) (p : TokenChunk) → Held p → fits32 (flat ts) ≡ true
      → Meets sources names p ts → takes_from Mode.Checked p ts ≡ false → length ts ≤ room → drop at text ≡ written i p ts
      → Early text → Passed Mode.Checked sources names text (state_of p at)
      → Outcome i at p ts (run Mode.Checked sources names text i room (state_of p at))
  unfolding written takes_from end_of offset_of placed
  run_stops [] text room i at p h f w k l e early u = let z : ◌≡◌ {A = ℕ} 0 1 = cc in absurd (omega (arith, z))
  run_stops (t ∷ ts) text zero i at p h f w k l e early u = absurd (not-suc-le-zero l)
  run_stops (t ∷ ts) text (suc room) i at p h f w k l e early u =
      by (takes_each Mode.Checked (fields_of p t)) refl k
      (λ c q. run_stops ts text room (i + 1) (at + length b) (after p t) (held_after p t h f₁) (fits_after Mode.Checked sources names t ts f).1
      m.1 q (omega arith) (rest_on Mode.Checked sources names text i at p t ts h f w c e) early (passed_on Mode.Checked sources names text i at p t ts h f w c e early u))
    where
      b : List ℕ
      b = bytes_of (eqb i 0) p t

      f₁ : Fits t
      f₁ = (fits_after Mode.Checked sources names t ts f).0

      m : After sources names p t × Meets sources names (after p t) ts
      m = meets_after sources names p t ts w

      by : (x : Bool) → takes_each Mode.Checked (fields_of p t) ≡ x → both x (takes_from Mode.Checked (after p t) ts) ≡ false
          → (takes_each Mode.Checked (fields_of p t) ≡ true → takes_from Mode.Checked (after p t) ts ≡ false
          → Outcome (i + 1) (at + length b) (after p t) ts (run Mode.Checked sources names text (i + 1) room (state_of (after p t) (at + length b))))
          → Outcome i at p (t ∷ ts) (run Mode.Checked sources names text i (suc room) (state_of p at))
      by true q k ih =
          subst (Outcome i at p (t ∷ ts)) (sym (run_on Mode.Checked sources names text i at p t ts h f w q e early u room))
          (later i at p t ts (run Mode.Checked sources names text (i + 1) room (state_of (after p t) (at + length b))) q (ih q k))
      by false q k ih =
          subst (Outcome i at p (t ∷ ts))
          (sym
          (run_refused Mode.Checked sources names text i (suc room) (state_of p at) _ _
          (ap (step_from Mode.Checked sources names (state_of p at)) e
          ∙ step_bytes Mode.Checked sources names p t h f₁ m.0 (eqb i 0) at (written (i + 1) (after p t) ts) (ends_next Mode.Checked sources names i (after p t) ts m.1) _
          (stops sources names _ (fields_of p t) _ _ q (readable p t h f₁).1))))
          (record {
            before = [];
            t = t;
            first = record { rest = ts; split = refl; taken = refl; off = q };
            code = refl;
            tokens = refl;
            offset =
                begins_at Mode.Checked (begin_of i at p t) (begin_of i at p t) (fields_of p t) (first_off (fields_of p t)) (off_less (fields_of p t) q)
                ∙ rw (add-zero i) (omega arith);
          })
