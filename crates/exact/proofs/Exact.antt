-- Where the decode that names no mode takes a text, no value and no sum lost a bit. Assumes nothing.
use Rattle.std.specs.Prelude.{Some, None, Ok}
use mathlib.Core.Path.{◌≡◌, refl, ◌∙◌, ap, subst}
use mathlib.Core.List.{List, ◌∷◌}
use Prim.Native.Nat.{ℕ, ◌+◌, ◌-◌, ◌<◌}
use native.Mathlib.Omega.{arith}
use lib.ListN.{length, drop}
use lib.Seq.{drop-drop}
use Rattle.token.specs.Table.{no_segment, with_segment, places}
use Rattle.token.specs.declared.Token.{Token}
use Rattle.apply.specs.declared.State.{State}
use Rattle.step.specs.Step.{start, step_at, Step}
use Rattle.decode.specs.declared.Decoded.{Decoded}
use Rattle.decode.specs.Mapping.{Out, run, decoded, Decodes}
use Rattle.decode.proofs.Runs.{run_by}
use Rattle.decode.proofs.Where.{located}
use Rattle.exact.specs.Text as text
use Rattle.exact.specs.Exact.{mode, Exact, NothingLost}
use Rattle.exact.proofs.Sums.{other, Tracks}
use Rattle.exact.proofs.Steps.{Ahead, Both, Goes, goes}

module _ (sources names : ℕ) (bytes : List ℕ) where
  -- where the rest of a text is taken
  abbrev Read : State → Out → Type 0
  Read s o = o.end ≡ Ok tt → Both s (drop s.at bytes) o.tokens

  -- what stands behind a token stands at its state's place
  there : (s s' : State) (t : Token) (begin : ℕ) (o : Out) → begin < no_segment → Goes sources names s (drop s.at bytes) (Ok (Some (t, begin, s'))) → Read s' o
      → o.end ≡ Ok tt → Both s (drop s.at bytes) (with_segment t begin ∷ o.tokens)
  there s s' t begin o l g h e =
      let n : s.at + (s'.at - s.at) ≡ s'.at = omega (arith, g.0) in
      let d : drop (s'.at - s.at) (drop s.at bytes) ≡ drop s'.at bytes = drop-drop (s'.at - s.at) s.at bytes ∙ ap (λ (k : ℕ). drop k bytes) n in
      g.1.1 o.tokens (omega arith) (rw d ((h e).1 (rw d at g.1.0)))

  -- its step goes where the parts of the text go
  goes_at : (s : State) (r : Step) → step_at mode sources names bytes s ≡ r → Goes sources names s (drop s.at bytes) r
  goes_at s r e = subst (Goes sources names s (drop s.at bytes)) e (goes sources names s (drop s.at bytes))

  reads : (index left : ℕ) (s : State) → Read s (run mode sources names bytes index left s)
  reads =
      run_by mode sources names bytes (λ index left s o. Read s o)
      (λ index left s e. λ q. goes_at s (Ok None) e)
      (λ index left s code offset e. λ q. other cc)
      (λ index left s t begin s' e l. λ q. other cc)
      (λ index s t begin s' e l. λ q. other cc)
      (λ index left s t begin s' o e l h. there s s' t begin o l (goes_at s (Ok (Some (t, begin, s'))) e) h)

-- all numbers start at 0
at_start : Tracks start text.begun
at_start = record { line = refl; few = omega arith; column = refl; source_line = refl; src_column = refl; source = refl; name = refl }

taken : (sources names : ℕ) (bytes table : List ℕ) (r : Decoded) (table' : List ℕ) → Decodes mode sources names bytes table r table'
    → r.end ≡ Ok tt → Exact bytes table r.tokens table'
taken sources names bytes table r table' d e =
    let o : Out = decoded mode sources names bytes (places (length table)) in
    let h : Ahead start bytes o.tokens = (reads sources names bytes 0 (places (length table)) start (rw d.says at e)).0 in
    record {
      tokens = o.tokens;
      counted = ap (λ (x : Decoded). x.tokens) d.says;
      wrote = d.wrote;
      parts = record { first = h.first; parts = h.parts };
      spelled = h.spelled;
      sums = h.sums text.begun at_start;
    }

-- what stands before a refused segment is a text that is taken
pub nothing_lost : NothingLost
nothing_lost =
    record {
      taken = taken;
      kept =
          λ sources names bytes table r table' d n.
          let f = located mode sources names bytes table r table' d n in
          (f.begin, (f.segment, (f.from, taken sources names _ table _ table' f.kept refl)));
    }
