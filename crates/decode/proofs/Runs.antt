-- A run, by what its step is; and where a step that gives a token lies. Assumes nothing.
use Rattle.std.specs.Prelude.{Some, None, Ok, Err}
use mathlib.Core.Path.{◌≡◌, refl, sym, ap, subst}
use mathlib.Core.Bool.{Bool, true, false}
use mathlib.Core.List.{List}
use Prim.Native.Nat.{ℕ, zero, suc, ◌+◌, ◌≤◌, ◌<◌}
use native.Mathlib.Omega.{arith}
use lib.Dec.{ltb}
use lib.ListN.{length, drop}
use borrow.Author.Tests.{lt-ltb, le-ltb, ltb-true, ltb-false}
use Rattle.code.specs.declared.Code.{Code}
use Rattle.token.specs.Table.{no_segment, with_segment}
use Rattle.token.specs.declared.Token.{Token}
use Rattle.value.specs.declared.Mode.{Mode}
use Rattle.apply.specs.declared.State.{State}
use Rattle.step.specs.Step.{step_at, refused, Step}
use Rattle.step.proofs.Faults.{Lying, lying, put_take}
use Rattle.decode.specs.Mapping.{Out, stopped, token_then, step_then, run}

module _ (mode : Mode) (sources names : ℕ) (text : List ℕ) where
  abbrev runs : ℕ → ℕ → State → Out
  runs index left s = run mode sources names text index left s

  abbrev steps : State → Step
  steps s = step_at mode sources names text s

  pub run_done : (index left : ℕ) (s : State) → steps s ≡ Ok None → runs index left s ≡ stopped (Ok tt) (length text)
  unfolding run step_then
  run_done index zero s e = rw e
  run_done index (suc left) s e = rw e

  pub run_refused : (index left : ℕ) (s : State) (code : Code) (offset : ℕ) → steps s ≡ Err (refused code offset) → runs index left s ≡ stopped (Err code) offset
  unfolding run step_then
  run_refused index zero s code offset e = rw e
  run_refused index (suc left) s code offset e = rw e

  -- with no place left, and with one more: what a token goes on with
  abbrev none : Token → State → Out
  none t s = stopped (Err Code.TableFull) t.segment

  abbrev next : ℕ → ℕ → Token → State → Out
  next index left t s = token_then t (runs (index + 1) left s)

  module _ (index : ℕ) (s : State) (t : Token) (begin : ℕ) (s' : State) (e : steps s ≡ Ok (Some (t, begin, s'))) where
    -- the token goes on if it begins early, and it is refused if not
    put_early : (go : Token → State → Out) → begin < no_segment → step_then index (length text) (steps s) go ≡ go (with_segment t begin) s'
    unfolding step_then
    put_early go l = rw (e, lt-ltb begin no_segment l)

    put_late : (go : Token → State → Out) → no_segment ≤ begin → step_then index (length text) (steps s) go ≡ stopped (Err (Code.TooBig index)) begin
    unfolding step_then
    put_late go l = rw (e, le-ltb begin no_segment l)

    pub run_late : (left : ℕ) → no_segment ≤ begin → runs index left s ≡ stopped (Err (Code.TooBig index)) begin
    unfolding run
    run_late zero l = put_late none l
    run_late (suc left) l = put_late (next index left) l

    pub run_full : begin < no_segment → runs index 0 s ≡ stopped (Err Code.TableFull) begin
    unfolding run
    run_full l = put_early none l

    pub run_put : (left : ℕ) → begin < no_segment → runs index (suc left) s ≡ token_then (with_segment t begin) (runs (index + 1) left s')
    unfolding run
    run_put left l = put_early (next index left) l

    -- its segment begins there or later, and ends later
    pub put_past : (s.at ≤ begin) × (s.at < s'.at)
    put_past =
        let f : Lying mode sources names s (drop s.at text) (Ok (Some (t, begin, s'))) = subst (Lying mode sources names s (drop s.at text)) e (lying mode sources names s (drop s.at text)) in
        (omega (arith, f.begin_is), (put_take mode sources names s'.at s (drop s.at text) t begin s' e (omega arith)).0)

  -- only the step tells states apart
  pub run_same : (index left : ℕ) (s s' : State) → steps s ≡ steps s' → runs index left s ≡ runs index left s'
  unfolding run
  run_same index zero s s' e = ap (λ (r : Step). step_then index (length text) r none) e
  run_same index (suc left) s s' e = ap (λ (r : Step). step_then index (length text) r (next index left)) e

  -- what each way of a step hands on holds of every run
  module _ (P : ℕ → ℕ → State → Out → Type 0)
      (done : (index left : ℕ) (s : State) → steps s ≡ Ok None → P index left s (stopped (Ok tt) (length text)))
      (fails : (index left : ℕ) (s : State) (code : Code) (offset : ℕ) → steps s ≡ Err (refused code offset) → P index left s (stopped (Err code) offset))
      (late : (index left : ℕ) (s : State) (t : Token) (begin : ℕ) (s' : State) → steps s ≡ Ok (Some (t, begin, s')) → no_segment ≤ begin
      → P index left s (stopped (Err (Code.TooBig index)) begin))
      (full : (index : ℕ) (s : State) (t : Token) (begin : ℕ) (s' : State) → steps s ≡ Ok (Some (t, begin, s')) → begin < no_segment
      → P index 0 s (stopped (Err Code.TableFull) begin))
      (put : (index left : ℕ) (s : State) (t : Token) (begin : ℕ) (s' : State) (o : Out) → steps s ≡ Ok (Some (t, begin, s')) → begin < no_segment
      → P (index + 1) left s' o → P index (suc left) s (token_then (with_segment t begin) o)) where
    stops : (index left : ℕ) (s : State) → ((t : Token) (begin : ℕ) (s' : State) → steps s ≡ Ok (Some (t, begin, s')) → begin < no_segment → P index left s (runs index left s))
        → P index left s (runs index left s)
    stops index left s early = by (steps s) refl
      where
        when : (t : Token) (begin : ℕ) (s' : State) → steps s ≡ Ok (Some (t, begin, s')) → (x : Bool) → ltb begin no_segment ≡ x → P index left s (runs index left s)
        when t begin s' e true l = early t begin s' e (ltb-true begin no_segment l)
        when t begin s' e false l =
            let h = ltb-false begin no_segment l in
            subst (P index left s) (sym (run_late index s t begin s' e left h)) (late index left s t begin s' e h)

        by : (r : Step) → steps s ≡ r → P index left s (runs index left s)
        by (Ok (Some (t, begin, s'))) e = when t begin s' e (ltb begin no_segment) refl
        by (Err r) e = subst (P index left s) (sym (run_refused index left s r.code r.offset e)) (fails index left s r.code r.offset e)
        by (Ok None) e = subst (P index left s) (sym (run_done index left s e)) (done index left s e)

    pub run_by : (index left : ℕ) (s : State) → P index left s (runs index left s)
    run_by index zero s = stops index zero s λ t begin s' e l. subst (P index zero s) (sym (run_full index s t begin s' e l)) (full index s t begin s' e l)
    run_by index (suc left) s =
        let next : (s' : State) → P (index + 1) left s' (runs (index + 1) left s') = run_by (index + 1) left in
        stops index (suc left) s λ t begin s' e l.
        subst (P index (suc left) s) (sym (run_put index s t begin s' e left l)) (put index left s t begin s' (runs (index + 1) left s') e l (next s'))
