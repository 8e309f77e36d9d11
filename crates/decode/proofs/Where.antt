-- Where a refused decode says that the fault is, and that the tokens before it are kept. Assumes nothing.
use Rattle.std.specs.Prelude.{Some, None, Ok, Err}
use mathlib.Core.Path.{◌≡◌, refl, sym, ◌∙◌, ap, subst}
use mathlib.Core.Bool.{Bool, true, false}
use mathlib.Core.List.{List, [], ◌∷◌}
use Prim.Native.Nat.{ℕ, zero, suc, ◌+◌, ◌-◌, ◌<◌, ◌≤◌}
use native.Mathlib.Omega.{arith}
use lib.Dec.{T}
use lib.ListN.{length, take, drop, get_or, length-drop}
use lib.Seq.{drop-drop, get_or-drop, length-take-le}
use Rattle.code.specs.declared.Code.{Code}
use Rattle.digits.specs.Digits.{is_delim}
use Rattle.token.specs.Table.{no_segment, with_segment, places, over}
use Rattle.token.specs.declared.Token.{Token}
use Rattle.value.specs.declared.Mode.{Mode}
use Rattle.segment.proofs.Within.{Each, Clear}
use Rattle.apply.specs.declared.State.{State}
use Rattle.step.specs.Step.{start, step_from, step_at, refused, Step}
use Rattle.step.specs.Ways.{Closes}
use Rattle.step.proofs.Ends.{closes}
use Rattle.step.proofs.Faults as step
use Rattle.step.proofs.Faults.{Lying, lying, at_begin, nothing_before, put_take}
use Rattle.decode.specs.declared.Decoded.{Decoded}
use Rattle.decode.specs.Mapping.{Out, stopped, token_then, run, decoded, answer}
use Rattle.decode.specs.Where.{Begins, Located}
use Rattle.decode.proofs.Runs.{run_done, run_put, run_by}

yes_no : {A : Type 0} → true ≡ false → A
yes_no e = absurd (subst T e tt)

-- ---- of the bytes at a place, one by one
each_one : (t : Bool) (k : ℕ) (l : List ℕ) → Each t k l → (i : ℕ) → i < k → is_delim (get_or l i 0) ≡ t
each_one t zero l h i q = absurd (omega arith)
each_one t (suc k) [] h i q = absurd h
each_one t (suc k) (b ∷ bs) h zero q = h.0
each_one t (suc k) (b ∷ bs) h (suc i) q = each_one t k bs h.1 i (omega arith)

pub clear_long : (k : ℕ) (l : List ℕ) → Clear k l → k ≤ length l
clear_long zero l h = omega arith
clear_long (suc k) [] h = absurd h
clear_long (suc k) (b ∷ bs) h = omega (arith, clear_long k bs h.1)

-- the beginning of a part is a part of the beginning
pub take_nothing : (k : ℕ) → [] ≡ take {A = ℕ} k []
take_nothing zero = refl
take_nothing (suc k) = refl

pub drop_take : (at n : ℕ) (l : List ℕ) → drop at (take n l) ≡ take (n - at) (drop at l)
drop_take zero n l = let e : n - 0 ≡ n = omega arith in rw e
drop_take (suc at) zero [] = take_nothing (0 - suc at)
drop_take (suc at) (suc n) [] = take_nothing (suc n - suc at)
drop_take (suc at) zero (b ∷ bs) = let e : 0 - suc at ≡ 0 = omega arith in rw e
drop_take (suc at) (suc n) (b ∷ bs) = let e : suc n - suc at ≡ n - at = omega arith in rw e (drop_take at n bs)

module _ (mode : Mode) (sources names : ℕ) (text : List ℕ) where
  -- a state that a decode passes: it is at the start, or a segment ends there
  abbrev pub Passed : State → Type 0
  Passed s = 0 < s.at → Closes text s

  -- ---- a fault of the bytes at the state's place, in the whole text
  module _ (s : State) (p : Passed s) (begin offset : ℕ) (f : step.Fault s.at (drop s.at text) begin offset) where
    there : drop f.skip (drop s.at text) ≡ drop begin text
    there = drop-drop f.skip s.at text ∙ ap (λ (n : ℕ). drop n text) (sym f.begin_is)

    begins_here : (begin < length text) × (is_delim (get_or text begin 0) ≡ false)
    begins_here =
        let c : Clear 1 (drop begin text) = rw there at f.opens in
        let e : get_or (drop begin text) 0 0 ≡ get_or text begin 0 = get_or-drop begin text 0 0 ∙ ap (λ (n : ℕ). get_or text n 0) (omega arith) in
        (omega (arith, clear_long 1 (drop begin text) c, length-drop begin text), rw e at (each_one false 1 (drop begin text) c 0 (omega arith)))

    delim_before : (k : ℕ) → begin ≡ k + 1 → is_delim (get_or text k 0) ≡ true
    delim_before k e = by f.skip f.delims f.begin_is
      where
        by : (j : ℕ) → Each true j (drop s.at text) → begin ≡ s.at + j → is_delim (get_or text k 0) ≡ true
        by zero d q =
            let n : begin ≡ s.at = omega (arith, q) in
            yes_no (sym (rw n (p (omega (arith, e, n)) (omega (arith, n, begins_here.0)))) ∙ begins_here.1)
        by (suc j) d q =
            let n : s.at + j ≡ k = omega (arith, q, e) in
            let g : get_or (drop s.at text) j 0 ≡ get_or text k 0 = get_or-drop s.at text j 0 ∙ ap (λ (m : ℕ). get_or text m 0) n in
            rw (← g) (each_one true (suc j) (drop s.at text) d j (omega arith))

    pub segment : Begins text begin
    segment = record { within = begins_here.0; opens = begins_here.1; behind = delim_before }

    pub past : s.at ≤ begin
    past = omega (arith, f.begin_is)

    pub clear_here : Clear (offset - begin) (drop begin text)
    clear_here = rw there at f.clear

    to : offset ≤ length text
    to = omega (arith, clear_long (offset - begin) (drop begin text) clear_here, length-drop begin text, f.from, begins_here.0)

    inside : (k : ℕ) → begin ≤ k → k < offset → is_delim (get_or text k 0) ≡ false
    inside k l h =
        let g : get_or (drop begin text) (k - begin) 0 ≡ get_or text k 0 = get_or-drop begin text (k - begin) 0 ∙ ap (λ (m : ℕ). get_or text m 0) (omega arith) in
        rw (← g) (each_one false (offset - begin) (drop begin text) clear_here (k - begin) (omega arith))

    -- before it only delimiters are left
    pub nothing : step_at mode sources names (take begin text) s ≡ Ok None
    nothing =
        let n : begin - s.at ≡ f.skip = omega (arith, f.begin_is) in
        ap (step_from mode sources names s) (drop_take s.at begin text ∙ ap (λ (k : ℕ). take k (drop s.at text)) n)
        ∙ nothing_before mode sources names f.skip s (drop s.at text) f.delims

  -- ---- a step of the text, in the beginning of it
  module _ (s : State) (t : Token) (b : ℕ) (s' : State) (e : step_at mode sources names text s ≡ Ok (Some (t, b, s'))) (cut : ℕ) (l : s'.at ≤ cut) where
    pub put_cut : (s.at < s'.at) × (step_at mode sources names (take cut text) s ≡ Ok (Some (t, b, s')))
    put_cut =
        let v = put_take mode sources names (cut - s.at) s (drop s.at text) t b s' e (omega arith) in
        (v.0, ap (step_from mode sources names s) (drop_take s.at cut text) ∙ v.1)

  pub ends_there : (index left cut : ℕ) (s : State) → cut ≤ length text → step_at mode sources names (take cut text) s ≡ Ok None
      → run mode sources names (take cut text) index left s ≡ stopped (Ok tt) cut
  ends_there index left cut s h e = run_done mode sources names (take cut text) index left s e ∙ ap (stopped (Ok tt)) (length-take-le cut text h)

  -- ---- the whole decode
  pub record Found (index left : ℕ) (s : State) (o : Out) : Type 0 where
    pub begin : ℕ
    pub segment : Begins text begin
    pub past : s.at ≤ begin
    pub from : begin ≤ o.offset
    pub to : o.offset ≤ length text
    pub inside : (k : ℕ) → begin ≤ k → k < o.offset → is_delim (get_or text k 0) ≡ false
    pub kept : run mode sources names (take begin text) index left s ≡ record { tokens = o.tokens; end = Ok tt; offset = begin }

  found_here : (index left : ℕ) (s : State) → Passed s → (code : Code) (begin offset : ℕ) → step.Fault s.at (drop s.at text) begin offset
      → Found index left s (stopped (Err code) offset)
  found_here index left s p code begin offset f =
      record {
        begin = begin;
        segment = segment s p begin offset f;
        past = past s p begin offset f;
        from = f.from;
        to = to s p begin offset f;
        inside = inside s p begin offset f;
        kept = ends_there index left begin s (omega (arith, (segment s p begin offset f).within)) (nothing s p begin offset f);
      }

  found_later : (index left : ℕ) (s : State) (t : Token) (b : ℕ) (s' : State) (o : Out) → step_at mode sources names text s ≡ Ok (Some (t, b, s'))
      → b < no_segment → Found (index + 1) left s' o → Found index (suc left) s (token_then (with_segment t b) o)
  found_later index left s t b s' o e l f =
      let q = put_cut s t b s' e f.begin f.past in
      record {
        begin = f.begin;
        segment = f.segment;
        past = omega (arith, q.0, f.past);
        from = f.from;
        to = f.to;
        inside = f.inside;
        kept = run_put mode sources names (take f.begin text) index s t b s' q.1 left l ∙ ap (token_then (with_segment t b)) f.kept;
      }

  -- where the step lies
  lies : (s : State) (r : Step) → step_at mode sources names text s ≡ r → Lying mode sources names s (drop s.at text) r
  lies s r e = subst (Lying mode sources names s (drop s.at text)) e (lying mode sources names s (drop s.at text))

  pub lies_put : (s : State) (t : Token) (begin : ℕ) (s' : State) → step_at mode sources names text s ≡ Ok (Some (t, begin, s'))
      → step.Fault s.at (drop s.at text) begin s'.at
  lies_put s t begin s' e = lies s (Ok (Some (t, begin, s'))) e

  -- a token for which there is no place, or whose segment begins too late
  found_begin : (index left : ℕ) (s : State) (code : Code) (t : Token) (begin : ℕ) (s' : State) → step_at mode sources names text s ≡ Ok (Some (t, begin, s'))
      → Passed s → Found index left s (stopped (Err code) begin)
  found_begin index left s code t begin s' e p =
      found_here index left s p code begin begin (at_begin s.at (drop s.at text) begin s'.at (lies_put s t begin s' e))

  abbrev Finds : ℕ → ℕ → State → Out → Type 0
  Finds index left s o = Passed s → (o.end ≡ Ok tt → ⊥) → Found index left s o

  found : (index left : ℕ) (s : State) → Finds index left s (run mode sources names text index left s)
  found =
      run_by mode sources names text Finds
      (λ index left s e p n. absurd (n refl))
      (λ index left s code offset e p n. let f = lies s (Err (refused code offset)) e in found_here index left s p code f.0 offset f.1)
      (λ index left s t begin s' e l p n. found_begin index left s (Code.TooBig index) t begin s' e p)
      (λ index s t begin s' e l p n. found_begin index 0 s Code.TableFull t begin s' e p)
      (λ index left s t begin s' o e l h p n. found_later index left s t begin s' o e l (h (λ _. closes mode sources names text s t begin s' (sym e)) n))

pub located : Located
located mode sources names text table r table' d n =
    let o : Out = decoded mode sources names text (places (length table)) in
    let f : Found mode sources names text 0 (places (length table)) start o =
    found mode sources names text 0 (places (length table)) start (λ h. absurd (omega arith)) (λ e. n (rw d.says e)) in
    record {
      begin = f.begin;
      segment = f.segment;
      from = rw d.says f.from;
      to = rw d.says f.to;
      inside = λ k l h. f.inside k l (rw d.says at h);
      kept =
          record {
            says = ap (λ (x : Decoded). record { end = Ok tt; tokens = x.tokens; offset = f.begin }) d.says ∙ sym (ap answer f.kept);
            wrote = d.wrote ∙ sym (ap (λ (x : Out). over x.tokens table) f.kept);
          };
    }
