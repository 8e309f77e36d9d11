-- The bytes at a token's seventh number, up to the next delimiter or the end, gave the token. Assumes nothing.
use Rattle.std.specs.Prelude.{Some, Ok}
use mathlib.Core.Path.{◌≡◌, refl, sym, ◌∙◌, ap, subst}
use mathlib.Core.Bool.{Bool, true, false}
use mathlib.Core.List.{List, [], ◌∷◌, ◌++◌}
use Prim.Native.Nat.{ℕ, zero, suc, ◌+◌, ◌-◌, ◌<◌, ◌≤◌}
use native.Mathlib.Omega.{arith}
use lib.ListN.{length, take, drop, get_or, length-drop}
use lib.Seq.{drop-cons, drop-drop}
use Rattle.list.specs.Pick.{pick}
use Rattle.list.specs.Memory.{onto}
use Rattle.digits.specs.Digits.{is_delim}
use Rattle.token.specs.Table.{no_segment, with_segment, places, token_at, tokens_from, flat, over}
use Rattle.token.specs.declared.Token.{Token}
use Rattle.token.proofs.Laws.{length_tokens, tokens_add, tokens_step, tokens_flat}
use Rattle.value.specs.declared.Mode.{Mode}
use Rattle.segment.proofs.Border.{Border}
use Rattle.segment.proofs.Within.{Clear}
use Rattle.apply.specs.declared.State.{State}
use Rattle.step.specs.Step.{start, step_from, step_at}
use Rattle.step.proofs.Ends.{closes}
use Rattle.step.proofs.Faults as step
use Rattle.decode.specs.declared.Decoded.{Decoded}
use Rattle.decode.specs.Mapping.{Out, token_then, run, decoded, answer, Decodes}
use Rattle.decode.specs.Where.{Begins}
use Rattle.decode.specs.Behind.{piece, done, Gave, SegmentBehind}
use Rattle.decode.proofs.Runs.{run_put, run_by}
use Rattle.decode.proofs.Where.{take_nothing, drop_take, clear_long, Passed, segment, past, clear_here, nothing, put_cut, ends_there, lies_put}

-- ---- the piece at a place
-- without a delimiter up to a border
piece_long : (k : ℕ) (l : List ℕ) → Clear k l → Border (drop k l) → length (piece l) ≡ k
unfolding piece
piece_long zero [] c b = refl
piece_long zero (x ∷ xs) c b = rw b
piece_long (suc k) [] c b = absurd c
piece_long (suc k) (x ∷ xs) c b = rw c.0 (ap suc (piece_long k xs c.1 b))

piece_front : (l : List ℕ) → piece l ≡ take (length (piece l)) l
unfolding piece
piece_front [] = refl
piece_front (x ∷ xs) = by (is_delim x) (piece_front xs)
  where
    by : (t : Bool) → piece xs ≡ take (length (piece xs)) xs → pick t [] (x ∷ piece xs) ≡ take (length (pick t [] (x ∷ piece xs))) (x ∷ xs)
    by true e = refl
    by false e = ap (λ (r : List ℕ). x ∷ r) e

take_more : (n k : ℕ) (l : List ℕ) → take n l ++ take k (drop n l) ≡ take (n + k) l
take_more zero k l = let e : 0 + k ≡ k = omega arith in rw e
take_more (suc n) k [] = let e : suc n + k ≡ suc (n + k) = omega arith in rw e (sym (take_nothing k))
take_more (suc n) k (x ∷ xs) = let e : suc n + k ≡ suc (n + k) = omega arith in rw e (ap (λ (r : List ℕ). x ∷ r) (take_more n k xs))

with_piece : (n : ℕ) (l : List ℕ) → take n l ++ piece (drop n l) ≡ take (n + length (piece (drop n l))) l
with_piece n l = ap (λ (r : List ℕ). take n l ++ r) (piece_front (drop n l)) ∙ take_more n (length (piece (drop n l))) l

border_at : (text : List ℕ) (n : ℕ) → (n < length text → is_delim (get_or text n 0) ≡ true) → n ≤ length text → Border (drop n text)
border_at text n h l = by (drop n text) refl
  where
    by : (r : List ℕ) → drop n text ≡ r → Border r
    by [] e = tt
    by (x ∷ xs) e =
        let m : n < length text = omega (arith, length-drop n text, ap length e) in
        let q : get_or text n 0 ≡ x = ap (λ (r : List ℕ). get_or r 0 0) (sym (drop-cons text n 0 m) ∙ e) in
        rw (← q) (h m)

module _ (mode : Mode) (sources names : ℕ) (text : List ℕ) where
  -- ---- a step's segment
  module _ (s : State) (p : Passed mode sources names text s) (t : Token) (begin : ℕ) (s' : State)
      (e : step_at mode sources names text s ≡ Ok (Some (t, begin, s'))) where
    lies : step.Fault s.at (drop s.at text) begin s'.at
    lies = lies_put mode sources names text s t begin s' e

    within : s'.at ≤ length text
    within =
        omega (
          arith,
          clear_long (s'.at - begin) (drop begin text) (clear_here mode sources names text s p begin s'.at lies),
          length-drop begin text,
          (segment mode sources names text s p begin s'.at lies).within,
          lies.from,
        )

    ends_at : s'.at ≡ begin + length (piece (drop begin text))
    ends_at =
        let b : Border (drop s'.at text) = border_at text s'.at (closes mode sources names text s t begin s' (sym e)) within in
        let n : begin + (s'.at - begin) ≡ s'.at = omega (arith, lies.from) in
        let q = piece_long (s'.at - begin) (drop begin text) (clear_here mode sources names text s p begin s'.at lies) in
        omega (arith, lies.from, q (rw (drop-drop (s'.at - begin) begin text, n) b))

  -- ---- a token of a run, and those before it
  pub record Got (index left : ℕ) (s : State) (before : List Token) (t : Token) : Type 0 where
    pub begins : Begins text t.segment
    pub past : s.at ≤ t.segment
    pub end : ℕ
    pub end_is : end ≡ t.segment + length (piece (drop t.segment text))
    pub without : run mode sources names (take t.segment text) index left s ≡ record { tokens = before; end = Ok tt; offset = t.segment }
    pub with : run mode sources names (take end text) index left s ≡ record { tokens = before ++ (t ∷ []); end = Ok tt; offset = end }

  -- the first
  got_here : (index left : ℕ) (s : State) → Passed mode sources names text s → (t : Token) (begin : ℕ) (s' : State)
      → step_at mode sources names text s ≡ Ok (Some (t, begin, s')) → begin < no_segment → Got index (suc left) s [] (with_segment t begin)
  unfolding step_from
  got_here index left s p t begin s' e l =
      let f = lies s p t begin s' e in
      let b = segment mode sources names text s p begin s'.at f in
      let c = put_cut mode sources names text s t begin s' e s'.at (omega arith) in
      let m : s'.at - s'.at ≡ 0 = omega arith in
      let z : drop s'.at (take s'.at text) ≡ [] = drop_take s'.at s'.at text ∙ rw m in
      record {
        begins = b;
        past = past mode sources names text s p begin s'.at f;
        end = s'.at;
        end_is = ends_at s p t begin s' e;
        without = ends_there mode sources names text index (suc left) begin s (omega (arith, b.within)) (nothing mode sources names text s p begin s'.at f);
        with =
            run_put mode sources names (take s'.at text) index s t begin s' c.1 left l
            ∙ ap (token_then (with_segment t begin))
            (ends_there mode sources names text (index + 1) left s'.at s' (within s p t begin s' e) (ap (step_from mode sources names s') z));
      }

  -- one behind the first
  got_later : (index left : ℕ) (s : State) (t₀ : Token) (begin : ℕ) (s' : State) → step_at mode sources names text s ≡ Ok (Some (t₀, begin, s')) → begin < no_segment
      → (before : List Token) (t : Token) → Got (index + 1) left s' before t → Got index (suc left) s (with_segment t₀ begin ∷ before) t
  got_later index left s t₀ begin s' e l before t g =
      let c = put_cut mode sources names text s t₀ begin s' e t.segment g.past in
      let d = put_cut mode sources names text s t₀ begin s' e g.end (omega (arith, g.past, g.end_is)) in
      record {
        begins = g.begins;
        past = omega (arith, c.0, g.past);
        end = g.end;
        end_is = g.end_is;
        without = run_put mode sources names (take t.segment text) index s t₀ begin s' c.1 left l ∙ ap (token_then (with_segment t₀ begin)) g.without;
        with = run_put mode sources names (take g.end text) index s t₀ begin s' d.1 left l ∙ ap (token_then (with_segment t₀ begin)) g.with;
      }

  -- any
  abbrev Gets : ℕ → ℕ → State → Out → Type 0
  Gets index left s o =
      Passed mode sources names text s → (before : List Token) (t : Token) (rest : List Token) → o.tokens ≡ before ++ (t ∷ rest) → Got index left s before t

  none : {A : Type 0} (before : List Token) (t : Token) (rest : List Token) → [] ≡ before ++ (t ∷ rest) → A
  none [] t rest e = let z : ◌≡◌ {A = ℕ} 0 1 = cc in absurd (omega arith)
  none (u ∷ before) t rest e = let z : ◌≡◌ {A = ℕ} 0 1 = cc in absurd (omega arith)

  got_put : (index left : ℕ) (s : State) (u : Token) (begin : ℕ) (s' : State) (o : Out) → step_at mode sources names text s ≡ Ok (Some (u, begin, s'))
      → begin < no_segment → Gets (index + 1) left s' o → Gets index (suc left) s (token_then (with_segment u begin) o)
  got_put index left s u begin s' o e l h p [] t rest q =
      let x : with_segment u begin ≡ t = cc in
      subst (Got index (suc left) s []) x (got_here index left s p u begin s' e l)
  got_put index left s u begin s' o e l h p (v ∷ before) t rest q =
      let x : with_segment u begin ≡ v = cc in
      let y : o.tokens ≡ before ++ (t ∷ rest) = cc in
      subst (λ (z : Token). Got index (suc left) s (z ∷ before) t) x
      (got_later index left s u begin s' e l before t (h (λ _. closes mode sources names text s u begin s' (sym e)) before t rest y))

  got : (index left : ℕ) (s : State) → Gets index left s (run mode sources names text index left s)
  got =
      run_by mode sources names text Gets
      (λ index left s e p before t₁ rest q. none before t₁ rest q)
      (λ index left s code offset e p before t₁ rest q. none before t₁ rest q)
      (λ index left s t begin s' e l p before t₁ rest q. none before t₁ rest q)
      (λ index s t begin s' e l p before t₁ rest q. none before t₁ rest q)
      got_put

-- ---- the table
one : (xs : List ℕ) (i : ℕ) → tokens_from xs 0 i ++ (token_at xs i ∷ []) ≡ tokens_from xs 0 (i + 1)
unfolding tokens_from
one xs i = let n : 0 + i ≡ i = omega arith in sym (tokens_add xs 0 i 1 ∙ rw n)

-- the tokens that stand in a table, before the i-th, it, and behind it
parted : (ts : List Token) (table : List ℕ) (i : ℕ) → i < length ts
    → ts ≡ tokens_from (over ts table) 0 i ++ (token_at (over ts table) i ∷ tokens_from (over ts table) (i + 1) (length ts - (i + 1)))
unfolding onto
parted ts table i l =
    let n : length ts ≡ i + (length ts - i) = omega arith in
    let z : 0 + i ≡ i = omega arith in
    let xs : List ℕ = over ts table in
    sym (tokens_flat ts (drop (length (flat ts)) table))
    ∙ ap (tokens_from xs 0) n
    ∙ tokens_add xs 0 i (length ts - i)
    ∙ rw z (ap (λ (q : List Token). tokens_from xs 0 i ++ q) (tokens_step xs i (length ts) (token_at xs i) refl l))

-- a text that is done with these tokens
gives : (mode : Mode) (sources names : ℕ) (text table : List ℕ) (ts us : List Token) (k n offset : ℕ)
    → decoded mode sources names text (places (length table)) ≡ record { tokens = ts; end = Ok tt; offset = offset } → ts ≡ us → length us ≡ k → offset ≡ n
    → Decodes mode sources names text table (done k n) (over us table)
gives mode sources names text table ts us k n offset e eu ek en =
    record {
      says = sym (ap answer e ∙ rw (eu, ek, en));
      wrote = sym (ap (λ (o : Out). over o.tokens table) e ∙ rw eu);
    }

in_table : (mode : Mode) (sources names : ℕ) (text table : List ℕ) (i : ℕ) → i < length (decoded mode sources names text (places (length table))).tokens
    → (xs : List ℕ) → xs ≡ over (decoded mode sources names text (places (length table))).tokens table
    → Gave mode sources names text table xs i (token_at xs i).segment
in_table mode sources names text table i l xs w =
    let ts : List Token = (decoded mode sources names text (places (length table))).tokens in
    let g = got mode sources names text 0 (places (length table)) start (λ z. absurd (omega arith)) (tokens_from xs 0 i) (token_at xs i)
    (tokens_from xs (i + 1) (length ts - (i + 1))) (rw w (parted ts table i l)) in
    let x : take g.end text ≡ take (token_at xs i).segment text ++ piece (drop (token_at xs i).segment text)
    = ap (λ (k : ℕ). take k text) g.end_is ∙ sym (with_piece (token_at xs i).segment text) in
    record {
      begins = g.begins;
      without = gives mode sources names _ table _ _ i _ _ g.without refl (length_tokens xs 0 i) refl;
      with = rw (← x) (gives mode sources names _ table _ _ (i + 1) _ _ g.with (one xs i) (length_tokens xs 0 (i + 1)) g.end_is);
    }

pub behind : SegmentBehind
behind mode sources names text table r table' d i h =
    in_table mode sources names text table i (subst (λ (x : Decoded). i < x.tokens) d.says h) table' d.wrote
