-- The text of a list of tokens, decoded from the state where the writer stood, gives the tokens. Assumes nothing.
use Rattle.std.specs.Prelude.{Some, Ok}
use mathlib.Core.Path.{◌≡◌, refl, sym, ◌∙◌, ap}
use mathlib.Core.Bool.{Bool, true, false}
use mathlib.Core.List.{List, [], ◌∷◌, ◌++◌, append_assoc}
use Prim.Native.Nat.{ℕ, zero, suc, ◌+◌, ◌<◌, ◌≤◌}
use native.Mathlib.Omega.{arith}
use native.Mathlib.Nat.{not-suc-le-zero}
use lib.Dec.{eqb}
use lib.ListN.{length, drop, length-append}
use lib.Seq.{drop-drop, drop-append_seam}
use borrow.Author.Tests.{ne_eqb}
use Rattle.list.specs.Pick.{pick}
use Rattle.token.specs.Table.{no_segment, with_segment, first_six, SameTokens, flat}
use Rattle.token.specs.declared.Token.{Token}
use Rattle.token.proofs.Same.{bare}
use Rattle.token.specs.declared.TokenChunk.{TokenChunk}
use Rattle.digits.specs.Digits.{is_delim}
use Rattle.value.specs.declared.Mode.{Mode}
use Rattle.segment.specs.Segment.{Field, whole, starts, fields_from, gathered}
use Rattle.apply.specs.declared.State.{State}
use Rattle.apply.specs.Apply.{applied, Applied}
use Rattle.step.specs.Step.{stepped, segment_step, step_from, step_at}
use Rattle.decode.specs.Mapping.{token_then, run}
use Rattle.decode.proofs.Runs.{run_done, run_put}
use Rattle.decode.proofs.Where.{Passed, segment, lies_put}
use Rattle.step.proofs.Ends.{closes}
use Rattle.round.specs.Terms.{Early}
use Rattle.chunk.specs.Chunk.{lead, base_of, fields_of, spelled, bytes_of, after, written}
use Rattle.premises.specs.Premises.{fits32}
use Rattle.checked_premises.specs.Checked.{takes_each, takes_from}
use Rattle.round.proofs.Value.{Head, head, head_append}
use Rattle.round.proofs.Fields.{Ends, fields_at, fields_back}
use Rattle.list.proofs.Pick.{both_true}
use Rattle.round.proofs.Facts.{Fits, fits_token, Held, held_after, After, Meets, meets_after}
use Rattle.round.proofs.Taken.{state_of, led_to, readable, taken}
use Rattle.round.proofs.Lead.{led, lead_ends}

-- ---- one segment
no_delim : (t : Bool) (b : ℕ) → eqb b 44 ≡ t → pick t true (eqb b 59) ≡ false → (eqb b 44 ≡ false) × (eqb b 59 ≡ false)
no_delim true b e d = let z : ◌≡◌ {A = Bool} true false = d in (e ∙ z, cc)
no_delim false b e d = (e, d)

segment_begins : (mode : Mode) (sources names : ℕ) (s : State) (b : ℕ) (bs : List ℕ) (fs : List Field) (next : ℕ) → is_delim b ≡ false
    → fields_from mode 0 s.at (b ∷ bs) ≡ whole fs next
    → step_from mode sources names s (b ∷ bs)
    ≡ stepped s.at (starts fs) (applied mode sources names s (gathered fs next))
unfolding step_from segment_step is_delim
segment_begins mode sources names s b bs fs next d e =
    let n = no_delim (eqb b 44) b refl d in
    rw (n.0, n.1, e)

head_fields : (p : TokenChunk) (t : Token) (rest : List ℕ) → Head (spelled (fields_of p t) ++ rest)
unfolding spelled fields_of
head_fields p t rest = head_append _ rest (head_append _ _ (head _))

-- ---- the tokens of a text that is written, with the places where their segments begin
-- where the i-th token's segment begins, if its bytes begin at `at`
abbrev pub begin_of : ℕ → ℕ → TokenChunk → Token → ℕ
begin_of i at p t = at + length (lead (eqb i 0) p.prev_dst_line t.dst_line)

unfoldable pub placed : ℕ → ℕ → TokenChunk → List Token → List Token
placed i at p [] = []
placed i at p (t ∷ ts) = with_segment t (begin_of i at p t) ∷ placed (i + 1) (at + length (bytes_of (eqb i 0) p t)) (after p t) ts

pub same_placed : (i at : ℕ) (p : TokenChunk) (ts : List Token) → SameTokens (placed i at p ts) ts
unfolding placed
same_placed i at p [] = refl
same_placed i at p (t ∷ ts) = ap (λ (r : List (List ℕ)). first_six t ∷ r) (same_placed (i + 1) (at + length (bytes_of (eqb i 0) p t)) (after p t) ts)

pub length_placed : (i at : ℕ) (p : TokenChunk) (ts : List Token) → length (placed i at p ts) ≡ length ts
unfolding placed
length_placed i at p [] = refl
length_placed i at p (t ∷ ts) = ap suc (length_placed (i + 1) (at + length (bytes_of (eqb i 0) p t)) (after p t) ts)

module _ (mode : Mode) (sources names : ℕ) where
  module _ (p : TokenChunk) (t : Token) (h : Held p) (f : Fits t) (w : After sources names p t) where
    -- the fields, wherever they stand
    step_fields : (at : ℕ) (rest : List ℕ) → Ends rest
        → step_from mode sources names (led_to p t at) (spelled (fields_of p t) ++ rest)
        ≡ stepped at (starts (fields_at mode at (fields_of p t)))
        (applied mode sources names (led_to p t at) (gathered (fields_at mode at (fields_of p t)) (at + length (spelled (fields_of p t)))))
    step_fields at rest z =
        let d = head_fields p t rest in
        let e = fields_back mode at (fields_of p t) rest (readable p t h f).0 z in
        rw d.is
        (segment_begins mode sources names (led_to p t at) d.b d.bs (fields_at mode at (fields_of p t)) (at + length (spelled (fields_of p t))) d.delim (rw d.is at e))

    step_lead : (first : Bool) (at : ℕ) (rest : List ℕ)
        → step_from mode sources names (state_of p at) (lead first p.prev_dst_line t.dst_line ++ rest)
        ≡ step_from mode sources names (led_to p t (at + length (lead first p.prev_dst_line t.dst_line))) rest
    unfolding base_of
    step_lead first at rest =
        led mode sources names p.prev_src_line p.prev_src_col p.prev_source_id p.prev_name_id first p.prev_dst_line t.dst_line
        p.prev_dst_col at rest w.forth f.line

    -- the token's bytes: a is what the fields do
    pub step_bytes : (first : Bool) (at : ℕ) (rest : List ℕ) → Ends rest → (a : Applied)
        → applied mode sources names (led_to p t (at + length (lead first p.prev_dst_line t.dst_line)))
        (gathered (fields_at mode (at + length (lead first p.prev_dst_line t.dst_line)) (fields_of p t)) (at + length (bytes_of first p t)))
        ≡ a
        → step_from mode sources names (state_of p at) (bytes_of first p t ++ rest)
        ≡ stepped (at + length (lead first p.prev_dst_line t.dst_line))
        (starts (fields_at mode (at + length (lead first p.prev_dst_line t.dst_line)) (fields_of p t))) a
    unfolding bytes_of
    step_bytes first at rest z a e =
        let l : List ℕ = lead first p.prev_dst_line t.dst_line in
        let v : List ℕ = spelled (fields_of p t) in
        let n : at + length l + length v ≡ at + length (l ++ v) = simp length-append (omega arith) in
        ap (step_from mode sources names (state_of p at)) (append_assoc l v rest)
        ∙ step_lead first at (v ++ rest)
        ∙ step_fields (at + length l) rest z
        ∙ rw (n, e)

    pub step_token : takes_each mode (fields_of p t) ≡ true → (first : Bool) (at : ℕ) (rest : List ℕ) → Ends rest
        → step_from mode sources names (state_of p at) (bytes_of first p t ++ rest)
        ≡ Ok (Some (bare t, at + length (lead first p.prev_dst_line t.dst_line), state_of (after p t) (at + length (bytes_of first p t))))
    step_token k first at rest z =
        step_bytes first at rest z _ (taken p t mode sources names h f w k (at + length (lead first p.prev_dst_line t.dst_line)) (at + length (bytes_of first p t)))

  -- what stands after a token
  pub ends_next : (i : ℕ) (p : TokenChunk) (ts : List Token) → Meets sources names p ts → Ends (written (i + 1) p ts)
  unfolding written bytes_of
  ends_next i p [] w = tt
  ends_next i p (t ∷ ts) w =
      rw (ne_eqb (i + 1) 0 (λ z. omega arith), append_assoc) (lead_ends p.prev_dst_line t.dst_line _ (meets_after sources names p t ts w).0.forth)

  takes_after : (p : TokenChunk) (t : Token) (ts : List Token) → takes_from mode p (t ∷ ts) ≡ true
      → (takes_each mode (fields_of p t) ≡ true) × (takes_from mode (after p t) ts ≡ true)
  unfolding takes_from
  takes_after p t ts k = both_true (takes_each mode (fields_of p t)) (takes_from mode (after p t) ts) k

  pub fits_after : (t : Token) (ts : List Token) → fits32 (flat (t ∷ ts)) ≡ true → Fits t × (fits32 (flat ts) ≡ true)
  unfolding flat
  fits_after t ts f = fits_token t (flat ts) f

  -- ---- a token that stands in a text where the writer left it
  module _ (text : List ℕ) (i at : ℕ) (p : TokenChunk) (t : Token) (ts : List Token) (h : Held p) (f : fits32 (flat (t ∷ ts)) ≡ true)
      (w : Meets sources names p (t ∷ ts)) (k : takes_each mode (fields_of p t) ≡ true) (e : drop at text ≡ written i p (t ∷ ts)) where
    abbrev next : ℕ
    next = at + length (bytes_of (eqb i 0) p t)

    pub steps_on : step_at mode sources names text (state_of p at) ≡ Ok (Some (bare t, begin_of i at p t, state_of (after p t) next))
    unfolding written
    steps_on =
        let m = meets_after sources names p t ts w in
        ap (step_from mode sources names (state_of p at)) e
        ∙ step_token p t h (fits_after t ts f).0 m.0 k (eqb i 0) at (written (i + 1) (after p t) ts) (ends_next i (after p t) ts m.1)

    pub rest_on : drop next text ≡ written (i + 1) (after p t) ts
    unfolding written
    rest_on =
        let b : List ℕ = bytes_of (eqb i 0) p t in
        sym (drop-drop (length b) at text) ∙ ap (drop (length b)) e ∙ drop-append_seam b (written (i + 1) (after p t) ts)

    -- its segment begins early enough, and the decoder passes on
    module _ (early : Early text) (u : Passed mode sources names text (state_of p at)) where
      begins_early : begin_of i at p t < no_segment
      begins_early =
          early (begin_of i at p t)
          (segment mode sources names text (state_of p at) u (begin_of i at p t) next
          (lies_put mode sources names text (state_of p at) (bare t) (begin_of i at p t) (state_of (after p t) next) steps_on))

      pub passed_on : Passed mode sources names text (state_of (after p t) next)
      passed_on = λ _. closes mode sources names text (state_of p at) (bare t) (begin_of i at p t) (state_of (after p t) next) (sym steps_on)

      pub run_on : (room : ℕ) → run mode sources names text i (suc room) (state_of p at)
          ≡ token_then (with_segment t (begin_of i at p t)) (run mode sources names text (i + 1) room (state_of (after p t) next))
      run_on room = run_put mode sources names text i (state_of p at) (bare t) (begin_of i at p t) (state_of (after p t) next) steps_on room begins_early

  pub run_back : (ts : List Token) (text : List ℕ) (room i at : ℕ) (p : TokenChunk) → Held p → fits32 (flat ts) ≡ true
      → Meets sources names p ts → takes_from mode p ts ≡ true → length ts ≤ room
      → drop at text ≡ written i p ts → Early text → Passed mode sources names text (state_of p at)
      → run mode sources names text i room (state_of p at) ≡ record { tokens = placed i at p ts; end = Ok tt; offset = length text }
  unfolding placed written step_from
  run_back [] text room i at p h f w k l e early u = run_done mode sources names text i room (state_of p at) (ap (step_from mode sources names (state_of p at)) e)
  run_back (t ∷ ts) text zero i at p h f w k l e early u = absurd (not-suc-le-zero l)
  run_back (t ∷ ts) text (suc room) i at p h f w k l e early u =
      let (f₁, f₂) = fits_after t ts f in
      let (k₁, k₂) = takes_after p t ts k in
      run_on text i at p t ts h f w k₁ e early u room
      ∙ ap (token_then (with_segment t (begin_of i at p t)))
      (run_back ts text room (i + 1) (at + length (bytes_of (eqb i 0) p t)) (after p t) (held_after p t h f₁) f₂ (meets_after sources names p t ts w).1 k₂ (omega arith)
      (rest_on text i at p t ts h f w k₁ e) early (passed_on text i at p t ts h f w k₁ e early u))
