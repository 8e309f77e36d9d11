-- The segment of a token, read where the writer stood, gives the token and the state that the writer leaves. Assumes nothing.
use Rattle.std.specs.Prelude.{Some, Ok, Err}
use mathlib.Core.Path.{◌≡◌, refl, ◌∙◌, ap}
use mathlib.Core.Bool.{Bool, true, false}
use mathlib.Core.List.{List, [], ◌∷◌}
use Prim.Native.Nat.{ℕ, ◌<◌, ◌≤◌, ◌^◌}
use native.Mathlib.Omega.{arith}
use lib.IntN.{pos, ◌+ℤ◌}
use lib.ListN.{length}
use borrow.Author.Tests.{eqb-true}
use Rattle.code.specs.declared.Code.{Code}
use Rattle.token.specs.Table.{no_id, no_segment, token, is_none}
use Rattle.token.proofs.Same.{bare}
use Rattle.token.specs.declared.Token.{Token}
use Rattle.token.specs.declared.TokenChunk.{TokenChunk}
use Rattle.value.specs.Value.{value_of, number_of}
use Rattle.value.specs.declared.Mode.{Mode}
use Rattle.segment.specs.Segment.{gathered}
use Rattle.segment.specs.declared.Segment.{Segment}
use Rattle.apply.specs.declared.State.{State}
use Rattle.apply.specs.declared.About.{About}
use Rattle.apply.specs.Apply.{state, applied, refusal}
use Rattle.sums.specs.Sums.{sum_of, id_of}
use Rattle.vlq_write.specs.Write.{vlq_value}
use Rattle.chunk.specs.Chunk.{base_of, fields_of, after}
use Rattle.checked_premises.specs.Checked.{takes, takes_each}
use Rattle.round.specs.Terms.{first_off}
use Rattle.vlq_write.proofs.Values.{value_small}
use Rattle.round.proofs.Fields.{Small, fields_at}
use Rattle.round.proofs.Judged.{none_off, is_off}
use Rattle.list.proofs.Pick.{both_true}
use Rattle.round.proofs.Facts.{Fits, Held, base_less, After}
use Rattle.apply.proofs.Takes.{takes_one, takes_four, takes_five}
use Rattle.round.proofs.Sums.{sum_back, name_back, id_back}

-- the decoder's state where the writer's is p
abbrev pub state_of : TokenChunk → ℕ → State
state_of p at =
    state p.prev_dst_line p.prev_dst_col p.prev_src_line p.prev_src_col p.prev_source_id p.prev_name_id at

-- the same on the token's line, at its column base
abbrev pub led_to : TokenChunk → Token → ℕ → State
led_to p t at =
    state t.dst_line (base_of p t) p.prev_src_line p.prev_src_col p.prev_source_id p.prev_name_id at

takes_cons : (mode : Mode) (v : ℕ) (vs : List ℕ) → takes_each mode (v ∷ vs) ≡ true → (takes mode v ≡ true) × (takes_each mode vs ≡ true)
unfolding takes_each
takes_cons mode v vs e = both_true (takes mode v) (takes_each mode vs) e

-- t from its numbers, as a step gives it: it does not say yet where its segment begins
token_is : (t : Token) (c d e f : ℕ) → t.src_line ≡ c → t.src_col ≡ d → t.source_id ≡ e → t.name_id ≡ f
    → token t.dst_line t.dst_col c d e f no_segment ≡ bare t
token_is t c d e f ec ed ee ef = rw (← ec, ← ed, ← ee, ← ef)

module _ (p : TokenChunk) (t : Token) where
  abbrev v₀ : ℕ
  v₀ = vlq_value t.dst_col (base_of p t)

  abbrev v₁ : ℕ
  v₁ = vlq_value t.source_id p.prev_source_id

  abbrev v₂ : ℕ
  v₂ = vlq_value t.src_line p.prev_src_line

  abbrev v₃ : ℕ
  v₃ = vlq_value t.src_col p.prev_src_col

  abbrev v₄ : ℕ
  v₄ = vlq_value t.name_id p.prev_name_id

  fields_one : is_none t.source_id ≡ true → fields_of p t ≡ v₀ ∷ []
  unfolding fields_of
  fields_one e = rw e

  fields_four : is_none t.source_id ≡ false → is_none t.name_id ≡ true → fields_of p t ≡ v₀ ∷ v₁ ∷ v₂ ∷ v₃ ∷ []
  unfolding fields_of
  fields_four e g = rw (e, g)

  fields_five : is_none t.source_id ≡ false → is_none t.name_id ≡ false → fields_of p t ≡ v₀ ∷ v₁ ∷ v₂ ∷ v₃ ∷ v₄ ∷ []
  unfolding fields_of
  fields_five e g = rw (e, g)

  -- ---- each value is small enough to be read, and they are five at the most
  module _ (h : Held p) (f : Fits t) where
    less₀ : v₀ < 2 ^ 33
    less₀ = value_small t.dst_col (base_of p t) f.col (base_less p t h)

    less₁ : v₁ < 2 ^ 33
    less₁ = value_small t.source_id p.prev_source_id f.source h.source

    less₂ : v₂ < 2 ^ 33
    less₂ = value_small t.src_line p.prev_src_line f.source_line h.source_line

    less₃ : v₃ < 2 ^ 33
    less₃ = value_small t.src_col p.prev_src_col f.source_col h.source_col

    less₄ : v₄ < 2 ^ 33
    less₄ = value_small t.name_id p.prev_name_id f.name h.name

    readable_by : (b c : Bool) → is_none t.source_id ≡ b → is_none t.name_id ≡ c → Small (fields_of p t) × (length (fields_of p t) ≤ 5)
    readable_by true c e g = rw (fields_one e) ((less₀, tt), omega arith)
    readable_by false true e g = rw (fields_four e g) ((less₀, (less₁, (less₂, (less₃, tt)))), omega arith)
    readable_by false false e g = rw (fields_five e g) ((less₀, (less₁, (less₂, (less₃, (less₄, tt))))), omega arith)

    pub readable : Small (fields_of p t) × (length (fields_of p t) ≤ 5)
    readable = readable_by (is_none t.source_id) (is_none t.name_id) refl refl

  module _ (mode : Mode) (sources names : ℕ) (h : Held p) (f : Fits t)
      (w : After sources names p t)
      (k : takes_each mode (fields_of p t) ≡ true) (at next : ℕ) where
    abbrev seg : List ℕ → Segment
    seg vs = gathered (fields_at mode at vs) next

    -- the fields give the token
    abbrev Taken : List ℕ → Type 0
    Taken vs = applied mode sources names (led_to p t at) (seg vs) ≡ Ok (bare t, state_of (after p t) next)

    -- ---- each sum is the token's own number
    col : takes mode v₀ ≡ true → sum_of mode (pos (base_of p t) +ℤ number_of (value_of mode v₀ 0)) ≡ Ok t.dst_col
    col q = sum_back mode t.dst_col (base_of p t) f.col (base_less p t h) q

    without : is_none t.source_id ≡ true → Taken (v₀ ∷ [])
    unfolding after
    without e =
        let l = w.lone e in
        let k' : takes_each mode (v₀ ∷ []) ≡ true = rw (fields_one e) at k in
        let k₀ = takes_cons mode v₀ [] k' in
        rw e
        (takes_one mode sources names (led_to p t at) (seg (v₀ ∷ [])) (none_off mode (v₀ ∷ []) 0 at k') t.dst_col (col k₀.0) refl
        ∙ ap (λ (x : Token). Ok (x, state t.dst_line t.dst_col p.prev_src_line p.prev_src_col p.prev_source_id p.prev_name_id next))
        (token_is t p.prev_src_line p.prev_src_col no_id no_id l.same_line l.same_col (eqb-true t.source_id no_id e) l.nameless))

    module _ (e : is_none t.source_id ≡ false) where
      id : takes mode v₁ ≡ true → id_of sources (pos p.prev_source_id +ℤ number_of (value_of mode v₁ 0)) ≡ Some t.source_id
      id q = id_back mode t.source_id p.prev_source_id f.source h.source q sources (w.sourced e)

      line : takes mode v₂ ≡ true → sum_of mode (pos p.prev_src_line +ℤ number_of (value_of mode v₂ 0)) ≡ Ok t.src_line
      line q = sum_back mode t.src_line p.prev_src_line f.source_line h.source_line q

      column : takes mode v₃ ≡ true → sum_of mode (pos p.prev_src_col +ℤ number_of (value_of mode v₃ 0)) ≡ Ok t.src_col
      column q = sum_back mode t.src_col p.prev_src_col f.source_col h.source_col q

      with_source : is_none t.name_id ≡ true → Taken (v₀ ∷ v₁ ∷ v₂ ∷ v₃ ∷ [])
      unfolding after
      with_source g =
          let k' : takes_each mode (v₀ ∷ v₁ ∷ v₂ ∷ v₃ ∷ []) ≡ true = rw (fields_four e g) at k in
          let k₀ = takes_cons mode v₀ (v₁ ∷ v₂ ∷ v₃ ∷ []) k' in
          let k₁ = takes_cons mode v₁ (v₂ ∷ v₃ ∷ []) k₀.1 in
          let k₂ = takes_cons mode v₂ (v₃ ∷ []) k₁.1 in
          let k₃ = takes_cons mode v₃ [] k₂.1 in
          rw (e, g)
          (takes_four mode sources names (led_to p t at) (seg (v₀ ∷ v₁ ∷ v₂ ∷ v₃ ∷ [])) (none_off mode (v₀ ∷ v₁ ∷ v₂ ∷ v₃ ∷ []) 0 at k') t.dst_col (col k₀.0)
          t.source_id t.src_line t.src_col (id k₁.0) (line k₂.0) (column k₃.0) refl
          ∙ ap (λ (x : Token). Ok (x, state t.dst_line t.dst_col t.src_line t.src_col t.source_id p.prev_name_id next))
          (token_is t t.src_line t.src_col t.source_id no_id refl refl refl (eqb-true t.name_id no_id g)))

      with_name : is_none t.name_id ≡ false → Taken (v₀ ∷ v₁ ∷ v₂ ∷ v₃ ∷ v₄ ∷ [])
      unfolding after
      with_name g =
          let k' : takes_each mode (v₀ ∷ v₁ ∷ v₂ ∷ v₃ ∷ v₄ ∷ []) ≡ true = rw (fields_five e g) at k in
          let k₀ = takes_cons mode v₀ (v₁ ∷ v₂ ∷ v₃ ∷ v₄ ∷ []) k' in
          let k₁ = takes_cons mode v₁ (v₂ ∷ v₃ ∷ v₄ ∷ []) k₀.1 in
          let k₂ = takes_cons mode v₂ (v₃ ∷ v₄ ∷ []) k₁.1 in
          let k₃ = takes_cons mode v₃ (v₄ ∷ []) k₂.1 in
          let k₄ = takes_cons mode v₄ [] k₃.1 in
          rw (e, g)
          (takes_five mode sources names (led_to p t at) (seg (v₀ ∷ v₁ ∷ v₂ ∷ v₃ ∷ v₄ ∷ [])) (none_off mode (v₀ ∷ v₁ ∷ v₂ ∷ v₃ ∷ v₄ ∷ []) 0 at k') t.dst_col (col k₀.0)
          t.source_id t.src_line t.src_col (id k₁.0) (line k₂.0) (column k₃.0)
          t.name_id (name_back mode t.name_id p.prev_name_id f.name h.name k₄.0) (w.named g) refl)

    by_ids : (b c : Bool) → is_none t.source_id ≡ b → is_none t.name_id ≡ c → Taken (fields_of p t)
    by_ids true c e g = rw (fields_one e) (without e)
    by_ids false true e g = rw (fields_four e g) (with_source e g)
    by_ids false false e g = rw (fields_five e g) (with_name e g)

    pub taken : Taken (fields_of p t)
    taken = by_ids (is_none t.source_id) (is_none t.name_id) refl refl

-- values of which checked mode does not take one: the segment is refused for the first of them
pub stops : (sources names : ℕ) (s : State) (vs : List ℕ) (at next : ℕ) → takes_each Mode.Checked vs ≡ false → length vs ≤ 5
    → applied Mode.Checked sources names s (gathered (fields_at Mode.Checked at vs) next)
    ≡ Err (refusal (Code.WideValue (first_off vs)) (About.Field (first_off vs)))
unfolding applied
stops sources names s vs at next k l = rw (is_off vs at k l)
