-- A token's fields: how many bytes they take, and how they are put. Assumes nothing.
use mathlib.Core.Path.{◌≡◌, refl, sym, ◌∙◌, ap}
use mathlib.Core.Bool.{Bool, true, false}
use mathlib.Core.List.{List, [], ◌∷◌, ◌++◌, append-nil}
use Prim.Native.Nat.{ℕ, ◌+◌, ◌-◌, ◌≤◌}
use native.Mathlib.Omega.{arith}
use lib.ListN.{length, length-append}
use borrow.Author.Tests.{eq-eqb, ne_eqb}
use Rattle.list.specs.Pick.{pick}
use Rattle.token.specs.Table.{no_id, is_none}
use Rattle.token.specs.declared.Token.{Token}
use Rattle.token.specs.declared.TokenChunk.{TokenChunk}
use Rattle.list.specs.Put.{Put}
use Rattle.vlq_write.specs.Size.{StepSize}
use Rattle.vlq_write.specs.Write.{vlq_value, write_of}
use Rattle.vlq_write.proofs.Digits.{step_most, step_none}
use Rattle.list.proofs.Put.{Due, due_all, due_is, due_none, due_fits, due_put}
use Rattle.chunk.specs.Chunk.{lead, base_of, fields_of, spelled, bytes_of}
use Rattle.chunk.specs.Parts.{LeadSize, named_of, NameSize, source_of, SourceSize}
use Rattle.chunk.proofs.State.{SmallToken, SmallState, base_small}
use Rattle.chunk.proofs.Lead.{lead_most}

-- the digits of one step
abbrev step : ℕ → ℕ → List ℕ
step a b = write_of (vlq_value a b)

module _ (p : TokenChunk) (t : Token) where
  -- source, source line, source column, and what comes after
  source_is : spelled (source_of p t)
      ≡ step t.source_id p.prev_source_id ++ (step t.src_line p.prev_src_line ++ (step t.src_col p.prev_src_col ++ spelled (named_of p t)))
  unfolding source_of spelled
  source_is = refl

  unnamed_is : t.name_id ≡ no_id → spelled (named_of p t) ≡ []
  unfolding spelled named_of
  unnamed_is e = rw (eq-eqb _ _ e)

  named_is : (t.name_id ≡ no_id → ⊥) → spelled (named_of p t) ≡ step t.name_id p.prev_name_id ++ []
  unfolding spelled named_of
  named_is e = rw (ne_eqb _ _ e)

  -- ---- sizes
  -- a is the name that is stepped to, n the size of that step, and u 1 where there is no name, as the code has them
  module _ (a n u : ℕ) where
    sized_by : (b : Bool) → a ≡ pick b p.prev_name_id t.name_id → u ≡ pick b 1 0 → StepSize a p.prev_name_id n
        → (u ≤ n) × (n - u ≡ length (spelled (pick b [] (vlq_value t.name_id p.prev_name_id ∷ []))))
    unfolding spelled
    sized_by true ea eu s =
        let z : n ≡ 1 = s.is ∙ rw (ea, step_none p.prev_name_id) in
        (omega arith, omega arith)
    sized_by false ea eu s =
        let z : n ≡ length (step t.name_id p.prev_name_id) = rw ea at s.is in
        (omega arith, rw append-nil (omega arith))

    module _ (ea : a ≡ pick (is_none t.name_id) p.prev_name_id t.name_id) (eu : u ≡ pick (is_none t.name_id) 1 0)
        (s : StepSize a p.prev_name_id n) where
      pub name_least : u ≤ n
      name_least = (sized_by (is_none t.name_id) ea eu s).0

      pub name_size : NameSize p t (n - u)
      unfolding named_of
      name_size = record { is = (sized_by (is_none t.name_id) ea eu s).1; few = omega (arith, s.few) }

  pub source_size : (n₁ n₂ n₃ n₄ : ℕ) → StepSize t.source_id p.prev_source_id n₁ → StepSize t.src_line p.prev_src_line n₂
      → StepSize t.src_col p.prev_src_col n₃ → NameSize p t n₄ → SourceSize p t (n₁ + n₂ + n₃ + n₄)
  source_size n₁ n₂ n₃ n₄ s₁ s₂ s₃ s₄ =
      record {
        is = sym (ap length source_is ∙ simp length-append (omega (arith, s₁.is, s₂.is, s₃.is, s₄.is)));
        few = omega (arith, s₁.few, s₂.few, s₃.few, s₄.few);
      }

  -- ---- a token's bytes
  abbrev sourced : List ℕ
  sourced = pick (is_none t.source_id) [] (source_of p t)

  bytes_are : (f : Bool) → bytes_of f p t ≡ lead f p.prev_dst_line t.dst_line ++ (step t.dst_col (base_of p t) ++ spelled sourced)
  unfolding bytes_of fields_of spelled source_of named_of
  bytes_are f = refl

  bare_is : t.source_id ≡ no_id → spelled sourced ≡ []
  unfolding spelled
  bare_is e = rw (eq-eqb _ _ e)

  sourced_is : (t.source_id ≡ no_id → ⊥) → spelled sourced ≡ spelled (source_of p t)
  sourced_is e = rw (ne_eqb _ _ e)

  -- n is the size of the lead, base the column base, n₀ the size of the first field
  module _ (f : Bool) (n : ℕ) (sl : LeadSize f p.prev_dst_line t.dst_line n) (base n₀ : ℕ) (eb : base ≡ base_of p t)
      (s₀ : StepSize t.dst_col base n₀) where
    first : length (bytes_of f p t) ≡ n + n₀ + length (spelled sourced)
    first =
        let q : n₀ ≡ length (step t.dst_col (base_of p t)) = s₀.is ∙ ap (λ (x : ℕ). length (step t.dst_col x)) eb in
        ap length (bytes_are f) ∙ simp length-append (omega (arith, sl.is, q))

    pub size_bare : t.source_id ≡ no_id → n + n₀ ≡ length (bytes_of f p t)
    size_bare e = omega (arith, first, ap length (bare_is e))

    pub size_sourced : (t.source_id ≡ no_id → ⊥) → (m : ℕ) → SourceSize p t m → n + n₀ + m ≡ length (bytes_of f p t)
    size_sourced e m s = omega (arith, first, s.is, ap length (sourced_is e))

-- at most seven digits for each of five fields, and the lead
module _ (p : TokenChunk) (t : Token) (sp : SmallState p) (st : SmallToken t) where
  name_most : (b : Bool) → length (spelled (pick b [] (vlq_value t.name_id p.prev_name_id ∷ []))) ≤ 7
  unfolding spelled
  name_most true = omega arith
  name_most false = rw append-nil (step_most t.name_id p.prev_name_id st.name sp.name)

  name_small : length (spelled (named_of p t)) ≤ 7
  unfolding named_of
  name_small = name_most (is_none t.name_id)

  source_most : (b : Bool) → length (spelled (pick b [] (source_of p t))) ≤ 28
  unfolding spelled
  source_most true = omega arith
  source_most false =
      rw (source_is p t)
      (simp length-append
      (omega (
        arith,
        name_small,
        step_most t.source_id p.prev_source_id st.source sp.source,
        step_most t.src_line p.prev_src_line st.source_line sp.source_line,
        step_most t.src_col p.prev_src_col st.src_column sp.src_column,
      )))

  pub bytes_most : (f : Bool) → length (bytes_of f p t) ≤ 36 + (t.dst_line - p.prev_dst_line)
  bytes_most f =
      rw (bytes_are p t f)
      (simp length-append
      (omega (
        arith,
        lead_most f p.prev_dst_line t.dst_line,
        source_most (is_none t.source_id),
        step_most t.dst_col (base_of p t) st.column (base_small p t sp st),
      )))

-- ---- the fields of a token with a source put, after the first
module _ (out : List ℕ) (at : ℕ) (p : TokenChunk) (t : Token) (room : at + length (spelled (source_of p t)) ≤ length out) where
  abbrev S : List ℕ
  S = spelled (source_of p t)

  abbrev F₁ : List ℕ
  F₁ = step t.source_id p.prev_source_id

  abbrev F₂ : List ℕ
  F₂ = step t.src_line p.prev_src_line

  abbrev F₃ : List ℕ
  F₃ = step t.src_col p.prev_src_col

  abbrev F₄ : List ℕ
  F₄ = step t.name_id p.prev_name_id

  abbrev N : List ℕ
  N = spelled (named_of p t)

  due₁ : Due out at S (F₁ ++ (F₂ ++ (F₃ ++ N))) at out
  due₁ = due_is out at S S (F₁ ++ (F₂ ++ (F₃ ++ N))) at out (source_is p t) (due_all out at S room)

  pub source_fits : at + length (step t.source_id p.prev_source_id) ≤ length out
  source_fits = due_fits out at S F₁ (F₂ ++ (F₃ ++ N)) at out due₁

  module _ (a : ℕ) (out₁ : List ℕ) (q₁ : Put out at (step t.source_id p.prev_source_id) a out₁) where
    due₂ : Due out at S (F₂ ++ (F₃ ++ N)) a out₁
    due₂ = due_put out at S F₁ (F₂ ++ (F₃ ++ N)) at out due₁ a out₁ q₁

    pub line_fits : a + length (step t.src_line p.prev_src_line) ≤ length out₁
    line_fits = due_fits out at S F₂ (F₃ ++ N) a out₁ due₂

    module _ (b : ℕ) (out₂ : List ℕ) (q₂ : Put out₁ a (step t.src_line p.prev_src_line) b out₂) where
      due₃ : Due out at S (F₃ ++ N) b out₂
      due₃ = due_put out at S F₂ (F₃ ++ N) a out₁ due₂ b out₂ q₂

      pub column_fits : b + length (step t.src_col p.prev_src_col) ≤ length out₂
      column_fits = due_fits out at S F₃ N b out₂ due₃

      module _ (c : ℕ) (out₃ : List ℕ) (q₃ : Put out₂ b (step t.src_col p.prev_src_col) c out₃) where
        due₄ : Due out at S N c out₃
        due₄ = due_put out at S F₃ N b out₂ due₃ c out₃ q₃

        pub put_four : t.name_id ≡ no_id → Put out at S c out₃
        put_four e = due_none out at S N c out₃ due₄ (unnamed_is p t e)

        module _ (e : t.name_id ≡ no_id → ⊥) where
          due₅ : Due out at S (F₄ ++ []) c out₃
          due₅ = due_is out at S N (F₄ ++ []) c out₃ (named_is p t e) due₄

          pub name_fits : c + length (step t.name_id p.prev_name_id) ≤ length out₃
          name_fits = due_fits out at S F₄ [] c out₃ due₅

          pub put_five : (r : ℕ) (out' : List ℕ) → Put out₃ c (step t.name_id p.prev_name_id) r out' → Put out at S r out'
          put_five r out' q = due_none out at S [] r out' (due_put out at S F₄ [] c out₃ due₅ r out' q) refl

-- ---- a token put
module _ (out : List ℕ) (at : ℕ) (f : Bool) (p : TokenChunk) (t : Token) (room : at + length (bytes_of f p t) ≤ length out) where
  abbrev W : List ℕ
  W = bytes_of f p t

  abbrev L : List ℕ
  L = lead f p.prev_dst_line t.dst_line

  abbrev R : List ℕ
  R = spelled (sourced p t)

  whole : Due out at W (L ++ (step t.dst_col (base_of p t) ++ R)) at out
  whole = due_is out at W W (L ++ (step t.dst_col (base_of p t) ++ R)) at out (bytes_are p t f) (due_all out at W room)

  pub lead_fits : at + length (lead f p.prev_dst_line t.dst_line) ≤ length out
  lead_fits = due_fits out at W L (step t.dst_col (base_of p t) ++ R) at out whole

  -- base is the column base as the code has it
  module _ (a : ℕ) (out₁ : List ℕ) (q₀ : Put out at (lead f p.prev_dst_line t.dst_line) a out₁) (base : ℕ) (eb : base ≡ base_of p t) where
    abbrev C : List ℕ
    C = step t.dst_col base

    column : Due out at W (C ++ R) a out₁
    column = rw eb (due_put out at W L (step t.dst_col (base_of p t) ++ R) at out whole a out₁ q₀)

    pub step_fits : a + length (step t.dst_col base) ≤ length out₁
    step_fits = due_fits out at W C R a out₁ column

    module _ (b : ℕ) (out₂ : List ℕ) (q₁ : Put out₁ a (step t.dst_col base) b out₂) where
      others : Due out at W R b out₂
      others = due_put out at W C R a out₁ column b out₂ q₁

      pub put_bare : t.source_id ≡ no_id → Put out at W b out₂
      put_bare e = due_none out at W R b out₂ others (bare_is p t e)

      module _ (e : t.source_id ≡ no_id → ⊥) where
        rest : Due out at W (spelled (source_of p t) ++ []) b out₂
        rest = due_is out at W R (spelled (source_of p t) ++ []) b out₂ (sourced_is p t e ∙ sym (append-nil (spelled (source_of p t)))) others

        pub others_fit : b + length (spelled (source_of p t)) ≤ length out₂
        others_fit = due_fits out at W (spelled (source_of p t)) [] b out₂ rest

        pub put_sourced : (r : ℕ) (out' : List ℕ) → Put out₂ b (spelled (source_of p t)) r out' → Put out at W r out'
        put_sourced r out' q = due_none out at W [] r out' (due_put out at W (spelled (source_of p t)) [] b out₂ rest r out' q) refl
