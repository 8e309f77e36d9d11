-- Lines of tokens, put one after the other. Assumes nothing.
use mathlib.Core.Path.{◌≡◌, refl, sym, ◌∙◌, ap}
use mathlib.Core.List.{List, [], ◌∷◌, ◌++◌, append_assoc, append-nil}
use Prim.Native.Nat.{ℕ, ◌+◌, ◌*◌, ◌≤◌, ◌<◌}
use native.Mathlib.Omega.{arith}
use native.Mathlib.Nat.{zero-add}
use lib.ListN.{length, length-append}
use mir.Syntax.{w32}
use mir.Val.{Fits}
use Rattle.list.specs.Put.{Put}
use Rattle.list.proofs.Put.{Due, put_nothing, put_then, put_long, put_is, due_all}
use Rattle.token.specs.Table.{places, token_at, tokens_from}
use Rattle.token.specs.declared.Token.{Token}
use Rattle.token.proofs.Laws.{tokens_add}
use Rattle.decimal.specs.Decimal.{figures_of}
use Rattle.decimal.proofs.Figures.{ten}
use Rattle.lines.specs.Lines.{line, id_text, token_line, token_lines}
use Rattle.lines.specs.Parts.{spaced, PutMost}
use Rattle.lines.proofs.Numbers.{id_ten}
use Rattle.lines.proofs.Words.{word_fits, word_put, both_fit, both_put, last_fits, last_put}

-- ---- one line

-- what the checker knows of a token's numbers
abbrev pub Known : Token → Type 0
Known t =
    Fits w32 t.dst_line × (Fits w32 t.dst_col × (Fits w32 t.src_line × (Fits w32 t.src_col × (Fits w32 t.source_id × (Fits w32 t.name_id × (Fits w32 t.segment × Unit {0}))))))

-- six words of ten bytes
six : (a b c d e f : List ℕ) → length a ≤ 10 → length b ≤ 10 → length c ≤ 10 → length d ≤ 10 → length e ≤ 10 → length f ≤ 10
    → length (line (a ∷ b ∷ c ∷ d ∷ e ∷ f ∷ [])) ≤ 66
unfolding line
six a b c d e f ha hb hc hd he hf = simp length-append (omega arith)

pub token_most : (t : Token) → Known t → length (token_line t) ≤ 66
unfolding token_line
token_most t k =
    six (figures_of t.dst_line) (figures_of t.dst_col) (figures_of t.src_line) (figures_of t.src_col) (id_text t.source_id) (id_text t.name_id)
    (ten t.dst_line k.0.fits) (ten t.dst_col k.1.0.fits) (ten t.src_line k.1.1.0.fits) (ten t.src_col k.1.1.1.0.fits)
    (id_ten t.source_id k.1.1.1.1.0.fits) (id_ten t.name_id k.1.1.1.1.1.0.fits)

module _ (out : List ℕ) (at : ℕ) (t : Token) (k : Known t) (room : at + 66 ≤ length out) where
  abbrev a : List ℕ
  a = figures_of t.dst_line

  abbrev b : List ℕ
  b = figures_of t.dst_col

  abbrev c : List ℕ
  c = figures_of t.src_line

  abbrev d : List ℕ
  d = figures_of t.src_col

  abbrev e : List ℕ
  e = id_text t.source_id

  abbrev f : List ℕ
  f = id_text t.name_id

  due₁ : Due out at (token_line t) (line (a ∷ b ∷ c ∷ d ∷ e ∷ f ∷ [])) at out
  unfolding token_line
  due₁ = due_all out at (token_line t) (omega (arith, token_most t k))

  pub dst_fits : at + length (spaced t.dst_line ++ spaced t.dst_col) ≤ length out
  dst_fits = both_fit out at (token_line t) a b c (d ∷ e ∷ f ∷ []) at out due₁

  module _ (i₁ : ℕ) (out₁ : List ℕ) (p₁ : Put out at (spaced t.dst_line ++ spaced t.dst_col) i₁ out₁) where
    due₂ : Due out at (token_line t) (line (c ∷ d ∷ e ∷ f ∷ [])) i₁ out₁
    due₂ = both_put out at (token_line t) a b c (d ∷ e ∷ f ∷ []) at out due₁ i₁ out₁ p₁

    pub src_fits : i₁ + length (spaced t.src_line ++ spaced t.src_col) ≤ length out₁
    src_fits = both_fit out at (token_line t) c d e (f ∷ []) i₁ out₁ due₂

    module _ (i₂ : ℕ) (out₂ : List ℕ) (p₂ : Put out₁ i₁ (spaced t.src_line ++ spaced t.src_col) i₂ out₂) where
      due₃ : Due out at (token_line t) (line (e ∷ f ∷ [])) i₂ out₂
      due₃ = both_put out at (token_line t) c d e (f ∷ []) i₁ out₁ due₂ i₂ out₂ p₂

      pub source_fits : i₂ + length (e ++ (32 ∷ [])) ≤ length out₂
      source_fits = word_fits out at (token_line t) e f [] i₂ out₂ due₃

      module _ (i₃ : ℕ) (out₃ : List ℕ) (p₃ : Put out₂ i₂ (e ++ (32 ∷ [])) i₃ out₃) where
        due₄ : Due out at (token_line t) (line (f ∷ [])) i₃ out₃
        due₄ = word_put out at (token_line t) e f [] i₂ out₂ due₃ i₃ out₃ p₃

        pub name_fits : i₃ + length (f ++ (10 ∷ [])) ≤ length out₃
        name_fits = last_fits out at (token_line t) f i₃ out₃ due₄

        pub token_put : (r : ℕ) (out' : List ℕ) → Put out₃ i₃ (f ++ (10 ∷ [])) r out' → PutMost 66 out at (token_line t) r out'
        token_put r out' p = record { put = last_put out at (token_line t) f i₃ out₃ due₄ r out' p; few = token_most t k }

-- ---- a line for each token

lines_append : (a b : List Token) → token_lines (a ++ b) ≡ token_lines a ++ token_lines b
unfolding token_lines
lines_append [] b = refl
lines_append (t ∷ a) b = ap (λ (l : List ℕ). token_line t ++ l) (lines_append a b) ∙ sym (append_assoc (token_line t) (token_lines a) (token_lines b))

one_token : (table : List ℕ) (i : ℕ) → token_lines (tokens_from table i 1) ≡ token_line (token_at table i)
unfolding token_lines tokens_from
one_token table i = append-nil (token_line (token_at table i))

lines_next : (table : List ℕ) (i : ℕ) (t : Token) → t ≡ token_at table i
    → token_lines (tokens_from table 0 (i + 1)) ≡ token_lines (tokens_from table 0 i) ++ token_line t
lines_next table i t e =
    ap token_lines (tokens_add table 0 i 1) ∙ lines_append (tokens_from table 0 i) (tokens_from table (0 + i) 1)
    ∙ ap (λ (l : List ℕ). token_lines (tokens_from table 0 i) ++ l)
    (one_token table (0 + i) ∙ ap (λ (k : ℕ). token_line (token_at table k)) (zero-add i) ∙ ap token_line (sym e))

lines_none : (table : List ℕ) → token_lines (tokens_from table 0 0) ≡ []
unfolding token_lines tokens_from
lines_none table = refl

-- the lines of the first i of n tokens stand
pub record Listing (table : List ℕ) (n : ℕ) (out₀ : List ℕ) (at : ℕ) (out : List ℕ) (i next : ℕ) : Type 0 where
  pub inside : i ≤ n
  pub within : n ≤ places (length table)
  pub room : at + 66 * n ≤ length out₀
  pub stands : PutMost (66 * i) out₀ at (token_lines (tokens_from table 0 i)) next out

pub listing : (table : List ℕ) (n : ℕ) (out₀ : List ℕ) (at : ℕ) → n ≤ places (length table) → at + 66 * n ≤ length out₀
    → Listing table n out₀ at out₀ 0 at
listing table n out₀ at h room =
    record {
      inside = omega arith;
      within = h;
      room = room;
      stands =
          record {
            put = put_is out₀ at [] (token_lines (tokens_from table 0 0)) at out₀ (sym (lines_none table)) (put_nothing out₀ at);
            few = omega (arith, ap length (lines_none table));
          };
    }

module _ (table : List ℕ) (n : ℕ) (out₀ : List ℕ) (at : ℕ) (out : List ℕ) (i next : ℕ) (f : Listing table n out₀ at out i next) where
  pub listing_same : length out ≡ length out₀
  listing_same =
      put_long out₀ at (token_lines (tokens_from table 0 i)) next out f.stands.put (omega (arith, f.room, f.inside, f.stands.few))

  pub listed : n ≤ i → PutMost (66 * n) out₀ at (token_lines (tokens_from table 0 n)) next out
  listed h =
      let e : i ≡ n = omega (arith, f.inside) in
      rw e at f.stands

  module _ (h : i < n) where
    pub token_inside : i < places (length table)
    token_inside = omega (arith, f.within)

    pub token_room : next + 66 ≤ length out
    token_room = omega (arith, listing_same, f.room, f.stands.few, f.stands.put.past)

    pub lists : (t : Token) → t ≡ token_at table i → (r : ℕ) (out' : List ℕ) → PutMost 66 out next (token_line t) r out' → Listing table n out₀ at out' (i + 1) r
    lists t et r out' p =
        let l : List ℕ = token_lines (tokens_from table 0 i) in
        record {
          inside = omega arith;
          within = f.within;
          room = f.room;
          stands =
              record {
                put =
                    put_is out₀ at (l ++ token_line t) (token_lines (tokens_from table 0 (i + 1))) r out' (sym (lines_next table i t et))
                    (put_then out₀ at l (token_line t) next out r out' f.stands.put p.put (omega (arith, f.room, f.stands.few, p.few)));
                few = omega (arith, ap length (lines_next table i t et), length-append l (token_line t), f.stands.few, p.few);
              };
        }
