-- A step of checked mode, and the parts of the text that it passes: the token shows their sums. Assumes nothing.
use Rattle.std.specs.Prelude.{Some, None, Ok, Err}
use mathlib.Core.Path.{◌≡◌, refl, sym, ◌∙◌, ap, subst}
use mathlib.Core.Bool.{Bool, true, false}
use mathlib.Core.List.{List, [], ◌∷◌, ◌++◌}
use Prim.Native.Nat.{ℕ, suc, ◌+◌, ◌-◌, ◌%◌, ◌^◌, ◌<◌, ◌≤◌}
use native.Mathlib.Omega.{arith}
use lib.Dec.{T, eqb}
use lib.ListN.{drop}
use borrow.Author.Tests.{eqb-true}
use Rattle.list.specs.Pick.{pick}
use Rattle.digits.specs.Digits.{is_delim}
use Rattle.token.specs.Table.{with_segment}
use Rattle.token.specs.declared.Token.{Token}
use Rattle.segment.specs.Segment.{Field, Fields, leftover, overflow, starts, fields_from, gathered}
use Rattle.segment.specs.Segment as segment
use Rattle.segment.proofs.Border.{Border, Ends, ends}
use Rattle.apply.specs.declared.State.{State}
use Rattle.apply.specs.Apply.{applied, Applied}
use Rattle.apply.proofs.Lands.{Lands, lands}
use Rattle.step.specs.Step.{commaed, lined, stepped, segment_step, step_from, Step}
use Rattle.exact.specs.Text.{Segment, nothing, Delimiter, comma, semicolon, character, Part, spell_segment, spell_parts, Numbers, added, delimited, token_of, parts_tokens}
use Rattle.exact.specs.Exact.{mode, as_read, wholes}
use Rattle.exact.proofs.Fields.{Parted, parted}
use Rattle.exact.proofs.Sums.{Tracks, Takes, takes}

-- the bytes at the state's place, which begin with a delimiter or are none, and the tokens to come
pub record Behind (s : State) (bs : List ℕ) (ts : List Token) : Type 0 where
  pub parts : List Part
  pub spelled : as_read bs ≡ spell_parts parts
  pub sums : (w : Numbers) → Tracks s w → wholes ts ≡ parts_tokens w parts

-- the same of any bytes: a segment stands before
pub record Ahead (s : State) (bs : List ℕ) (ts : List Token) : Type 0 where
  pub first : Segment
  pub parts : List Part
  pub spelled : as_read bs ≡ spell_segment first ++ spell_parts parts
  pub sums : (w : Numbers) → Tracks s w → wholes ts ≡ token_of (added w first) first ++ parts_tokens (added w first) parts

abbrev pub Both : State → List ℕ → List Token → Type 0
Both s bs ts = Ahead s bs ts × (Border bs → Behind s bs ts)

-- nothing stands before
no_segment : (s : State) (bs : List ℕ) (ts : List Token) → Behind s bs ts → Ahead s bs ts
unfolding spell_segment added token_of
no_segment s bs ts h = record { first = nothing; parts = h.parts; spelled = h.spelled; sums = h.sums }

both_behind : (s : State) (bs : List ℕ) (ts : List Token) → Behind s bs ts → Both s bs ts
both_behind s bs ts h = (no_segment s bs ts h, λ _. h)

-- ---- delimiters
abbrev after : State → Delimiter → State
after s comma = commaed s
after s semicolon = lined s

tracks_after : (s : State) (w : Numbers) (d : Delimiter) → Tracks s w → Tracks (after s d) (delimited w d)
unfolding delimited
tracks_after s w comma h = record { line = h.line; few = omega (arith, h.few); column = h.column; source_line = h.source_line; src_column = h.src_column; source = h.source; name = h.name }
tracks_after s w semicolon h =
    let e : (s.dst_line + 1) % 2 ^ 32 ≡ (w.line + 1) % 2 ^ 32 = omega (arith, h.line) in
    record { line = e; few = omega (arith, h.few); column = refl; source_line = h.source_line; src_column = h.src_column; source = h.source; name = h.name }

pub is_delimiter : (d : Delimiter) → is_delim (character d) ≡ true
unfolding is_delim
is_delimiter comma = refl
is_delimiter semicolon = refl

past_one : (s : State) (d : Delimiter) (b : ℕ) (bs : List ℕ) (ts : List Token) → b ≡ character d → Ahead (after s d) bs ts → Both s (b ∷ bs) ts
unfolding as_read spell_parts parts_tokens
past_one s d b bs ts e h =
    both_behind s (b ∷ bs) ts
    (record {
      parts = record { delimiter = d; segment = h.first } ∷ h.parts;
      spelled = rw (e, is_delimiter d) (ap (λ (x : List ℕ). character d ∷ x) h.spelled);
      sums = λ w t. h.sums (delimited w d) (tracks_after s w d t);
    })

yes_no : {A : Type 0} → true ≡ false → A
yes_no e = absurd (subst T e tt)

module _ (sources names : ℕ) where
  -- ---- a step: what stands behind the token that it gives is known
  abbrev pub Goes : State → List ℕ → Step → Type 0
  Goes s bs (Ok (Some (t, begin, s'))) =
      (s.at ≤ s'.at) × (Border (drop (s'.at - s.at) bs) × ((ts : List Token) → begin < 2 ^ 32 → Behind s' (drop (s'.at - s.at) bs) ts → Both s bs (with_segment t begin ∷ ts)))
  Goes s bs (Err r) = Unit {0}
  Goes s bs (Ok None) = Both s bs []

  later : (s : State) (d : Delimiter) (b : ℕ) (bs : List ℕ) (r : Step) → (after s d).at ≡ s.at + 1 → b ≡ character d → Goes (after s d) bs r → Goes s (b ∷ bs) r
  later s d b bs (Ok (Some (t, begin, s'))) a e h =
      let n : s'.at - s.at ≡ suc (s'.at - (after s d).at) = omega (arith, h.0, a) in
      (omega (arith, h.0, a), (rw n h.1.0, λ ts u p. past_one s d b bs (with_segment t begin ∷ ts) e (h.1.1 ts u (rw n at p)).0))
  later s d b bs (Err r) a e h = h
  later s d b bs (Ok None) a e h = past_one s d b bs [] e h.0

  segment_goes : (s : State) (b : ℕ) (bs : List ℕ) → is_delim b ≡ false → (f : Fields) → fields_from mode 0 s.at (b ∷ bs) ≡ f → Parted 0 s.at (b ∷ bs) f
      → Goes s (b ∷ bs) (segment_step mode sources names s f)
  unfolding segment_step wholes
  segment_goes s b bs d (leftover place) e p = tt
  segment_goes s b bs d (overflow place) e p = tt
  segment_goes s b bs d (segment.whole fs next) e p =
      by (applied mode sources names s (gathered fs next)) (lands mode sources names (gathered fs next) s)
      (subst (λ (x : List Field). Takes p.known s (applied mode sources names s (gathered x next))) (sym p.fields) (takes sources names s next border.0 p.known))
    where
      border : Ends s.at (b ∷ bs) (segment.whole fs next)
      border = subst (Ends s.at (b ∷ bs)) e (ends mode 0 s.at (b ∷ bs))

      by : (a : Applied) → Lands next a → Takes p.known s a → Goes s (b ∷ bs) (stepped s.at (starts fs) a)
      by (Err r) l k = k
      by (Ok (t, s')) l k = (
        rw l border.0,
        (
          rw l border.1,
          λ ts u h. (
            record {
              first = k.segment;
              parts = h.parts;
              spelled = p.spelled ∙ ap (λ (x : List ℕ). x ++ as_read (drop (next - s.at) (b ∷ bs))) k.spelled ∙ ap (λ (x : List ℕ). spell_segment k.segment ++ x) (rw l at h.spelled);
              sums = λ w q. rw (k.shown w q u, h.sums (added w k.segment) (k.tracks w q));
            },
            λ z. yes_no (sym z ∙ d),
          ),
        ),
      )

  pub goes : (s : State) (bs : List ℕ) → Goes s bs (step_from mode sources names s bs)
  unfolding step_from is_delim as_read spell_parts parts_tokens wholes
  goes s [] = both_behind s [] [] (record { parts = []; spelled = refl; sums = λ w h. refl })
  goes s (b ∷ bs) = by (eqb b 44) (eqb b 59) refl refl (goes (commaed s) bs) (goes (lined s) bs)
    where
      by : (x y : Bool) → eqb b 44 ≡ x → eqb b 59 ≡ y → Goes (commaed s) bs (step_from mode sources names (commaed s) bs)
          → Goes (lined s) bs (step_from mode sources names (lined s) bs)
          → Goes s (b ∷ bs)
          (pick x (step_from mode sources names (commaed s) bs)
          (pick y (step_from mode sources names (lined s) bs)
          (segment_step mode sources names s (fields_from mode 0 s.at (b ∷ bs)))))
      by true y p q u v = later s comma b bs (step_from mode sources names (commaed s) bs) refl (eqb-true b 44 p) u
      by false true p q u v = later s semicolon b bs (step_from mode sources names (lined s) bs) refl (eqb-true b 59 q) v
      by false false p q u v = segment_goes s b bs (rw (p, q)) (fields_from mode 0 s.at (b ∷ bs)) refl (parted 0 s.at (b ∷ bs))
