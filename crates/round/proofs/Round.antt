-- The round trip from the start, and what else demand 3 needs of the premises. Assumes nothing.
use Rattle.std.specs.Prelude.{Ok}
use mathlib.Core.Path.{◌≡◌, refl, sym}
use mathlib.Core.Bool.{Bool, true, false}
use mathlib.Core.List.{List, [], ◌∷◌}
use mathlib.Core.Option.{none}
use Prim.Native.Nat.{ℕ, ◌+◌, ◌≤◌}
use native.Mathlib.Omega.{arith}
use lib.Dec.{ltb, leb}
use lib.ListN.{length}
use borrow.Author.Tests.{lt-ltb, le-ltb, ltb-true, leb-true}
use Rattle.list.specs.Pick.{pick, both}
use Rattle.token.specs.Table.{is_none, bad_table, tokens_of, flat}
use Rattle.token.specs.declared.Token.{Token}
use Rattle.token.specs.declared.TokenChunk.{TokenChunk}
use Rattle.value.specs.declared.Mode.{Mode}
use Rattle.decode.specs.Mapping.{decoded}
use Rattle.chunk.specs.Chunk.{fresh, fields_of, after, written, first_back}
use Rattle.premises.specs.Premises.{id_within, follows, follow, premises, decides, fits32, SoundTable}
use Rattle.checked_premises.specs.Checked.{takes, takes_each, takes_from, takes_all}
use Rattle.list.proofs.Pick.{both_true}
use Rattle.round.proofs.Facts.{Held}
use Rattle.decode.proofs.Where.{Passed}
use Rattle.round.specs.Terms.{Early}
use Rattle.round.proofs.Taken.{state_of}
use Rattle.round.proofs.Run.{placed, run_back}
use Rattle.round.proofs.Stops.{Outcome, run_stops}
use Rattle.token.proofs.Whole.{flat_tokens}

-- the text of a list of tokens, from the start; where the chunk starts and ends plays no part in it
abbrev pub text_of : List Token → List ℕ
text_of ts = written 0 (fresh 0 0) ts

-- tokens that meet the premises, of numbers of 32 bits
pub record Sound (sources names : ℕ) (ts : List Token) : Type 0 where
  pub meets : premises sources names ts ≡ true
  pub fits : fits32 (flat ts) ≡ true

pub zeros_held : Held (fresh 0 0)
zeros_held = record { col = omega arith; source_line = omega arith; source_col = omega arith; source = omega arith; name = omega arith }

-- nothing stands before the start
at_start : (mode : Mode) (sources names : ℕ) (text : List ℕ) → Passed mode sources names text (state_of (fresh 0 0) 0)
at_start mode sources names text = λ h. absurd (omega arith)

pub back : (mode : Mode) (sources names room : ℕ) (ts : List Token) → Sound sources names ts → takes_all mode ts ≡ true → length ts ≤ room → Early (text_of ts)
    → decoded mode sources names (text_of ts) room ≡ record { tokens = placed 0 0 (fresh 0 0) ts; end = Ok tt; offset = length (text_of ts) }
back mode sources names room ts s k l early =
    run_back mode sources names ts (text_of ts) room 0 0 (fresh 0 0) zeros_held s.fits s.meets k l refl early (at_start mode sources names (text_of ts))

pub refused : (sources names room : ℕ) (ts : List Token) → Sound sources names ts → takes_all Mode.Checked ts ≡ false → length ts ≤ room → Early (text_of ts)
    → Outcome 0 0 (fresh 0 0) ts (decoded Mode.Checked sources names (text_of ts) room)
refused sources names room ts s k l early =
    run_stops sources names ts (text_of ts) room 0 0 (fresh 0 0) zeros_held s.fits s.meets k l refl early (at_start Mode.Checked sources names (text_of ts))

-- ---- lenient mode takes every value
pub takes_each_lenient : (vs : List ℕ) → takes_each Mode.Lenient vs ≡ true
unfolding takes_each takes
takes_each_lenient [] = refl
takes_each_lenient (v ∷ vs) = takes_each_lenient vs

takes_from_lenient : (p : TokenChunk) (ts : List Token) → takes_from Mode.Lenient p ts ≡ true
unfolding takes_from
takes_from_lenient p [] = refl
takes_from_lenient p (t ∷ ts) = rw (takes_each_lenient (fields_of p t)) (takes_from_lenient (after p t) ts)

pub takes_all_lenient : (ts : List Token) → takes_all Mode.Lenient ts ≡ true
takes_all_lenient ts = takes_from_lenient (fresh 0 0) ts

-- ---- the premises, where the counts grow
both_of : (a b : Bool) → a ≡ true → b ≡ true → both a b ≡ true
both_of a b e f = rw (e, f)

id_more : (t : Bool) (count count' id : ℕ) → count ≤ count' → pick t true (ltb id count) ≡ true → pick t true (ltb id count') ≡ true
id_more true count count' id h e = refl
id_more false count count' id h e = lt-ltb id count' (omega (arith, ltb-true id count e))

module _ (sources names sources' names' : ℕ) (hs : sources ≤ sources') (hn : names ≤ names') where
  follows_more : (line source_line source_col : ℕ) (t : Token) → follows sources names line source_line source_col t ≡ true → follows sources' names' line source_line source_col t ≡ true
  unfolding follows
  follows_more line source_line source_col t w =
      let a = both_true (leb line t.dst_line) _ w in
      let b = both_true (id_within sources t.source_id) _ a.1 in
      let c = both_true (id_within names t.name_id) _ b.1 in
      both_of _ _ a.0
      (both_of _ _ (id_more (is_none t.source_id) sources sources' t.source_id hs b.0)
      (both_of _ _ (id_more (is_none t.name_id) names names' t.name_id hn c.0) c.1))

  pub follow_more : (line source_line source_col : ℕ) (ts : List Token) → follow sources names line source_line source_col ts ≡ true → follow sources' names' line source_line source_col ts ≡ true
  unfolding follow
  follow_more line source_line source_col [] w = refl
  follow_more line source_line source_col (t ∷ ts) w =
      let r = both_true (follows sources names line source_line source_col t) _ w in
      both_of _ _ (follows_more line source_line source_col t r.0) (follow_more t.dst_line _ _ ts r.1)

  pub sound_more : (ts : List Token) → Sound sources names ts → Sound sources' names' ts
  sound_more ts s = record { meets = follow_more 0 0 0 ts s.meets; fits = s.fits }

-- ---- under the premises no line goes back
pub never_back : (sources names i line source_line source_col : ℕ) (ts : List Token) → follow sources names line source_line source_col ts ≡ true → first_back i line ts ≡ none
unfolding follow follows first_back
never_back sources names i line source_line source_col [] w = refl
never_back sources names i line source_line source_col (t ∷ ts) w =
    let r = both_true (follows sources names line source_line source_col t) _ w in
    let a = both_true (leb line t.dst_line) _ r.0 in
    rw (le-ltb t.dst_line line (leb-true line t.dst_line a.0)) (never_back sources names (i + 1) t.dst_line _ _ ts r.1)

-- ---- a table that meets them
decides_by : (t : Bool) (x : Bool) → pick t false x ≡ true → (t ≡ false) × (x ≡ true)
decides_by true x e = (sym e, cc)
decides_by false x e = (refl, e)

pub not_bad : (sources names : ℕ) (xs : List ℕ) → SoundTable sources names xs → bad_table (length xs) ≡ false
unfolding decides
not_bad sources names xs s = (decides_by (bad_table (length xs)) (premises sources names (tokens_of xs)) s.meets).0

pub sound_tokens : (sources names : ℕ) (xs : List ℕ) → SoundTable sources names xs → Sound sources names (tokens_of xs)
unfolding decides
sound_tokens sources names xs s =
    let d = decides_by (bad_table (length xs)) (premises sources names (tokens_of xs)) s.meets in
    record { meets = d.1; fits = rw (flat_tokens xs d.0) s.fits }
