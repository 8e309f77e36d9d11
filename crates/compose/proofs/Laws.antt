-- What composing promises of its result. Assumes nothing.
use mathlib.Core.Path.{◌≡◌, refl, ap, sym, ◌∙◌, subst}
use mathlib.Core.Bool.{true, false}
use mathlib.Core.List.{List, [], ◌∷◌, ◌++◌, append_assoc, append-nil}
use Rattle.std.specs.Prelude.{Option, None, Some, Ok, Err}
use Prim.Native.Nat.{ℕ, zero, suc, ◌+◌, ◌≤◌, ◌<◌}
use native.Mathlib.Omega.{arith}
use lib.Dec.{ltb}
use lib.ListN.{length, take, drop, get_or}
use lib.Seq.{take_at}
use Rattle.list.specs.Memory.{onto}
use Rattle.list.proofs.Pick.{pick_ind}
use Rattle.code.specs.declared.Code.{Code}
use Rattle.token.specs.Table.{is_none, places, token_at, tokens_from, tokens_of, flat, over}
use Rattle.token.specs.declared.Token.{Token}
use Rattle.token.proofs.Laws.{length_tokens, tokens_flat}
use Rattle.lookup.specs.Lookup.{lookup_of}
use Rattle.names.specs.Names.{NameList, count, sound, name_at}
use Rattle.name_ids.specs.NameIds.{Named, first_name, first_added, among_inner, outer_named}
use Rattle.name_ids.specs.Answers.{Kept}
use Rattle.name_ids.proofs.Grow.{kept_none, kept_few}
use Rattle.name_ids.proofs.Known.{Known, named_known}
use Rattle.compose.specs.Steps.{refusal_of}
use Rattle.compose.specs.Compose.{Made, mapped_to, found, made_of, composed_from, Maps, result_of, composed, Composes}
use Rattle.compose.proofs.Made.{kept_made, kept_all}
use Rattle.compose.proofs.Tests.{Opens, opens, ok_is}

-- ---- the added names: below the outer count, no two of equal bytes, none with the bytes of an inner name
pub added_apart : (m : Maps) → Kept m.inner_names m.outer_names (result_of m).added
added_apart m = kept_all m.inner_names m.outer_names m.inner [] (tokens_of m.outer) (kept_none m.inner_names m.outer_names)

-- so there are no more of them than outer names
pub added_few : (m : Maps) → length (result_of m).added ≤ count m.outer_names
added_few m = kept_few m.inner_names m.outer_names (result_of m).added (added_apart m)

-- ---- names are only added behind those there
record Extends (ids more : List ℕ) : Type 0 where
  rest : List ℕ
  is : more ≡ ids ++ rest

same_list : (ids : List ℕ) → Extends ids ids
same_list ids = record { rest = []; is = sym (append-nil ids) }

extends_more : (a b c : List ℕ) → Extends a b → Extends b c → Extends a c
extends_more a b c x y =
    record { rest = x.rest ++ y.rest; is = y.is ∙ (ap (λ (l : List ℕ). l ++ y.rest) x.is ∙ append_assoc a x.rest y.rest) }

module _ (inner outer : NameList) (table : List ℕ) where
  extends_named : (ids : List ℕ) (id : ℕ) → Extends ids (outer_named inner outer ids id).added
  unfolding outer_named
  extends_named ids id =
      pick_ind (λ (n : Named). Extends ids n.added) (ltb id (count outer)) (λ e. go (first_name inner (name_at outer id) 0 (count inner)) (first_added outer (name_at outer id) 0 ids) refl)
      (λ e. same_list ids)
    where
      go : (o q : Option ℕ) → first_added outer (name_at outer id) 0 ids ≡ q → Extends ids (among_inner inner outer ids id o).added
      go (Some k) q f = same_list ids
      go None (Some j) f = rw f (same_list ids)
      go None None f = rw f (record { rest = id ∷ []; is = refl })

  extends_made : (ids : List ℕ) (t : Token) → Extends ids (made_of inner outer table ids t).added
  unfolding made_of
  extends_made ids t =
      pick_ind Holds (is_none t.source_id) (λ e. same_list ids) (λ e. go (lookup_of table t.src_line t.src_col))
    where
      Holds : Made → Type 0
      Holds m = Extends ids m.added

      go : (o : Option ℕ) → Holds (found inner outer table ids t o)
      go None = same_list ids
      go (Some i) =
          pick_ind Holds (is_none (token_at table i).source_id) (λ e. same_list ids)
          (λ e. pick_ind (λ (n : Named). Extends ids n.added) (is_none (token_at table i).name_id)
          (λ f. extends_named ids t.name_id) (λ f. same_list ids))

  extends_all : (ids : List ℕ) (ts : List Token) → Extends ids (composed_from inner outer table ids ts).added
  unfolding composed_from
  extends_all ids [] = same_list ids
  extends_all ids (t ∷ ts) =
      let next : List ℕ = (made_of inner outer table ids t).added in
      extends_more ids next (composed_from inner outer table next ts).added (extends_made ids t) (extends_all next ts)

-- ---- what each token of the result is
-- t takes its name from the outer list: it is found, with a source and no name of its own, and its id is within the outer list
pub record OuterName (outer : NameList) (table : List ℕ) (t : Token) : Type 0 where
  pub at : ℕ
  pub sourced : is_none t.source_id ≡ false
  pub looked : lookup_of table t.src_line t.src_col ≡ Some at
  pub mapped : is_none (token_at table at).source_id ≡ false
  pub unnamed : is_none (token_at table at).name_id ≡ true
  pub inside : t.name_id < count outer

-- u, of the outer token t: the same generated position, and an outer name's id exists and has the name's bytes
pub record Of (inner outer : NameList) (table added : List ℕ) (t u : Token) : Type 0 where
  pub line : u.dst_line ≡ t.dst_line
  pub col : u.dst_col ≡ t.dst_col
  pub named : OuterName outer table t → Known inner outer added u.name_id (name_at outer t.name_id)

module _ (inner outer : NameList) (table : List ℕ) (first : sound inner ≡ true) (second : sound outer ≡ true) where
  record Placed (t u : Token) : Type 0 where
    line : u.dst_line ≡ t.dst_line
    col : u.dst_col ≡ t.dst_col

  placed : (ids : List ℕ) (t : Token) → Placed t (made_of inner outer table ids t).token
  unfolding made_of
  placed ids t =
      pick_ind Holds (is_none t.source_id) (λ e. record { line = refl; col = refl })
      (λ e. go (lookup_of table t.src_line t.src_col))
    where
      Holds : Made → Type 0
      Holds m = Placed t m.token

      go : (o : Option ℕ) → Holds (found inner outer table ids t o)
      go None = record { line = refl; col = refl }
      go (Some i) =
          pick_ind Holds (is_none (token_at table i).source_id) (λ e. record { line = refl; col = refl }) (λ e. record { line = refl; col = refl })

  made_named : (ids : List ℕ) (t : Token) (n : OuterName outer table t)
      → made_of inner outer table ids t ≡ mapped_to t (token_at table n.at) (outer_named inner outer ids t.name_id)
  unfolding made_of
  made_named ids t n = rw (n.sourced, n.looked, n.mapped, n.unnamed)

  made_known : (ids : List ℕ) (t : Token) → Kept inner outer ids → OuterName outer table t → (rest : List ℕ)
      → Known inner outer ((made_of inner outer table ids t).added ++ rest) (made_of inner outer table ids t).token.name_id (name_at outer t.name_id)
  made_known ids t k n rest =
      subst (λ (x : Made). Known inner outer (x.added ++ rest) x.token.name_id (name_at outer t.name_id)) (sym (made_named ids t n))
      (named_known inner outer ids (record { first = first; second = second; kept = k }) t.name_id n.inside rest)

  each : (ids : List ℕ) (ts : List Token) → Kept inner outer ids → (i : ℕ) (d : Token) → i < length ts
      → Of inner outer table (composed_from inner outer table ids ts).added (get_or ts i d) (get_or (composed_from inner outer table ids ts).tokens i d)
  unfolding composed_from
  each ids [] k i d h = absurd (omega arith)
  each ids (t ∷ ts) k zero d h =
      let next : List ℕ = (made_of inner outer table ids t).added in
      let x : Extends next (composed_from inner outer table next ts).added = extends_all inner outer table next ts in
      let p : Placed t (made_of inner outer table ids t).token = placed ids t in
      record {
        line = p.line;
        col = p.col;
        named = λ n. rw x.is (made_known ids t k n x.rest);
      }
  each ids (t ∷ ts) k (suc i) d h = each (made_of inner outer table ids t).added ts (kept_made inner outer table ids t k) i d (omega arith)

many_from : (inner outer : NameList) (table ids : List ℕ) (ts : List Token) → length (composed_from inner outer table ids ts).tokens ≡ length ts
unfolding composed_from
many_from inner outer table ids [] = refl
many_from inner outer table ids (t ∷ ts) = ap suc (many_from inner outer table (made_of inner outer table ids t).added ts)

-- ---- the tokens of a table by their places
read_at : (xs : List ℕ) (j n i : ℕ) (d : Token) → i < n → get_or (tokens_from xs j n) i d ≡ token_at xs (j + i)
unfolding tokens_from
read_at xs j zero i d h = absurd (omega arith)
read_at xs j (suc n) zero d h = ap (token_at xs) (omega arith)
read_at xs j (suc n) (suc i) d h =
    let e : j + 1 + i ≡ j + suc i = omega arith in
    read_at xs (j + 1) n i d (omega arith) ∙ ap (token_at xs) e

over_at : (ts : List Token) (xs : List ℕ) (i : ℕ) (d : Token) → i < length ts → token_at (over ts xs) i ≡ get_or ts i d
unfolding onto
over_at ts xs i d h =
    let z : 0 + i ≡ i = omega arith in
    sym (ap (λ (l : List Token). get_or l i d) (sym (tokens_flat ts (drop (length (flat ts)) xs)))
    ∙ (read_at (over ts xs) 0 (length ts) i d h ∙ ap (token_at (over ts xs)) z))

-- as many tokens as the outer table
pub as_many : (m : Maps) → length (result_of m).tokens ≡ places (length m.outer)
as_many m = many_from m.inner_names m.outer_names m.inner [] (tokens_of m.outer) ∙ length_tokens m.outer 0 (places (length m.outer))

-- the i-th token of the result is of the i-th outer token
pub each_of : (m : Maps) → sound m.inner_names ≡ true → sound m.outer_names ≡ true → (i : ℕ) (d : Token) → i < places (length m.outer)
    → Of m.inner_names m.outer_names m.inner (result_of m).added (token_at m.outer i) (get_or (result_of m).tokens i d)
each_of m first second i d h =
    let n : length (tokens_of m.outer) ≡ places (length m.outer) = length_tokens m.outer 0 (places (length m.outer)) in
    let z : 0 + i ≡ i = omega arith in
    let e : get_or (tokens_of m.outer) i d ≡ token_at m.outer i
    = read_at m.outer 0 (places (length m.outer)) i d h ∙ ap (token_at m.outer) z in
    rw e at (each m.inner_names m.outer_names m.inner first second [] (tokens_of m.outer) (kept_none m.inner_names m.outer_names) i d (omega (arith, n)))

-- ---- the same of what is lent, once n names were added
module _ (m : Maps) (result added : List ℕ) (n : ℕ) (result' added' : List ℕ) (c : Composes m result added (Ok n) result' added') where
  opened : Opens m (length result) (length added)
  opened = opens m (length result) (length added) (ap refusal_of c.says)

  wrote_is : result' ≡ over (result_of m).tokens result
  wrote_is = c.wrote ∙ rw opened.is

  listed_is : added' ≡ onto (result_of m).added added
  listed_is = c.listed ∙ rw opened.is

  counted : n ≡ length (result_of m).added
  counted = ok_is n (length (result_of m).added) (c.says ∙ opened.is)

  -- the added list: the first entries, as many as were counted
  pub added_is : take n added' ≡ (result_of m).added
  unfolding onto
  added_is = ap (take n) listed_is ∙ take_at (result_of m).added (drop (length (result_of m).added) added) n (sym counted)

  pub listed_apart : Kept m.inner_names m.outer_names (take n added')
  listed_apart = rw added_is (added_apart m)

  pub written_of : (i : ℕ) → i < places (length m.outer)
      → Of m.inner_names m.outer_names m.inner (take n added') (token_at m.outer i) (token_at result' i)
  written_of i h =
      let d : Token = token_at result' i in
      let e : token_at result' i ≡ get_or (result_of m).tokens i d
      = ap (λ (l : List ℕ). token_at l i) wrote_is ∙ over_at (result_of m).tokens result i d (omega (arith, as_many m)) in
      rw (added_is, e) (each_of m opened.ready.first opened.ready.second i d h)

-- ---- a refusal writes nothing
pub kept_whole : (m : Maps) (result added : List ℕ) (code : Code) (result' added' : List ℕ) → Composes m result added (Err code) result' added'
    → (result' ≡ result) × (added' ≡ added)
kept_whole m result added code result' added' c =
    let x : composed m (length result) (length added) ≡ Err code = sym c.says in
    (c.wrote ∙ rw x, c.listed ∙ rw x)
