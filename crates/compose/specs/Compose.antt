-- docs/RULES.md, Composing: two maps into one. Assumes nothing.
use Rattle.std.specs.Prelude.{◌≡◌, false, Option, Some, None, Result, Ok, Err, is_ok, List, [], ◌∷◌, ℕ, ◌+◌, ◌*◌, ltb, length}
use Rattle.list.specs.Memory.{onto}
use Rattle.list.specs.Pick.{pick, both}
use Rattle.code.specs.declared.Code.{Code}
use Rattle.token.specs.Table.{token, is_none, places, bad_table, token_at, tokens_of, over, no_id}
use Rattle.token.specs.declared.Token.{Token}
use Rattle.lookup.specs.Lookup.{lookup_of}
use Rattle.names.specs.Names.{NameList, name_list, count, sound}
use Rattle.name_ids.specs.NameIds.{Named, outer_named}
use Rattle.compose.specs.declared.Map.{Map}

-- a token of the result, and the added names once it is made
pub record Made : Type 0 where
  pub token : Token
  pub added : List ℕ

-- unmapped: source position 0, 0, no ids; where its segment begins stays
abbrev pub unmapped : Token → List ℕ → Made
unmapped t added = record { token = token t.dst_line t.dst_col 0 0 no_id no_id t.segment; added = added }

-- source position and id of the found token o; where its segment begins stays the outer token's
abbrev pub mapped_to : Token → Token → Named → Made
mapped_to t o n =
    record { token = token t.dst_line t.dst_col o.src_line o.src_col o.source_id n.id t.segment; added = n.added }

-- its name id if it has one, within the inner list or not, else the outer name's id
abbrev pub found : NameList → NameList → List ℕ → List ℕ → Token → Option ℕ → Made
found inner outer table added t None = unmapped t added
found inner outer table added t (Some i) =
    pick (is_none (token_at table i).source_id) (unmapped t added)
    (mapped_to t (token_at table i)
    (pick (is_none (token_at table i).name_id) (outer_named inner outer added t.name_id) (record { id = (token_at table i).name_id; added = added })))

-- one outer token, over the inner table
unfoldable pub made_of : NameList → NameList → List ℕ → List ℕ → Token → Made
made_of inner outer table added t =
    pick (is_none t.source_id) (unmapped t added)
    (found inner outer table added t (lookup_of table t.src_line t.src_col))

-- the result's tokens, and the outer ids of the added names
pub record Composition : Type 0 where
  pub tokens : List Token
  pub added : List ℕ

abbrev pub ahead : Token → Composition → Composition
ahead t r = record { tokens = t ∷ r.tokens; added = r.added }

unfoldable pub composed_from : NameList → NameList → List ℕ → List ℕ → List Token → Composition
composed_from inner outer table added [] = record { tokens = []; added = added }
composed_from inner outer table added (t ∷ ts) =
    ahead (made_of inner outer table added t).token (composed_from inner outer table (made_of inner outer table added t).added ts)

-- what is composed: the outer table, its source count and names, and the inner table and names
pub record Maps : Type 0 where
  pub outer : List ℕ
  pub sources : ℕ
  pub outer_names : NameList
  pub inner : List ℕ
  pub inner_names : NameList

-- the lent slices as maps
abbrev pub maps_of : List ℕ → ℕ → List ℕ → List ℕ → List ℕ → List ℕ → List ℕ → Maps
maps_of outer sources outerText outerEnds inner innerText innerEnds =
    record { outer = outer; sources = sources; outer_names = name_list outerText outerEnds; inner = inner; inner_names = name_list innerText innerEnds }

-- and two values of the code, with the count of outer sources
abbrev pub maps : Map → ℕ → Map → Maps
maps outer sources inner =
    maps_of outer.table.now sources outer.names.text.now outer.names.ends.now inner.table.now inner.names.text.now inner.names.ends.now

abbrev pub result_of : Maps → Composition
result_of m = composed_from m.inner_names m.outer_names m.inner [] (tokens_of m.outer)

-- the tests in order, with room for so many numbers of the result and so many added names; else how many names are added
unfoldable pub composed : Maps → ℕ → ℕ → Result ℕ Code
composed m numbers room =
    pick (ltb 1 m.sources) (Err Code.MoreThanOneSource)
    (pick (bad_table (length m.outer)) (Err Code.BadTable)
    (pick (bad_table (length m.inner)) (Err Code.BadTable)
    (pick (sound m.outer_names)
    (pick (sound m.inner_names)
    (pick (ltb (places numbers) (places (length m.outer))) (Err Code.TableFull)
    (pick (ltb room (count m.outer_names)) (Err (Code.NoRoom (count m.outer_names)))
    (Ok (length (result_of m).added))))
    (Err Code.BadNames))
    (Err Code.BadNames))))

-- a composition's answer, and what the lent result and the lent list of added names hold then
pub record Composes (m : Maps) (result added : List ℕ) (r : Result ℕ Code) (result' added' : List ℕ) : Type 0 where
  pub says : r ≡ composed m (length result) (length added)
  pub wrote : result' ≡ pick (is_ok (composed m (length result) (length added))) (over (result_of m).tokens result) result
  pub listed : added' ≡ pick (is_ok (composed m (length result) (length added))) (onto (result_of m).added added) added

-- ---- with lent working memory

-- the places it takes: two for each inner name and three for each outer one
abbrev pub work_for : Maps → ℕ
work_for m = 2 * count m.inner_names + 3 * count m.outer_names

-- the same tests and the same answer; last of all, whether there are so many places
unfoldable pub composed_with : Maps → ℕ → ℕ → ℕ → Result ℕ Code
composed_with m numbers room work =
    pick (both (ltb work (work_for m)) (is_ok (composed m numbers room))) (Err (Code.NoRoom (work_for m)))
    (composed m numbers room)

-- the answer, and what the lent result and the lent list hold then; the working memory is as it was where it is refused, and else left open
pub record ComposesWith (m : Maps) (result added work : List ℕ) (r : Result ℕ Code) (result' added' work' : List ℕ) : Type 0 where
  pub says : r ≡ composed_with m (length result) (length added) (length work)
  pub wrote : result' ≡ pick (is_ok (composed_with m (length result) (length added) (length work))) (over (result_of m).tokens result) result
  pub listed : added' ≡ pick (is_ok (composed_with m (length result) (length added) (length work))) (onto (result_of m).added added) added
  pub kept : is_ok (composed_with m (length result) (length added) (length work)) ≡ false → work' ≡ work
