-- Helpers: what inner contracts and proofs need; no contract of an entry and no theorem reaches this file.
-- What the steps of composing answer, in terms of its definitions. Assumes nothing.
use Rattle.std.specs.Prelude.{◌≡◌, true, false, Option, Some, None, IfSome, Result, Ok, Err, ⊤, List, [], ℕ, ◌≤◌, length, take}
use Rattle.list.specs.Memory.{onto}
use Rattle.list.specs.Pick.{pick}
use Rattle.code.specs.declared.Code.{Code}
use Rattle.token.specs.Table.{is_none, places, bad_table, over}
use Rattle.token.specs.declared.Token.{Token}
use Rattle.seek.specs.Seek.{Halvable}
use Rattle.names.specs.Names.{NameList, count, sound}
use Rattle.name_ids.specs.NameIds.{outer_named}
use Rattle.name_ids.specs.Answers.{Searchable}
use Rattle.compose.specs.Compose.{Made, unmapped, mapped_to, made_of, Composition}
use Rattle.compose.specs.declared.Known.{Known}

abbrev pub unmapped_by : Token → Token
unmapped_by t = (unmapped t []).token

abbrev pub mapped_by : Token → Token → Token
mapped_by t o = (mapped_to t o (record { id = o.name_id; added = [] })).token

-- what an outer token becomes, over the inner token with a source that it leads to
abbrev pub made_by : NameList → NameList → List ℕ → Token → Option Token → Made
made_by inner outer added t None = unmapped t added
made_by inner outer added t (Some o) =
    mapped_to t o (pick (is_none o.name_id) (outer_named inner outer added t.name_id) (record { id = o.name_id; added = added }))

-- r is the inner token with a source that t leads to, and the next token may be sought from the place, if there is one
pub record Leads (table : List ℕ) (t : Token) (r : Option Token) (place : Option ℕ) : Type 0 where
  pub made : (inner outer : NameList) (added : List ℕ) → made_by inner outer added t r ≡ made_of inner outer table added t
  pub next : IfSome place (Halvable table)

-- the added names so far are the first of the list, and the last id that was asked for would be given the same again
pub record Knows (inner outer : NameList) (ids : List ℕ) (k : Known) : Type 0 where
  pub counts : k.count ≡ length ids
  pub remembers : outer_named inner outer ids k.last ≡ record { id = k.given; added = ids }

-- a name can be asked for
pub record Askable (inner outer : NameList) (added : List ℕ) (k : Known) : Type 0 where
  pub searchable : Searchable inner outer (take k.count added)
  pub knows : Knows inner outer (take k.count added) k
  pub roomy : count outer ≤ length added

-- what is known and listed once these names are added
pub record Lists (inner outer : NameList) (ids added : List ℕ) (k : Known) (added' : List ℕ) : Type 0 where
  pub knows : Knows inner outer ids k
  pub listed : added' ≡ onto ids added

-- nothing is refused of the outer tokens over the inner table
pub record Ready (inner outer : NameList) (table tokens : List ℕ) (numbers room : ℕ) : Type 0 where
  pub good : bad_table (length table) ≡ false
  pub first : sound inner ≡ true
  pub second : sound outer ≡ true
  pub fits : places (length tokens) ≤ places numbers
  pub roomy : count outer ≤ room

-- a result and its added names are written to the lent memory, and the names counted
pub record Written (made : Composition) (result added : List ℕ) (r : ℕ) (result' added' : List ℕ) : Type 0 where
  pub counts : r ≡ length made.added
  pub wrote : result' ≡ over made.tokens result
  pub listed : added' ≡ onto made.added added

-- whether it is refused, without the count
abbrev pub refusal_of : Result ℕ Code → Result ⊤ Code
refusal_of (Ok n) = Ok tt
refusal_of (Err c) = Err c
