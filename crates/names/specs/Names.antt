-- docs/RULES.md, Names: name lists. Assumes nothing.
use Rattle.std.specs.Prelude.{Bool, true, false, Option, Some, None, List, [], ◌∷◌, ℕ, zero, suc, ◌-◌, leb, ltb, length, take, drop, get_or}
use Rattle.list.specs.Pick.{pick, both}
use Rattle.names.specs.declared.NamePlace.{NamePlace}
use Rattle.names.specs.declared.Names.{Names}

-- a name list: a text, and where each name ends in it
pub record NameList : Type 0 where
  pub text : List ℕ
  pub ends : List ℕ

-- a lent text and its lent ends
abbrev pub name_list : List ℕ → List ℕ → NameList
name_list text ends = record { text = text; ends = ends }

-- the name list that a value of the code holds
abbrev pub list_of : Names → NameList
list_of names = name_list names.text.now names.ends.now

abbrev pub count : NameList → ℕ
count l = length l.ends

-- a name runs from the end before it, the first from 0
abbrev pub begin_of : List ℕ → ℕ → ℕ
begin_of ends zero = 0
begin_of ends (suc k) = get_or ends k 0

-- the ends never fall, from one on
unfoldable pub rises : ℕ → List ℕ → Bool
rises from [] = true
rises from (e ∷ es) = both (leb from e) (rises e es)

-- never falling, the last within the text, at most 2,147,483,647 names
unfoldable pub sound : NameList → Bool
sound l = both (leb (count l) 2147483647) (both (rises 0 l.ends) (leb (begin_of l.ends (count l)) (length l.text)))

-- the bytes of the k-th name
unfoldable pub name_at : NameList → ℕ → List ℕ
name_at l k = take (get_or l.ends k 0 - begin_of l.ends k) (drop (begin_of l.ends k) l.text)

-- ---- the names of result ids: the inner names, and then the outer names that composing added, by their outer ids

-- the id exists: both lists are sound, and it is below the inner count or a place of the added list whose entry is below the outer count
unfoldable pub exists : NameList → NameList → List ℕ → ℕ → Bool
exists inner outer added id =
    both (sound inner) (both (sound outer)
    (pick (ltb id (count inner)) true
    (both (ltb (id - count inner) (length added)) (ltb (get_or added (id - count inner) 0) (count outer)))))

-- where the k-th name of a list stands, in the outer text or in the inner one
abbrev pub place_at : Bool → NameList → ℕ → NamePlace
place_at outer l k = record { outer = outer; start = begin_of l.ends k; end = get_or l.ends k 0 }

-- where its name stands, if it exists
unfoldable pub place_of : NameList → NameList → List ℕ → ℕ → Option NamePlace
place_of inner outer added id =
    pick (exists inner outer added id)
    (pick (ltb id (count inner)) (Some (place_at false inner id)) (Some (place_at true outer (get_or added (id - count inner) 0))))
    None

-- the name's bytes, empty for an unknown id or a bad list
unfoldable pub name_of : NameList → NameList → List ℕ → ℕ → List ℕ
name_of inner outer added id =
    pick (exists inner outer added id)
    (pick (ltb id (count inner)) (name_at inner id) (name_at outer (get_or added (id - count inner) 0)))
    []
