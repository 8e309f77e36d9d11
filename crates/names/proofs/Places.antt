-- The place of a result id's name holds the name's bytes, and lies within its text. Assumes nothing.
use mathlib.Core.Path.{◌≡◌, refl, subst}
use mathlib.Core.Bool.{Bool, true, false}
use mathlib.Core.List.{List, []}
use Rattle.std.specs.Prelude.{Option, Some, None, is_some, IfSome}
use Prim.Native.Nat.{ℕ, ◌-◌, ◌≤◌}
use lib.Dec.{ltb}
use lib.ListN.{length, take, drop, get_or}
use borrow.Author.Tests.{ltb-true, ltb-false}
use Rattle.list.specs.Pick.{pick}
use Rattle.names.specs.declared.NamePlace.{NamePlace}
use Rattle.names.specs.Names.{NameList, count, name_at, exists, place_at, place_of, name_of}
use Rattle.names.proofs.Ends.{name_within}
use Rattle.names.proofs.Ids.{inner_sound, outer_sound, added_name, no_place, inner_place, outer_place}

-- the text that a place is in, and its bytes; none where there is no place
abbrev pub text_of : NameList → NameList → NamePlace → List ℕ
text_of inner outer p = pick p.outer outer.text inner.text

abbrev pub part_of : NameList → NameList → NamePlace → List ℕ
part_of inner outer p = take (p.end - p.start) (drop p.start (text_of inner outer p))

abbrev pub bytes_at : NameList → NameList → Option NamePlace → List ℕ
bytes_at inner outer None = []
bytes_at inner outer (Some p) = part_of inner outer p

pub record Lies (inner outer : NameList) (p : NamePlace) : Type 0 where
  pub low : p.start ≤ p.end
  pub high : p.end ≤ length (text_of inner outer p)

module _ (inner outer : NameList) (added : List ℕ) (id : ℕ) where
  abbrev place : Option NamePlace
  place = place_of inner outer added id

  -- place_of, by whether the id exists and whether it is below the inner count
  abbrev chosen : Bool → Bool → Option NamePlace
  chosen t u =
      pick t (pick u (Some (place_at false inner id)) (Some (place_at true outer (get_or added (id - count inner) 0)))) None

  pub found_is : is_some place ≡ exists inner outer added id
  unfolding place_of
  found_is = go (exists inner outer added id) (ltb id (count inner))
    where
      go : (t u : Bool) → is_some (chosen t u) ≡ t
      go true true = refl
      go true false = refl
      go false u = refl

  pub place_holds : bytes_at inner outer place ≡ name_of inner outer added id
  unfolding place_of name_of name_at
  place_holds = go (exists inner outer added id) (ltb id (count inner))
    where
      go : (t u : Bool) → bytes_at inner outer (chosen t u) ≡ pick t (pick u (name_at inner id) (name_at outer (get_or added (id - count inner) 0))) []
      go true true = refl
      go true false = refl
      go false u = refl

  pub place_lies : IfSome place (Lies inner outer)
  place_lies = go (exists inner outer added id) refl (ltb id (count inner)) refl
    where
      Fine : Option NamePlace → Type 0
      Fine o = IfSome o (Lies inner outer)

      go : (t : Bool) → exists inner outer added id ≡ t → (u : Bool) → ltb id (count inner) ≡ u → Fine place
      go false e u f = subst Fine (no_place inner outer added id e) tt
      go true e true f =
          let h = ltb-true id (count inner) f in
          let w = name_within inner id (inner_sound inner outer added id e) h in
          subst Fine (inner_place inner outer added id e h) (record { low = w.low; high = w.high })
      go true e false f =
          let h = ltb-false id (count inner) f in
          let k = get_or added (id - count inner) 0 in
          let w = name_within outer k (outer_sound inner outer added id e) (added_name inner outer added id e h) in
          subst Fine (outer_place inner outer added id e h) (record { low = w.low; high = w.high })
