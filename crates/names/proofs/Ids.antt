-- The names of result ids, case by case. Assumes nothing.
use mathlib.Core.Path.{◌≡◌}
use mathlib.Core.Bool.{Bool, true, false}
use mathlib.Core.List.{List, []}
use Rattle.std.specs.Prelude.{Some, None}
use Prim.Native.Nat.{ℕ, ◌-◌, ◌≤◌, ◌<◌}
use lib.Dec.{ltb}
use lib.ListN.{length, get_or}
use borrow.Author.Tests.{ltb-true, lt-ltb, le-ltb}
use Rattle.list.specs.Pick.{pick, both}
use Rattle.names.specs.Names.{NameList, count, sound, name_at, exists, place_at, place_of, name_of}
use Rattle.list.proofs.Pick.{both_true}

module _ (inner outer : NameList) (added : List ℕ) (id : ℕ) where
  abbrev has : Bool
  has = exists inner outer added id

  -- ---- whether the id exists
  pub inner_bad : sound inner ≡ false → false ≡ has
  unfolding exists
  inner_bad e = rw e

  pub outer_bad : sound inner ≡ true → sound outer ≡ false → false ≡ has
  unfolding exists
  outer_bad e f = rw (e, f)

  pub in_inner : sound inner ≡ true → sound outer ≡ true → id < count inner → true ≡ has
  unfolding exists
  in_inner e f h = rw (e, f, lt-ltb id (count inner) h)

  pub past_added : sound inner ≡ true → sound outer ≡ true → count inner ≤ id → length added ≤ id - count inner → false ≡ has
  unfolding exists
  past_added e f h k = rw (e, f, le-ltb id (count inner) h, le-ltb (id - count inner) (length added) k)

  pub in_added : sound inner ≡ true → sound outer ≡ true → count inner ≤ id → id - count inner < length added
      → ltb (get_or added (id - count inner) 0) (count outer) ≡ has
  unfolding exists
  in_added e f h k = rw (e, f, le-ltb id (count inner) h, lt-ltb (id - count inner) (length added) k)

  -- ---- what follows where it exists
  module _ (e : has ≡ true) where
    abbrev rest : Bool
    rest =
        pick (ltb id (count inner)) true
        (both (ltb (id - count inner) (length added)) (ltb (get_or added (id - count inner) 0) (count outer)))

    parts : (sound inner ≡ true) × (both (sound outer) rest ≡ true)
    unfolding exists
    parts = both_true (sound inner) (both (sound outer) rest) e

    pub inner_sound : sound inner ≡ true
    inner_sound = parts.0

    pub outer_sound : sound outer ≡ true
    outer_sound = (both_true (sound outer) rest parts.1).0

    module _ (h : count inner ≤ id) where
      place : both (ltb (id - count inner) (length added)) (ltb (get_or added (id - count inner) 0) (count outer)) ≡ true
      place = rw (le-ltb id (count inner) h) at (both_true (sound outer) rest parts.1).1

      pub added_place : id - count inner < length added
      added_place = ltb-true (id - count inner) (length added) (both_true (ltb (id - count inner) (length added)) (ltb (get_or added (id - count inner) 0) (count outer)) place).0

      pub added_name : get_or added (id - count inner) 0 < count outer
      added_name = ltb-true (get_or added (id - count inner) 0) (count outer) (both_true (ltb (id - count inner) (length added)) (ltb (get_or added (id - count inner) 0) (count outer)) place).1

      pub outer_name : name_at outer (get_or added (id - count inner) 0) ≡ name_of inner outer added id
      unfolding name_of
      outer_name = rw (e, le-ltb id (count inner) h)

      pub outer_place : Some (place_at true outer (get_or added (id - count inner) 0)) ≡ place_of inner outer added id
      unfolding place_of
      outer_place = rw (e, le-ltb id (count inner) h)

    module _ (h : id < count inner) where
      pub inner_name : name_at inner id ≡ name_of inner outer added id
      unfolding name_of
      inner_name = rw (e, lt-ltb id (count inner) h)

      pub inner_place : Some (place_at false inner id) ≡ place_of inner outer added id
      unfolding place_of
      inner_place = rw (e, lt-ltb id (count inner) h)

  -- ---- where it does not
  module _ (e : has ≡ false) where
    pub no_name : [] ≡ name_of inner outer added id
    unfolding name_of
    no_name = rw e

    pub no_place : None ≡ place_of inner outer added id
    unfolding place_of
    no_place = rw e
