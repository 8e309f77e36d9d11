-- The names of the entries, and that they stay as names are added. Assumes nothing.
use mathlib.Core.Path.{◌≡◌, ap, sym, ◌∙◌}
use mathlib.Core.List.{List, [], ◌∷◌, ◌++◌}
use Prim.Native.Nat.{ℕ, ◌+◌, ◌-◌, ◌≤◌, ◌<◌}
use native.Mathlib.Omega.{arith}
use native.Mathlib.Decide.{dec_lt}
use lib.ListN.{length, get_or, get_or-append}
use lib.Seq.{get_or-append_seam}
use borrow.Author.Tests.{lt-ltb, le-ltb}
use Rattle.names.specs.Names.{NameList, count, name_at}
use Rattle.name_index.specs.Index.{entry_name}

module _ (inner outer : NameList) (ids : List ℕ) where
  pub entry_inner : (e : ℕ) → e < count inner → entry_name inner outer ids e ≡ name_at inner (count inner - 1 - e)
  unfolding entry_name
  entry_inner e h = rw (lt-ltb e (count inner) h)

  pub entry_added : (e : ℕ) → count inner ≤ e → entry_name inner outer ids e ≡ name_at outer (get_or ids (e - count inner) 0)
  unfolding entry_name
  entry_added e h = rw (le-ltb e (count inner) h)

module _ (inner outer : NameList) (ids : List ℕ) (x : ℕ) where
  abbrev more : List ℕ
  more = ids ++ (x ∷ [])

  pub entry_stays : (e : ℕ) → e < count inner + length ids → entry_name inner outer ids e ≡ entry_name inner outer more e
  entry_stays e h =
      elim (dec_lt e (count inner)) [
        | yes l ↦ entry_inner inner outer ids e l ∙ sym (entry_inner inner outer more e l)
        | no l ↦
            let k : count inner ≤ e = omega (arith, l) in
            entry_added inner outer ids e k ∙ ap (name_at outer) (sym (get_or-append ids (x ∷ []) 0 (e - count inner) (omega arith)))
            ∙ sym (entry_added inner outer more e k)
      ]

  pub entry_new : entry_name inner outer more (count inner + length ids) ≡ name_at outer x
  entry_new =
      let z : count inner + length ids - count inner ≡ length ids = omega arith in
      entry_added inner outer more (count inner + length ids) (omega arith)
      ∙ ap (λ (i : ℕ). name_at outer (get_or more i 0)) z ∙ ap (name_at outer) (get_or-append_seam ids x [] 0)
