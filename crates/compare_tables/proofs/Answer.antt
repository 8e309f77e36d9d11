-- What a comparison answers, branch by branch; and that there is one answer. Assumes nothing.
use mathlib.Core.Path.{◌≡◌, refl, sym, ◌∙◌, ap, subst}
use mathlib.Core.Bool.{Bool, true, false}
use mathlib.Core.List.{List, [], ◌∷◌}
use Prim.Native.Nat.{ℕ, ◌*◌, ◌≤◌, ◌<◌}
use native.Mathlib.Omega.{arith}
use lib.Dec.{ltb}
use lib.ListN.{length}
use borrow.Author.Tests.{lt-ltb, le-ltb, ltb-false}
use Rattle.std.specs.Prelude.{Option, Some, None, Result, Ok, Err, is_none}
use Rattle.list.specs.Pick.{pick}
use Rattle.code.specs.declared.Code.{Code}
use Rattle.token.specs.Table.{bad_table, tokens_of, SameTokens}
use Rattle.token.proofs.Whole.{few}
use Rattle.order.specs.Order.{first_fall, FallSays}
use Rattle.order.proofs.Falls.{sorted_says}
use Rattle.changes.specs.Changes.{Entry, changes, listed}
use Rattle.changes.proofs.Empty as empty
use Rattle.compare_tables.specs.Compare.{unless_falls, roomed, compared, Compares, Lists, DoneLists, EmptyIsSame}
use Rattle.compare_tables.specs.Walks.{Walks}
use Rattle.compare_tables.proofs.Loops.{length_listed}

-- the index of a token has 32 bits
pub falls_small : (table : List ℕ) (i : ℕ) → bad_table (length table) ≡ false → Some i ≡ first_fall table → i < 4294967296
falls_small table i good e = let f = subst (FallSays table) (sym e) (sorted_says table) in omega (arith, f.within, few (length table) good)

module _ (left right : List ℕ) (room : ℕ) where
  pub bad_left : bad_table (length left) ≡ true → Err Code.BadTable ≡ compared left right room
  unfolding compared
  bad_left b = rw b

  module _ (bl : bad_table (length left) ≡ false) where
    pub bad_right : bad_table (length right) ≡ true → Err Code.BadTable ≡ compared left right room
    unfolding compared
    bad_right b = rw (bl, b)

    module _ (br : bad_table (length right) ≡ false) where
      pub left_falls : (i : ℕ) → Some i ≡ first_fall left → Err (Code.Unsorted i) ≡ compared left right room
      unfolding compared
      left_falls i e = rw (bl, br, ← e)

      module _ (fl : None ≡ first_fall left) where
        pub right_falls : (i : ℕ) → Some i ≡ first_fall right → Err (Code.Unsorted i) ≡ compared left right room
        unfolding compared
        right_falls i e = rw (bl, br, ← fl, ← e)

        module _ (fr : None ≡ first_fall right) where
          pub walks : Walks left right
          walks = record { left_table = bl; right_table = br; left_sorted = ap is_none (sym fl); right_sorted = ap is_none (sym fr) }

          module _ (entries : ℕ) (e : entries ≡ length (changes left right)) where
            counted : compared left right room ≡ roomed room entries
            unfolding compared
            counted = rw (bl, br, ← fl, ← fr, e)

            pub short : room < 3 * entries → Err (Code.NoRoom (3 * entries)) ≡ compared left right room
            short h = sym (counted ∙ rw (lt-ltb room (3 * entries) h))

            pub enough : 3 * entries ≤ room → Ok entries ≡ compared left right room
            enough h = sym (counted ∙ rw (le-ltb room (3 * entries) h))

-- ---- done: both tables can be walked, and there is room
pub record Ready (left right : List ℕ) (room entries : ℕ) : Type 0 where
  pub walks : Walks left right
  pub counted : entries ≡ length (changes left right)
  pub room_for : length (listed (changes left right)) ≤ room

module _ (left right : List ℕ) (room entries : ℕ) where
  roomy : Walks left right → (t : Bool) → ltb room (3 * length (changes left right)) ≡ t
      → Ok entries ≡ pick t (Err (Code.NoRoom (3 * length (changes left right)))) (Ok (length (changes left right))) → Ready left right room entries
  roomy w true et e = cc
  roomy w false et e =
      record { walks = w; counted = cc; room_for = omega (arith, length_listed (changes left right), ltb-false room (3 * length (changes left right)) et) }

  sorted_both : bad_table (length left) ≡ false → bad_table (length right) ≡ false → (o : Option ℕ) → first_fall left ≡ o → (p : Option ℕ) → first_fall right ≡ p
      → Ok entries ≡ unless_falls o (unless_falls p (roomed room (length (changes left right)))) → Ready left right room entries
  sorted_both ea eb (Some i) eo p ep e = cc
  sorted_both ea eb None eo (Some i) ep e = cc
  sorted_both ea eb None eo None ep e = roomy (walks left right room ea eb (sym eo) (sym ep)) (ltb room (3 * length (changes left right))) refl e

  tables : (a : Bool) → bad_table (length left) ≡ a → (b : Bool) → bad_table (length right) ≡ b
      → Ok entries ≡ pick a (Err Code.BadTable) (pick b (Err Code.BadTable) (unless_falls (first_fall left) (unless_falls (first_fall right) (roomed room (length (changes left right))))))
      → Ready left right room entries
  tables true ea b eb e = cc
  tables false ea true eb e = cc
  tables false ea false eb e = sorted_both ea eb (first_fall left) refl (first_fall right) refl e

  pub ready : Ok entries ≡ compared left right room → Ready left right room entries
  unfolding compared
  ready e = tables (bad_table (length left)) refl (bad_table (length right)) refl e

-- there is one answer
pub one_answer : (left right out : List ℕ) (r s : Result ℕ Code) (x y : List ℕ) → Compares left right out r x → Compares left right out s y → (r ≡ s) × (x ≡ y)
one_answer left right out r s x y a b = (a.says ∙ sym b.says, a.wrote ∙ sym b.wrote)

-- ---- what a call that is done says
module _ (left right out : List ℕ) (entries : ℕ) (out' : List ℕ) (c : Compares left right out (Ok entries) out') where
  abbrev is : Ready left right (length out) entries
  is = ready left right (length out) entries c.says

  lists : Lists left right out entries out'
  lists =
      record {
        left_sorted = is.walks.left_sorted;
        right_sorted = is.walks.right_sorted;
        counted = is.counted;
        stands = c.wrote ∙ rw (← c.says);
      }

  none_counted : entries ≡ 0 → changes left right ≡ []
  none_counted e = no_length (changes left right) (sym is.counted ∙ e)
    where
      no_length : (es : List Entry) → length es ≡ 0 → es ≡ []
      no_length [] q = refl
      no_length (x ∷ es) q = absurd (omega (arith, q))

  empty_same : (entries ≡ 0 → SameTokens (tokens_of left) (tokens_of right)) × (SameTokens (tokens_of left) (tokens_of right) → entries ≡ 0)
  empty_same = (
    (λ e. (empty.empty_is_same left right is.walks.left_sorted is.walks.right_sorted).same (none_counted e)),
    (λ e. is.counted ∙ ap length ((empty.empty_is_same left right is.walks.left_sorted is.walks.right_sorted).empty e)),
  )

pub done_lists : DoneLists
done_lists left right out entries out' c = lists left right out entries out' c

pub empty_is_same : EmptyIsSame
empty_is_same left right out entries out' c = empty_same left right out entries out' c
