-- The two walks: one counts the entries, the other puts their numbers. Assumes nothing.
use mathlib.Core.Path.{◌≡◌, refl, sym, ◌∙◌, ap}
use mathlib.Core.List.{List, [], ◌∷◌, ◌++◌, append_assoc, append-nil}
use Prim.Native.Nat.{ℕ, ◌+◌, ◌*◌, ◌≤◌}
use native.Mathlib.Omega.{arith}
use lib.ListN.{length}
use Rattle.std.specs.Prelude.{Option, Some}
use Rattle.list.specs.Memory.{onto}
use Rattle.list.specs.Put.{Put}
use Rattle.list.proofs.Put.{Due, due_all, due_is, due_fits, due_put, due_none, put_is, put_onto}
use Rattle.token.specs.Table.{places}
use Rattle.token.proofs.Whole.{few}
use Rattle.changes.specs.Changes.{Entry, only_left, only_right, different, three_of, changes, listed}
use Rattle.changes.specs.Turns.{changes_on, given, entry_of, Turns}
use Rattle.changes.specs.declared.Kind.{Kind}
use Rattle.changes.specs.declared.Turn.{Turn}
use Rattle.changes.proofs.Walk.{all_done, from_start}
use Rattle.compare_tables.specs.Walks.{Walks, Counts}

-- three numbers an entry
pub length_listed : (es : List Entry) → length (listed es) ≡ 3 * length es
unfolding listed
length_listed [] = refl
length_listed (only_left i ∷ es) = omega (arith, length_listed es)
length_listed (only_right j ∷ es) = omega (arith, length_listed es)
length_listed (different i j ∷ es) = omega (arith, length_listed es)

listed_none : listed [] ≡ []
unfolding listed
listed_none = refl

listed_append : (a b : List Entry) → listed (a ++ b) ≡ listed a ++ listed b
unfolding listed
listed_append [] b = refl
listed_append (e ∷ a) b = ap (λ (l : List ℕ). three_of e ++ l) (listed_append a b) ∙ sym (append_assoc (three_of e) (listed a) (listed b))

three_long : (e : Entry) → length (three_of e) ≡ 3
three_long (only_left i) = refl
three_long (only_right j) = refl
three_long (different i j) = refl

-- what a turn that gives an entry puts
put_of : (o : Option Kind) (k : Kind) (i j : ℕ) → o ≡ Some k → listed (given o i j) ≡ three_of (entry_of k i j)
unfolding listed
put_of o k i j e = ap (λ (p : Option Kind). listed (given p i j)) e ∙ append-nil (three_of (entry_of k i j))

module _ (left right : List ℕ) where
  -- within both tables
  pub record Inside (i j : ℕ) : Type 0 where
    pub in_left : i ≤ places (length left)
    pub in_right : j ≤ places (length right)

  pub inside : (i j : ℕ) (t : Turn) → Turns left right i j t → Inside t.i t.j
  inside i j t u = record { in_left = u.in_left; in_right = u.in_right }

  pub at_start : Inside 0 0
  at_start = record { in_left = omega arith; in_right = omega arith }

  -- so many tokens of both
  pub few_tokens : Walks left right → places (length left) + places (length right) ≤ 8589934588
  few_tokens w = omega (arith, few (length left) w.left_table, few (length right) w.right_table)

  -- what is left at the end
  none_left : (i j all : ℕ) → Inside i j → all ≡ places (length left) + places (length right) → all ≤ i + j → changes_on left right i j ≡ []
  none_left i j all s e h = all_done left right i j s.in_left s.in_right (omega (arith, e))

  -- ---- counting
  pub record Counted (i j entries : ℕ) : Type 0 where
    pub within : Inside i j
    pub small : entries ≤ i + j
    pub sum : length (changes left right) ≡ entries + length (changes_on left right i j)

  pub count_end : (i j all entries : ℕ) → Counted i j entries → all ≡ places (length left) + places (length right) → all ≤ i + j → Counts left right entries
  count_end i j all entries c e h =
      record {
        is = omega (arith, c.sum, ap length (none_left i j all c.within e h));
        most = omega (arith, c.small, c.within.in_left, c.within.in_right);
      }

  -- ---- writing
  pub record Written (out₀ : List ℕ) (i j at : ℕ) (out : List ℕ) : Type 0 where
    pub within : Inside i j
    pub due : Due out₀ 0 (listed (changes left right)) (listed (changes_on left right i j)) at out

  pub write_start : (out : List ℕ) → length (listed (changes left right)) ≤ length out → Written out 0 0 0 out
  write_start out h =
      record {
        within = at_start;
        due = due_is out 0 _ _ _ 0 out (ap listed (sym (from_start left right))) (due_all out 0 (listed (changes left right)) (omega arith));
      }

  module _ (out₀ : List ℕ) (i j at : ℕ) (out : List ℕ) (w : Written out₀ i j at out) where
    module _ (t : Turn) (u : Turns left right i j t) where
      split : Due out₀ 0 (listed (changes left right)) (listed (given t.kind i j) ++ listed (changes_on left right t.i t.j)) at out
      split = due_is _ _ _ _ _ _ _ (ap listed u.gives ∙ listed_append (given t.kind i j) (changes_on left right t.i t.j)) w.due

      module _ (k : Kind) (e : t.kind ≡ Some k) where
        pub write_room : at + 3 ≤ length out
        write_room =
            omega (arith, due_fits out₀ 0 (listed (changes left right)) (listed (given t.kind i j)) (listed (changes_on left right t.i t.j)) at out split, ap length (put_of t.kind k i j e), three_long (entry_of k i j))

        pub write_turn : (at' : ℕ) (out' : List ℕ) → Put out at (three_of (entry_of k i j)) at' out' → Written out₀ t.i t.j at' out'
        write_turn at' out' p =
            record {
              within = inside i j t u;
              due = due_put out₀ 0 (listed (changes left right)) (listed (given t.kind i j)) (listed (changes_on left right t.i t.j)) at out split at' out' (put_is out at _ _ at' out' (sym (put_of t.kind k i j e)) p);
            }

    pub write_end : (all : ℕ) → all ≡ places (length left) + places (length right) → all ≤ i + j → out ≡ onto (listed (changes left right)) out₀
    write_end all e h = (put_onto _ _ _ _ (due_none _ _ _ _ _ _ w.due (ap listed (none_left i j all w.within e h) ∙ listed_none))).1
