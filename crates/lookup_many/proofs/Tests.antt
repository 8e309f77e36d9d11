-- The tests of a call, in order. Assumes nothing.
use mathlib.Core.Path.{◌≡◌, refl}
use mathlib.Core.Bool.{true, false}
use mathlib.Core.List.{List}
use Prim.Native.Nat.{ℕ, ◌%◌, ◌≤◌, ◌<◌}
use lib.Dec.{ltb}
use native.Mathlib.Omega.{arith}
use lib.ListN.{length}
use borrow.Author.Tests.{eq-eqb, ne_eqb, lt-ltb, le-ltb, ltb-false}
use Rattle.list.proofs.Pick.{pick_ind}
use Rattle.std.specs.Prelude.{Result, Ok, Err, ⊤}
use Rattle.code.specs.Code.{code_of, answer_of}
use Rattle.code.specs.declared.Code.{Code}
use Rattle.token.specs.Table.{bad_table}
use Rattle.lookup_many.specs.Many.{pairs, odd_list, many_to}

-- no code is 0
not_zero : (c : Code) → code_of c ≡ 0 → ⊥
not_zero Code.VlqLeftover e = absurd (omega arith)
not_zero Code.VlqOverflow e = absurd (omega arith)
not_zero (Code.BadSegmentSize n) e = absurd (omega arith)
not_zero (Code.BadSourceReference n) e = absurd (omega arith)
not_zero (Code.BadNameReference n) e = absurd (omega arith)
not_zero (Code.WideValue n) e = absurd (omega arith)
not_zero Code.TableFull e = absurd (omega arith)
not_zero (Code.NoRoom n) e = absurd (omega arith)
not_zero (Code.LineGoesBack n) e = absurd (omega arith)
not_zero Code.BadChunk e = absurd (omega arith)
not_zero Code.BadTable e = absurd (omega arith)
not_zero (Code.TooBig n) e = absurd (omega arith)
not_zero Code.MoreThanOneSource e = absurd (omega arith)
not_zero Code.BadNames e = absurd (omega arith)
not_zero Code.OddList e = absurd (omega arith)
not_zero (Code.Unsorted n) e = absurd (omega arith)

-- an answer of code 0 is done
pub done_is : (r : Result ⊤ Code) → (answer_of r).code ≡ 0 → r ≡ Ok tt
done_is (Ok t) e = refl
done_is (Err c) e = absurd (not_zero c e)

module _ (table positions : List ℕ) (room : ℕ) where
  pub bad : bad_table (length table) ≡ true → Err Code.BadTable ≡ many_to table positions room
  unfolding many_to
  bad e = rw e

  module _ (good : bad_table (length table) ≡ false) where
    pub odd : length positions % 2 ≡ 1 → Err Code.OddList ≡ many_to table positions room
    unfolding many_to
    odd e = rw (good, eq-eqb (length positions % 2) 1 e)

    module _ (even : length positions % 2 ≡ 1 → ⊥) where
      pub no_room : room < pairs (length positions) → Err (Code.NoRoom (pairs (length positions))) ≡ many_to table positions room
      unfolding many_to
      no_room h = rw (good, ne_eqb (length positions % 2) 1 even, lt-ltb room (pairs (length positions)) h)

      pub done : pairs (length positions) ≤ room → Ok tt ≡ many_to table positions room
      unfolding many_to
      done h = rw (good, ne_eqb (length positions % 2) 1 even, le-ltb room (pairs (length positions)) h)

  -- nothing is refused
  pub opens : Ok tt ≡ many_to table positions room → (bad_table (length table) ≡ false) × (pairs (length positions) ≤ room)
  unfolding many_to
  opens = leads
    where
      If : Result ⊤ Code → Type 0
      If r = Ok tt ≡ r → (bad_table (length table) ≡ false) × (pairs (length positions) ≤ room)

      leads : If (many_to table positions room)
      leads =
          pick_ind If (bad_table (length table)) (λ b z. absurd (cc))
          (λ b. pick_ind If (odd_list (length positions)) (λ o z. absurd (cc))
          (λ o. pick_ind If (ltb room (pairs (length positions))) (λ r z. absurd (cc)) (λ r z. (b, ltb-false room (pairs (length positions)) r))))
