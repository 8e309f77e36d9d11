-- A run of ECMA-426's digits is read as the standard reads it. Assumes nothing.
use mathlib.Core.Path.{◌≡◌, ◌∙◌, ap}
use mathlib.Core.Bool.{true}
use mathlib.Core.List.{List, ◌++◌}
use Prim.Native.Nat.{ℕ, ◌+◌, ◌-◌, ◌*◌, ◌%◌, ◌≤◌}
use native.Mathlib.Omega.{arith}
use lib.Dec.{leb, ltb}
use lib.ListN.{length}
use borrow.Author.Tests.{ltb-true, leb-true, le-ltb, ne_eqb}
use Rattle.list.specs.Pick.{both}
use Rattle.list.proofs.Pick.{both_true}
use Rattle.digits.proofs.Tables.{char}
use Rattle.value.specs.Standard.{Run, terminal, goes_on, is_run, unsigned}
use Rattle.value.proofs.Standard.{value_standard}
use Rattle.vlq.specs.Vlq.{num, digits_from, vlq_from, vlq_of}
use Rattle.vlq.specs.Runs.{spell, ByTheStandard}

read : (r : Run) (rest : List ℕ) (left : ℕ) → is_run r ≡ true → length (spell r) ≤ left → digits_from left (spell r ++ rest) ≡ num (unsigned r) (length (spell r))
unfolding spell is_run unsigned digits_from
read (terminal d) rest left g h =
    let l = ltb-true d 32 g in
    let p = char d (omega (arith, l)) in rw (p.delim, ne_eqb left 0 (λ e. omega arith), p.reads, g)
read (goes_on d r) rest left g h =
    let a = both_true (leb 32 d) (both (ltb d 64) (is_run r)) g in
    let b = both_true (ltb d 64) (is_run r) a.1 in
    let p = char d (ltb-true d 64 b.0) in
    let n : d % 32 + 32 * unsigned r ≡ d - 32 + 32 * unsigned r = omega (arith, leb-true 32 d a.0, ltb-true d 64 b.0) in
    rw (p.delim, ne_eqb left 0 (λ e. omega arith), p.reads, le-ltb d 32 (leb-true 32 d a.0), read r rest (left - 1) b.1 (omega arith), n)
    (ap (num (d - 32 + 32 * unsigned r)) (omega arith))

opens : (r : Run) (rest : List ℕ) (at : ℕ) → is_run r ≡ true → vlq_of at (spell r ++ rest) ≡ vlq_from at (digits_from 13 (spell r ++ rest))
unfolding spell is_run vlq_of
opens (terminal d) rest at g = rw (char d (omega (arith, ltb-true d 32 g))).delim
opens (goes_on d r) rest at g =
    let a = both_true (leb 32 d) (both (ltb d 64) (is_run r)) g in
    rw (char d (ltb-true d 64 (both_true (ltb d 64) (is_run r) a.1).0)).delim

pub by_the_standard : ByTheStandard
by_the_standard r rest at g h =
    record { number = opens r rest at g ∙ ap (vlq_from at) (read r rest 13 g h); value = value_standard r }
