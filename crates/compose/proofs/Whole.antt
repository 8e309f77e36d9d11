-- From the tests to the whole answer: a refusal, and what is written else, with working memory or without. Assumes nothing.
use mathlib.Core.Path.{◌≡◌, refl, ap, sym, ◌∙◌}
use mathlib.Core.Bool.{Bool, true, false}
use mathlib.Core.List.{List}
use Prim.Native.Nat.{ℕ, ◌+◌, ◌≤◌, ◌<◌}
use native.Mathlib.Omega.{arith}
use lib.Dec.{ltb}
use lib.ListN.{length}
use borrow.Author.Tests.{lt-ltb, le-ltb}
use Rattle.std.specs.Prelude.{Result, Ok, Err, is_ok}
use Rattle.list.specs.Pick.{pick, both}
use Rattle.code.specs.declared.Code.{Code}
use Rattle.names.specs.Names.{count}
use Rattle.names.proofs.Ends.{few}
use Rattle.compose.specs.Compose.{Maps, result_of, composed, work_for, composed_with, Composes, ComposesWith}
use Rattle.compose.specs.Steps.{Written, refusal_of}
use Rattle.compose.proofs.Tests.{Opens, err_is}

-- ---- where the working memory suffices, both entries answer alike; so do they where the plain one refuses
module _ (m : Maps) (numbers room work : ℕ) where
  pub with_enough : work_for m ≤ work → composed_with m numbers room work ≡ composed m numbers room
  unfolding composed_with
  with_enough h = rw (le-ltb work (work_for m) h)

  pub with_refused : (c : Code) → composed m numbers room ≡ Err c → composed_with m numbers room work ≡ Err c
  unfolding composed_with
  with_refused c e = rw e (by (ltb work (work_for m)))
    where
      by : (t : Bool) → ◌≡◌ {A = Result ℕ Code} (pick (both t false) (Err (Code.NoRoom (work_for m))) (Err c)) (Err c)
      by true = refl
      by false = refl

  pub with_less : (n : ℕ) → composed m numbers room ≡ Ok n → work < work_for m → composed_with m numbers room work ≡ Err (Code.NoRoom (work_for m))
  unfolding composed_with
  with_less n e h = rw (lt-ltb work (work_for m) h, e)

-- ---- without working memory
module _ (m : Maps) (result added : List ℕ) where
  abbrev all : Result ℕ Code
  all = composed m (length result) (length added)

  pub refusing : (c : Code) → Err c ≡ refusal_of all → Composes m result added (Err c) result added
  refusing c e = let x : all ≡ Err c = err_is all c e in record { says = sym x; wrote = rw x; listed = rw x }

  module _ (o : Opens m (length result) (length added)) where
    pub few_inner : count m.inner_names ≤ 2147483647
    few_inner = few m.inner_names o.ready.first

    pub few_outer : count m.outer_names ≤ 2147483647
    few_outer = few m.outer_names o.ready.second

    pub written : (r : ℕ) (result' added' : List ℕ) → Written (result_of m) result added r result' added' → Composes m result added (Ok r) result' added'
    written r result' added' w = record { says = ap Ok w.counts ∙ sym o.is; wrote = w.wrote ∙ rw o.is; listed = w.listed ∙ rw o.is }

-- ---- and with it
module _ (m : Maps) (result added work : List ℕ) where
  abbrev whole : Result ℕ Code
  whole = composed_with m (length result) (length added) (length work)

  refused : (c : Code) → whole ≡ Err c → ComposesWith m result added work (Err c) result added work
  refused c x = record { says = sym x; wrote = rw x; listed = rw x; kept = λ _. refl }

  pub refusing_with : (c : Code) → Err c ≡ refusal_of (all m result added) → ComposesWith m result added work (Err c) result added work
  refusing_with c e = refused c (with_refused m (length result) (length added) (length work) c (err_is (all m result added) c e))

  module _ (o : Opens m (length result) (length added)) (needed : ℕ)
      (en : needed ≡ count m.inner_names + count m.outer_names + (count m.inner_names + count m.outer_names) + count m.outer_names) where
    is_needed : needed ≡ work_for m
    is_needed = omega (arith, en)

    -- too few places
    pub short : length work < needed → ComposesWith m result added work (Err (Code.NoRoom needed)) result added work
    short h =
        refused (Code.NoRoom needed)
        (with_less m (length result) (length added) (length work) (length (result_of m).added) o.is (omega (arith, is_needed))
        ∙ ap (λ n. Err (Code.NoRoom n)) (sym is_needed))

    -- enough
    module _ (h : needed ≤ length work) where
      pub room : count m.inner_names + count m.outer_names + (count m.inner_names + count m.outer_names) + count m.outer_names ≤ length work
      room = omega (arith, en)

      pub written_with : (r : ℕ) (result' added' work' : List ℕ) → Written (result_of m) result added r result' added'
          → ComposesWith m result added work (Ok r) result' added' work'
      written_with r result' added' work' w =
          let x : whole ≡ Ok (length (result_of m).added) = with_enough m (length result) (length added) (length work) (omega (arith, is_needed)) ∙ o.is in
          record {
            says = ap Ok w.counts ∙ sym x;
            wrote = w.wrote ∙ rw x;
            listed = w.listed ∙ rw x;
            kept = λ e. let f : false ≡ true = sym e ∙ ap is_ok x in let y : ◌≡◌ {A = ℕ} 0 1 = cc in absurd (omega arith);
          }
