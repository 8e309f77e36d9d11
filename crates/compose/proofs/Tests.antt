-- The tests of composing, in order, and what holds where none refuses. Assumes nothing.
use mathlib.Core.Path.{◌≡◌, refl}
use mathlib.Core.Bool.{true, false}
use Prim.Native.Nat.{ℕ, ◌≤◌, ◌<◌}
use native.Mathlib.Omega.{arith}
use lib.Dec.{ltb}
use lib.ListN.{length}
use borrow.Author.Tests.{ltb-false, lt-ltb, le-ltb}
use Rattle.std.specs.Prelude.{Result, Ok, Err, ⊤}
use Rattle.list.proofs.Pick.{pick_ind}
use Rattle.code.specs.declared.Code.{Code}
use Rattle.token.specs.Table.{places, bad_table}
use Rattle.names.specs.Names.{count, sound}
use Rattle.compose.specs.Compose.{Maps, result_of, composed}
use Rattle.compose.specs.Steps.{Ready, refusal_of}

-- ---- answers
ok_err : {A : Type 0} (c : Code) → ◌≡◌ {A = Result ⊤ Code} (Ok tt) (Err c) → A
ok_err c e = let y : ◌≡◌ {A = ℕ} 0 1 = cc in absurd (omega arith)

pub ok_is : (a b : ℕ) → ◌≡◌ {A = Result ℕ Code} (Ok a) (Ok b) → a ≡ b
ok_is a b e = cc

-- a refusal is the whole answer
pub err_is : (x : Result ℕ Code) (c : Code) → Err c ≡ refusal_of x → x ≡ Err c
err_is (Ok n) c e = let y : ◌≡◌ {A = ℕ} 0 1 = cc in absurd (omega arith)
err_is (Err d) c e = cc

module _ (m : Maps) (numbers room : ℕ) where
  abbrev tested : Result ⊤ Code
  tested = refusal_of (composed m numbers room)

  pub many : 1 < m.sources → Err Code.MoreThanOneSource ≡ tested
  unfolding composed
  many h = rw (lt-ltb 1 m.sources h)

  module _ (s : m.sources ≤ 1) where
    pub bad_outer : bad_table (length m.outer) ≡ true → Err Code.BadTable ≡ tested
    unfolding composed
    bad_outer e = rw (le-ltb 1 m.sources s, e)

    module _ (o : bad_table (length m.outer) ≡ false) where
      pub bad_inner : bad_table (length m.inner) ≡ true → Err Code.BadTable ≡ tested
      unfolding composed
      bad_inner e = rw (le-ltb 1 m.sources s, o, e)

      module _ (i : bad_table (length m.inner) ≡ false) where
        pub bad_outer_names : sound m.outer_names ≡ false → Err Code.BadNames ≡ tested
        unfolding composed
        bad_outer_names e = rw (le-ltb 1 m.sources s, o, i, e)

        module _ (x : sound m.outer_names ≡ true) where
          pub bad_inner_names : sound m.inner_names ≡ false → Err Code.BadNames ≡ tested
          unfolding composed
          bad_inner_names e = rw (le-ltb 1 m.sources s, o, i, x, e)

          module _ (y : sound m.inner_names ≡ true) where
            pub full : places numbers < places (length m.outer) → Err Code.TableFull ≡ tested
            unfolding composed
            full h = rw (le-ltb 1 m.sources s, o, i, x, y, lt-ltb (places numbers) (places (length m.outer)) h)

            module _ (f : places (length m.outer) ≤ places numbers) where
              pub short : room < count m.outer_names → Err (Code.NoRoom (count m.outer_names)) ≡ tested
              unfolding composed
              short h = rw (le-ltb 1 m.sources s, o, i, x, y, le-ltb (places numbers) (places (length m.outer)) f, lt-ltb room (count m.outer_names) h)

              pub done : count m.outer_names ≤ room → Ok tt ≡ tested
              unfolding composed
              done h = rw (le-ltb 1 m.sources s, o, i, x, y, le-ltb (places numbers) (places (length m.outer)) f, le-ltb room (count m.outer_names) h)

  -- ---- nothing is refused
  pub record Opens : Type 0 where
    pub ready : Ready m.inner_names m.outer_names m.inner m.outer numbers room
    pub is : composed m numbers room ≡ Ok (length (result_of m).added)

  record Leads (x : Result ℕ Code) : Type 0 where
    ready : Ready m.inner_names m.outer_names m.inner m.outer numbers room
    is : x ≡ Ok (length (result_of m).added)

  leads : Ok tt ≡ refusal_of (composed m numbers room) → Leads (composed m numbers room)
  unfolding composed
  leads =
      pick_ind If (ltb 1 m.sources) (λ e z. ok_err _ z)
      (λ e. pick_ind If (bad_table (length m.outer)) (λ o z. ok_err _ z)
      (λ o. pick_ind If (bad_table (length m.inner)) (λ i z. ok_err _ z)
      (λ i. pick_ind If (sound m.outer_names)
      (λ x. pick_ind If (sound m.inner_names)
      (λ y. pick_ind If (ltb (places numbers) (places (length m.outer))) (λ f z. ok_err _ z)
      (λ f. pick_ind If (ltb room (count m.outer_names)) (λ r z. ok_err _ z)
      (λ r z. record {
        ready = record {
          good = i;
          first = y;
          second = x;
          fits = ltb-false (places numbers) (places (length m.outer)) f;
          roomy = ltb-false room (count m.outer_names) r;
        };
        is = refl;
      })))
      (λ y z. ok_err _ z))
      (λ x z. ok_err _ z))))
    where
      If : Result ℕ Code → Type 0
      If x = Ok tt ≡ refusal_of x → Leads x

  -- ---- a refusal counts no added name
  pub refuses : (c : Code) → Err c ≡ refusal_of (composed m numbers room) → composed m numbers room ≡ Err c
  refuses c e = err_is (composed m numbers room) c e

  pub opens : Ok tt ≡ refusal_of (composed m numbers room) → Opens
  opens e = let l = leads e in record { ready = l.ready; is = l.is }
