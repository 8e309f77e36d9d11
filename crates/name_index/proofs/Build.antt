-- The index as it is made: memory cleared, and the inner names entered from the last to the first. Assumes nothing.
use mathlib.Core.Path.{◌≡◌, refl, ap, sym, ◌∙◌}
use mathlib.Core.List.{List, [], ◌++◌}
use Prim.Native.Nat.{ℕ, ◌+◌, ◌-◌, ◌≤◌, ◌<◌}
use native.Mathlib.Omega.{arith}
use lib.ListN.{length, take, drop, get_or, replicate, length-append, length-drop, get_or-append}
use Rattle.std.proofs.lemmas.List.{get_or-replicate, length-replicate}
use lib.Seq.{length-take-le}
use Rattle.names.specs.Names.{NameList, count, name_at}
use Rattle.name_index.specs.Index.{slot_of, slots_for, entry_name, Chained, Indexed}
use Rattle.name_index.proofs.Latest.{latest_zero}
use Rattle.name_index.proofs.Slots.{slot_small}
use Rattle.name_index.proofs.Chain as chain
use Rattle.name_index.proofs.Chain.{entered, entered_long, entered_past}
use Rattle.name_index.proofs.Entries.{entry_inner}

-- ---- the first places are cleared
module _ (work zs : List ℕ) (places : ℕ) (h : places ≤ length work) (e : zs ≡ replicate (length (take places work)) 0) where
  many : length zs ≡ places
  many = ap length e ∙ length-replicate (length (take places work)) 0 ∙ length-take-le places work h

  pub cleared : (j : ℕ) → j < places → get_or (zs ++ drop places work) j 0 ≡ 0
  cleared j l =
      get_or-append zs (drop places work) 0 j (omega (arith, many))
      ∙ ap (λ (l : List ℕ). get_or l j 0) e ∙ get_or-replicate (length (take places work)) j 0 0 (omega (arith, length-take-le places work h))

  pub cleared_long : length (zs ++ drop places work) ≡ length work
  cleared_long = omega (arith, length-append zs (drop places work), length-drop places work, many)

-- ---- the first entries of the inner names are in the index, and no id is remembered
pub record Building (inner outer : NameList) (work₀ work : List ℕ) (entry : ℕ) : Type 0 where
  pub within : entry ≤ count inner
  pub same : length work ≡ length work₀
  pub long : slots_for inner outer + slots_for inner outer + count outer ≤ length work
  pub chained : Chained (slots_for inner outer) (entry_name inner outer []) entry work
  pub empty : (k : ℕ) → k < count outer → get_or work (slots_for inner outer + slots_for inner outer + k) 0 ≡ 0

module _ (inner outer : NameList) where
  abbrev slots : ℕ
  slots = slots_for inner outer

  pub build_start : (work : List ℕ) (places : ℕ) → slots + slots + count outer ≤ length work → places ≡ slots + slots + count outer
      → ((j : ℕ) → j < places → get_or work j 0 ≡ 0) → Building inner outer work work 0
  build_start work places l e f =
      record {
        within = omega arith;
        same = refl;
        long = l;
        chained =
            record {
              heads = λ slot h. f slot (omega arith) ∙ sym (latest_zero _);
              links = λ i h. absurd (omega arith);
            };
        empty = λ k h. f (slots + slots + k) (omega arith);
      }

  module _ (work₀ work : List ℕ) (entry : ℕ) (b : Building inner outer work₀ work entry) where
    module _ (h : entry < count inner) (name : List ℕ) (e : name ≡ name_at inner (count inner - 1 - entry)) (slot : ℕ) (f : slot ≡ slot_of slots name) where
      pub build_slot : slot < slots
      build_slot = omega (arith, slot_small slots name (omega arith))

      pub build_step : (work' : List ℕ) → work' ≡ entered slots slot entry work → Building inner outer work₀ work' (entry + 1)
      build_step work' w =
          let t : slot ≡ slot_of slots (entry_name inner outer [] entry) = f ∙ ap (slot_of slots) (e ∙ sym (entry_inner inner outer [] entry h)) in
          rw w
          (record {
            within = omega arith;
            same = entered_long slots slot entry work ∙ b.same;
            long = omega (arith, entered_long slots slot entry work, b.long);
            chained = chain.chained slots (entry_name inner outer []) entry work b.chained slot build_slot (omega arith) (omega (arith, b.long)) t;
            empty = λ k l. entered_past slots slot entry work build_slot (omega arith) (slots + slots + k) (omega arith) ∙ b.empty k l;
          })

    pub built : count inner ≤ entry → Indexed inner outer [] work
    built h =
        let z : entry ≡ count inner + 0 = omega (arith, b.within) in
        record {
          long = b.long;
          chained = rw z at b.chained;
          given = λ k id l e. absurd (omega (arith, b.empty k l));
        }
