-- Runs put into lent bytes, one after the other. Assumes nothing.
use mathlib.Core.Path.{◌≡◌, refl, sym, ◌∙◌, ap}
use mathlib.Core.List.{List, [], ◌∷◌, ◌++◌, append_assoc, append-nil}
use Prim.Native.Nat.{ℕ, ◌+◌, ◌≤◌, ◌<◌}
use native.Mathlib.Omega.{arith}
use lib.ListN.{length, set, length-append}
use native.Mathlib.Nat.{zero-add}
use Rattle.list.specs.Memory.{onto, blit}
use Rattle.list.proofs.Memory.{blit_nil, blit_set, blit_blit, length_blit}
use Rattle.list.specs.Put.{Put}

pub put_nothing : (out : List ℕ) (at : ℕ) → Put out at [] at out
put_nothing out at = record { past = omega arith; wrote = sym (blit_nil out at) }

-- one store
pub put_byte : (out : List ℕ) (at v : ℕ) → at < length out → Put out at (v ∷ []) (at + 1) (set out at v)
put_byte out at v h = record { past = omega arith; wrote = blit_set out at v h }

pub put_then : (out : List ℕ) (at : ℕ) (a b : List ℕ) (m : ℕ) (mid : List ℕ) (r : ℕ) (out' : List ℕ)
    → Put out at a m mid → Put mid m b r out' → at + (length a + length b) ≤ length out → Put out at (a ++ b) r out'
put_then out at a b m mid r out' p q h =
    record {
      past = simp length-append (omega (arith, p.past, q.past));
      wrote =
          q.wrote ∙ ap (λ (l : List ℕ). blit l m b) p.wrote ∙ ap (λ (n : ℕ). blit (blit out at a) n b) p.past
          ∙ blit_blit out at a b h;
    }

pub put_long : (out : List ℕ) (at : ℕ) (bs : List ℕ) (r : ℕ) (out' : List ℕ) → Put out at bs r out' → at + length bs ≤ length out
    → length out' ≡ length out
put_long out at bs r out' p h = rw p.wrote (length_blit out at bs h)

-- a run by another name
pub put_is : (out : List ℕ) (at : ℕ) (a b : List ℕ) (r : ℕ) (out' : List ℕ) → a ≡ b → Put out at a r out' → Put out at b r out'
put_is out at a b r out' e p = rw e at p

-- `whole` is being put at the place at, for which there is room; it stands up to i, and `rest` is due
pub record Due (out₀ : List ℕ) (at : ℕ) (whole rest : List ℕ) (i : ℕ) (out : List ℕ) : Type 0 where
  pub done : List ℕ
  pub joined : whole ≡ done ++ rest
  pub stands : Put out₀ at done i out
  pub room : at + length whole ≤ length out₀

pub due_all : (out₀ : List ℕ) (at : ℕ) (whole : List ℕ) → at + length whole ≤ length out₀ → Due out₀ at whole whole at out₀
due_all out₀ at whole h = record { done = []; joined = refl; stands = put_nothing out₀ at; room = h }

pub due_is : (out₀ : List ℕ) (at : ℕ) (whole rest rest' : List ℕ) (i : ℕ) (out : List ℕ)
    → rest ≡ rest' → Due out₀ at whole rest i out → Due out₀ at whole rest' i out
due_is out₀ at whole rest rest' i out e d = rw e at d

module _ (out₀ : List ℕ) (at : ℕ) (whole rest : List ℕ) (i : ℕ) (out : List ℕ) (d : Due out₀ at whole rest i out) where
  split : length whole ≡ length d.done + length rest
  split = ap length d.joined ∙ length-append d.done rest

  pub due_same : length out ≡ length out₀
  due_same = put_long out₀ at d.done i out d.stands (omega (arith, split, d.room))

  pub due_room : i + length rest ≤ length out
  due_room = omega (arith, split, due_same, d.room, d.stands.past)

  pub due_none : rest ≡ [] → Put out₀ at whole i out
  due_none e =
      let q : whole ≡ d.done = d.joined ∙ rw e (append-nil d.done) in
      rw q d.stands

-- the next run
module _ (out₀ : List ℕ) (at : ℕ) (whole next rest : List ℕ) (i : ℕ) (out : List ℕ) (d : Due out₀ at whole (next ++ rest) i out) where
  pub due_fits : i + length next ≤ length out
  due_fits = omega (arith, due_room out₀ at whole (next ++ rest) i out d, length-append next rest)

  pub due_put : (j : ℕ) (out' : List ℕ) → Put out i next j out' → Due out₀ at whole rest j out'
  due_put j out' q =
      record {
        done = d.done ++ next;
        joined = d.joined ∙ sym (append_assoc d.done next rest);
        stands =
            put_then out₀ at d.done next i out j out' d.stands q
            (omega (arith, d.room, split out₀ at whole (next ++ rest) i out d, length-append next rest));
        room = d.room;
      }

-- the next byte
module _ (out₀ : List ℕ) (at : ℕ) (whole : List ℕ) (v : ℕ) (rest : List ℕ) (i : ℕ) (out : List ℕ) (d : Due out₀ at whole (v ∷ rest) i out) where
  pub due_byte_fits : i < length out
  due_byte_fits = omega (arith, due_room out₀ at whole (v ∷ rest) i out d)

  pub due_byte : Due out₀ at whole rest (i + 1) (set out i v)
  due_byte = due_put out₀ at whole (v ∷ []) rest i out d (i + 1) (set out i v) (put_byte out i v due_byte_fits)

-- a run put at the start
pub put_onto : (out bs : List ℕ) (r : ℕ) (out' : List ℕ) → Put out 0 bs r out' → (r ≡ length bs) × (out' ≡ onto bs out)
unfolding blit onto
put_onto out bs r out' q = (q.past ∙ zero-add (length bs), q.wrote ∙ rw zero-add)
