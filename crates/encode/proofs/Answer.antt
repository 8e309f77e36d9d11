-- Each answer of the writer, on the definitions alone. Assumes nothing.
use mathlib.Core.Path.{◌≡◌, refl, sym}
use mathlib.Core.Bool.{true, false}
use mathlib.Core.List.{List}
use Prim.Native.Nat.{ℕ, ◌≤◌, ◌<◌}
use lib.ListN.{length}
use borrow.Author.Tests.{lt-ltb, le-ltb}
use Rattle.std.specs.Prelude.{Result, Ok, Err}
use Rattle.std.specs.Result.{is_ok}
use Rattle.list.specs.Memory.{onto}
use Rattle.list.specs.Pick.{pick}
use Rattle.code.specs.declared.Code.{Code}
use Rattle.token.specs.Table.{places, bad_table}
use Rattle.token.specs.declared.TokenChunk.{TokenChunk}
use Rattle.encode.specs.Encode.{bytes_in, encoded, Encodes}
use Rattle.encode.specs.Passes.{Inside, Backs, Bounded, Writable, Writes}
use Rattle.encode.specs.declared.Encoded.{Encoded}

pub inside : (table : List ℕ) (c : TokenChunk) (n : ℕ) → n ≡ places (length table) → c.start ≤ c.end → c.end ≤ n → Inside table c
inside table c n en h k = record { order = h; within = rw en at k }

module _ (table : List ℕ) (c : TokenChunk) (out : List ℕ) where
  -- the defined answer, and what goes with it
  by : (x : Result Encoded Code) → encoded table c (length out) ≡ x → (out' : List ℕ) → out' ≡ pick (is_ok x) (onto (bytes_in table c) out) out
      → Encodes table c out x out'
  by x e out' w = record { says = sym e; wrote = rw e w }

  pub answers_bad_table : bad_table (length table) ≡ true → Encodes table c out (Err Code.BadTable) out
  unfolding encoded
  answers_bad_table t = by (Err Code.BadTable) (rw t) out refl

  module _ (t : bad_table (length table) ≡ false) where
    pub out_of_order : c.end < c.start → Encodes table c out (Err Code.BadChunk) out
    unfolding encoded
    out_of_order h = by (Err Code.BadChunk) (rw (t, lt-ltb _ _ h)) out refl

    -- n is the table's tokens, as the code has them
    pub out_of_table : (n : ℕ) → n ≡ places (length table) → c.start ≤ c.end → n < c.end → Encodes table c out (Err Code.BadChunk) out
    unfolding encoded
    out_of_table n en h k =
        let k' : places (length table) < c.end = rw en at k in
        by (Err Code.BadChunk) (rw (t, le-ltb _ _ h, lt-ltb _ _ k')) out refl

    module _ (h : Inside table c) where
      pub goes_back : (code : Code) → Backs table c code → Encodes table c out (Err code) out
      unfolding encoded
      goes_back code b = by (Err code) (rw (t, le-ltb _ _ h.order, le-ltb _ _ h.within, b.back, b.says)) out refl

      -- needed is the count as the code has it
      module _ (needed : ℕ) (b : Bounded table c (length out) needed) where
        pub no_room : length out < needed → Encodes table c out (Err (Code.NoRoom needed)) out
        unfolding encoded
        no_room k =
            let q = b.bounds.exact k in
            let k' : length out < length (bytes_in table c) = rw q at k in
            by (Err (Code.NoRoom needed)) (rw (t, le-ltb _ _ h.order, le-ltb _ _ h.within, b.forth, lt-ltb _ _ k', q)) out refl

        module _ (k : needed ≤ length out) where
          pub writable : Writable table c out
          writable = record { inside = h; forth = b.forth; room = b.bounds.enough k }

          pub done : (r : Encoded) (out' : List ℕ) → Writes table c out r out' → Encodes table c out (Ok r) out'
          unfolding encoded
          done r out' w =
              by (Ok r) (rw (t, le-ltb _ _ h.order, le-ltb _ _ h.within, b.forth, le-ltb _ _ (b.bounds.enough k), w.says)) out' w.wrote
