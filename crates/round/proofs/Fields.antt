-- The fields of a segment that is written read back. Assumes nothing.
use Rattle.std.specs.Prelude.{Some, Ok}
use mathlib.Core.Path.{◌≡◌, refl, sym, ◌∙◌, ap}
use mathlib.Core.Bool.{true}
use mathlib.Core.List.{List, [], ◌∷◌, ◌++◌, append_assoc}
use Prim.Native.Nat.{ℕ, zero, suc, ◌+◌, ◌-◌, ◌^◌, ◌<◌, ◌≤◌}
use native.Mathlib.Nat.{add-zero}
use native.Mathlib.Omega.{arith}
use lib.ListN.{length, take, get_or, length-append}
use lib.Seq.{drop-append_seam}
use Rattle.digits.specs.Digits.{is_delim}
use Rattle.value.specs.Value.{value_of}
use Rattle.value.specs.declared.Mode.{Mode}
use Rattle.vlq.specs.Vlq.{vlq_of}
use Rattle.vlq_write.specs.Write.{write_of}
use Rattle.segment.specs.Segment.{Field, whole, before, starts, fields_from}
use Rattle.segment.proofs.Reach.{fields_skip}
use Rattle.chunk.specs.Chunk.{spelled}
use Rattle.round.proofs.Value.{head, value_back}

-- what may stand after a segment: nothing, or a delimiter
abbrev pub Ends : List ℕ → Type 0
Ends [] = Unit {0}
Ends (b ∷ bs) = is_delim b ≡ true

abbrev pub Small : List ℕ → Type 0
Small [] = Unit {0}
Small (v ∷ vs) = (v < 2 ^ 33) × Small vs

-- the fields of values that are written one after the other from a place on
abbrev pub fields_at : Mode → ℕ → List ℕ → List Field
fields_at mode at [] = []
fields_at mode at (v ∷ vs) = record { value = value_of mode v 0; start = at } ∷ fields_at mode (at + length (write_of v)) vs

fields_end : (mode : Mode) (at : ℕ) (rest : List ℕ) → Ends rest → fields_from mode 0 at rest ≡ whole [] at
unfolding fields_from vlq_of
fields_end mode at [] h = refl
fields_end mode at (b ∷ bs) h = rw h

-- a value's digits b ∷ bs are read, and the fields go on behind them
fields_next : (mode : Mode) (at b v : ℕ) (bs rest : List ℕ) → vlq_of at (b ∷ (bs ++ rest)) ≡ Ok (Some (v, 0, at + suc (length bs)))
    → fields_from mode 0 at (b ∷ (bs ++ rest))
    ≡ before (record { value = value_of mode v 0; start = at }) (fields_from mode 0 (at + suc (length bs)) rest)
unfolding fields_from
fields_next mode at b v bs rest e =
    let k : at + suc (length bs) - (at + 1) ≡ length bs = omega arith in
    let m : at + 1 + length bs ≡ at + suc (length bs) = omega arith in
    let l : length bs ≤ length (bs ++ rest) = omega (arith, length-append bs rest) in
    rw (e, k, fields_skip mode (length bs) (at + 1) (bs ++ rest) l, drop-append_seam bs rest, m)

fields_value : (mode : Mode) (at v : ℕ) (rest : List ℕ) → v < 2 ^ 33
    → fields_from mode 0 at (write_of v ++ rest)
    ≡ before (record { value = value_of mode v 0; start = at }) (fields_from mode 0 (at + length (write_of v)) rest)
fields_value mode at v rest h =
    let d = head v in
    let e : vlq_of at (write_of v ++ rest) ≡ Ok (Some (v, 0, at + length (write_of v))) = value_back at v rest h in
    rw d.is (fields_next mode at d.b v d.bs rest (rw d.is at e))

pub fields_back : (mode : Mode) (at : ℕ) (vs rest : List ℕ) → Small vs → Ends rest
    → fields_from mode 0 at (spelled vs ++ rest) ≡ whole (fields_at mode at vs) (at + length (spelled vs))
unfolding spelled
fields_back mode at [] rest s h = fields_end mode at rest h ∙ ap (whole []) (sym (add-zero at))
fields_back mode at (v ∷ vs) rest s h =
    let f : Field = record { value = value_of mode v 0; start = at } in
    let l : at + length (write_of v) + length (spelled vs) ≡ at + length (write_of v ++ spelled vs) = simp length-append (omega arith) in
    ap (fields_from mode 0 at) (append_assoc (write_of v) (spelled vs) rest)
    ∙ fields_value mode at v (spelled vs ++ rest) s.0
    ∙ ap (before f) (fields_back mode (at + length (write_of v)) vs rest s.1 h)
    ∙ ap (whole (f ∷ fields_at mode (at + length (write_of v)) vs)) l

-- where such a field begins: behind the digits of those before it
pub begins_at : (mode : Mode) (at z : ℕ) (vs : List ℕ) (n : ℕ) → n < length vs → get_or (starts (fields_at mode at vs)) n z ≡ at + length (spelled (take n vs))
unfolding spelled
begins_at mode at z [] n h = absurd (omega arith)
begins_at mode at z (v ∷ vs) zero h = omega arith
begins_at mode at z (v ∷ vs) (suc n) h =
    begins_at mode (at + length (write_of v)) z vs n (omega arith) ∙ simp length-append (omega arith)
