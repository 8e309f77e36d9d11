-- The short way and the general way agree wherever the short way is taken. Assumes nothing.
use Rattle.std.specs.Prelude.{Some, None, Ok}
use mathlib.Core.Path.{◌≡◌, refl, sym, ◌∙◌, ap}
use mathlib.Core.Bool.{true, false}
use mathlib.Core.List.{List, [], ◌∷◌}
use Prim.Native.Nat.{ℕ, ◌+◌, ◌/◌, ◌%◌, ◌^◌, ◌<◌}
use native.Mathlib.Omega.{arith}
use lib.ListN.{length, drop, get_or}
use Rattle.digits.specs.Digits.{is_delim}
use Rattle.value.specs.Value.{value_of, is_wide}
use Rattle.value.specs.declared.Mode.{Mode}
use Rattle.value.proofs.Standard.{value_plain}
use Rattle.vlq.proofs.Steps.{at_delim}
use Rattle.vlq.proofs.Values as values
use Rattle.segment.specs.Segment.{Field, whole, before, fields_from, wide_from, segment_at, gathered}
use Rattle.segment.proofs.Reach.{answered, past}
use Rattle.token.specs.Table.{no_id}
use Rattle.apply.specs.Apply.{state, shown, applied}
use Rattle.apply.specs.declared.State.{State}
use Rattle.apply.proofs.Takes.{takes_four, takes_five}
use Rattle.short.specs.Short.{Stands, Rest, Shaped, Nears, Fit}
use Rattle.short.specs.declared.Near.{Near}
use Rattle.short.specs.declared.Shape.{Shape}
use Rattle.step.specs.Step.{segment_step}
use Rattle.step.specs.Ways.{segmented_at, short_step}
use Rattle.step.proofs.Sums.{sum_at, name_at, id_at}

module _ (mode : Mode) (text : List ℕ) where
  abbrev field : ℕ → ℕ → Field
  field p n = record { value = value_of mode n 0; start = p }

  narrow : (p q e : ℕ) (v : Stands text p q e) → is_wide (value_of mode v.num 0) ≡ false
  narrow p q e v = rw (value_plain mode v.num v.small v.plain)

  read : (p q e : ℕ) (v : Stands text p q e) → fields_from mode 0 p (drop p text) ≡ before (field p v.num) (fields_from mode 0 q (drop q text))
  read p q e v =
      let r = values.value text p v.num 0 q v.reads in
      answered mode text p (Ok (Some (v.num, 0, q))) v.reads
      ∙ ap (before (field p v.num)) (past mode text p q r.past r.within)

  read_end : (p : ℕ) → p < length text → is_delim (get_or text p 0) ≡ true → fields_from mode 0 p (drop p text) ≡ whole [] p
  read_end p h e = answered mode text p (Ok None) (at_delim text p h e)

  -- the running numbers n come from the fields of the shape
  module _ (sources names : ℕ) (st : State) (r : Shape) (s : Shaped text st.at r) (n : Near) (ns : Nears r st n)
      (f : Fit n r.fields sources names) (sf : sources < 2 ^ 32) where
    -- the first four fields, and then the others
    abbrev listed : List Field → List Field
    listed fs =
        field st.at s.three.first.num ∷ field (st.at + 1) s.three.second.num ∷ field (st.at + 2) s.three.third.num
        ∷ field (st.at + 3) s.fourth.num ∷ fs

    reads : (fs : List Field) → fields_from mode 0 s.place (drop s.place text) ≡ whole fs (st.at + r.len)
        → fields_from mode 0 st.at (drop st.at text) ≡ whole (listed fs) (st.at + r.len)
    reads fs e =
        read st.at (st.at + 1) (r.steps % 256) s.three.first
        ∙ ap (before (field st.at s.three.first.num))
        (read (st.at + 1) (st.at + 2) 16 s.three.second
        ∙ ap (before (field (st.at + 1) s.three.second.num))
        (read (st.at + 2) (st.at + 3) (r.steps / 65536 % 256) s.three.third
        ∙ ap (before (field (st.at + 2) s.three.third.num))
        (read (st.at + 3) s.place r.col s.fourth ∙ ap (before (field (st.at + 3) s.fourth.num)) e)))

    ended : fields_from mode 0 (st.at + r.len) (drop (st.at + r.len) text) ≡ whole [] (st.at + r.len)
    ended = read_end (st.at + r.len) s.within s.delim

    wide : (fs : List Field) → wide_from 4 fs ≡ None → wide_from 0 (listed fs) ≡ None
    unfolding wide_from
    wide fs e =
        rw (narrow st.at (st.at + 1) (r.steps % 256) s.three.first, narrow (st.at + 1) (st.at + 2) 16 s.three.second, narrow (st.at + 2) (st.at + 3) (r.steps / 65536 % 256) s.three.third, narrow (st.at + 3) s.place r.col s.fourth) e

    module _ (k : r.fields ≡ 4) (p : s.place ≡ st.at + r.len) (z : r.name ≡ 16) where
      none_wide : wide_from 4 [] ≡ None
      unfolding wide_from
      none_wide = refl

      taken_four : applied mode sources names st (gathered (listed []) (st.at + r.len)) ≡ Ok (shown (state st.dst_line n.dst_col n.src_line n.src_col n.source_id st.name_id (st.at + r.len)) n.source_id no_id, state st.dst_line n.dst_col n.src_line n.src_col n.source_id st.name_id (st.at + r.len))
      taken_four =
          takes_four mode sources names st (gathered (listed []) (st.at + r.len)) (wide [] none_wide)
          n.dst_col (sum_at mode text _ _ _ s.three.first n.dst_col st.dst_col ns.col f.col)
          n.source_id n.src_line n.src_col
          (id_at mode text _ _ _ s.three.second n.source_id st.source_id ns.source (omega (arith, f.source)) sources f.source)
          (sum_at mode text _ _ _ s.three.third n.src_line st.src_line ns.line f.line)
          (sum_at mode text _ _ _ s.fourth n.src_col st.src_col ns.scol f.scol)
          refl

      agrees_four : short_step st n 4 r.len ≡ segmented_at mode sources names text st
      unfolding segment_step segment_at
      agrees_four =
          let e : fields_from mode 0 s.place (drop s.place text) ≡ whole [] (st.at + r.len)
          = ap (λ (m : ℕ). fields_from mode 0 m (drop m text)) p ∙ ended in
          let nm : n.name_id ≡ st.name_id = omega (arith, ns.name.moved, ns.name.small, f.name, z) in
          sym (rw (reads [] e, taken_four, nm))

    module _ (k : r.fields ≡ 5) (v : Stands text s.place (st.at + r.len) r.name) where
      abbrev fifth : List Field
      fifth = field s.place v.num ∷ []

      fifth_wide : wide_from 4 fifth ≡ None
      unfolding wide_from
      fifth_wide = rw (narrow s.place (st.at + r.len) r.name v)

      taken_five : applied mode sources names st (gathered (listed fifth) (st.at + r.len)) ≡ Ok (shown (state st.dst_line n.dst_col n.src_line n.src_col n.source_id n.name_id (st.at + r.len)) n.source_id n.name_id, state st.dst_line n.dst_col n.src_line n.src_col n.source_id n.name_id (st.at + r.len))
      taken_five =
          takes_five mode sources names st (gathered (listed fifth) (st.at + r.len)) (wide fifth fifth_wide)
          n.dst_col (sum_at mode text _ _ _ s.three.first n.dst_col st.dst_col ns.col f.col)
          n.source_id n.src_line n.src_col
          (id_at mode text _ _ _ s.three.second n.source_id st.source_id ns.source (omega (arith, f.source)) sources f.source)
          (sum_at mode text _ _ _ s.three.third n.src_line st.src_line ns.line f.line)
          (sum_at mode text _ _ _ s.fourth n.src_col st.src_col ns.scol f.scol)
          n.name_id
          (name_at mode text _ _ _ v n.name_id st.name_id ns.name f.name)
          (f.named k)
          refl

      agrees_five : short_step st n 5 r.len ≡ segmented_at mode sources names text st
      unfolding segment_step segment_at
      agrees_five =
          let e : fields_from mode 0 s.place (drop s.place text) ≡ whole fifth (st.at + r.len)
          = read s.place (st.at + r.len) r.name v ∙ ap (before (field s.place v.num)) ended in
          sym (rw (reads fifth e, taken_five))

    by_rest : Rest text st.at s.place r → short_step st n r.fields r.len ≡ segmented_at mode sources names text st
    by_rest (Rest.four k p z) = ap (λ (m : ℕ). short_step st n m r.len) k ∙ agrees_four k p z
    by_rest (Rest.five k v) = ap (λ (m : ℕ). short_step st n m r.len) k ∙ agrees_five k v

    -- whichever of the two it is
    pub agrees : short_step st n r.fields r.len ≡ segmented_at mode sources names text st
    agrees = by_rest s.rest
