-- What a refusal of a segment is about: the whole of it, or a field that it has. Assumes nothing.
use Rattle.std.specs.Prelude.{Option, Some, None, Result, Ok, Err}
use mathlib.Core.Bool.{Bool, true, false}
use mathlib.Core.Path.{◌≡◌, refl}
use Prim.Native.Nat.{ℕ, ◌%◌, ◌^◌, ◌<◌}
use native.Mathlib.Omega.{arith}
use lib.Dec.{eqb, ltb}
use lib.IntN.{pos, ◌+ℤ◌}
use borrow.Author.Tests.{eqb-true}
use Rattle.list.specs.Pick.{pick}
use Rattle.code.specs.declared.Code.{Code}
use Rattle.token.specs.Table.{no_id}
use Rattle.value.specs.declared.Mode.{Mode}
use Rattle.segment.specs.declared.Segment.{Segment}
use Rattle.sums.specs.Sums.{sum_of, id_of, name_sum_of}
use Rattle.apply.specs.declared.State.{State}
use Rattle.apply.specs.declared.About.{About}
use Rattle.apply.specs.Apply.{with_column, with_source, with_name, kept, num, columned, sourced, mapped, named, shown, onward, four, five, counted, unless_wide, applied, refusal, Moved, Applied}
use Rattle.sums.specs.declared.Unkept.{Unkept}

-- of a segment with so many fields; the first is spoken of even where there is none
abbrev pub Pointed : ℕ → About → Type 0
Pointed count About.Whole = Unit {0}
Pointed count (About.Field field) = 0 < field → field < count
Pointed count (About.Place place) = ⊥

abbrev Moves : ℕ → Moved → Type 0
Moves count (Ok s) = Unit {0}
Moves count (Err r) = Pointed count r.about

abbrev pub Points : ℕ → Applied → Type 0
Points count (Ok (t, s)) = Unit {0}
Points count (Err r) = Pointed count r.about

kept_moves : (count : ℕ) (k : Result ℕ Unkept) (field : ℕ) (go : ℕ → Moved) → (0 < field → field < count) → ((x : ℕ) → Moves count (go x)) → Moves count (kept k field go)
kept_moves count (Err Unkept.Negative) field go p h = p
kept_moves count (Err Unkept.Wide) field go p h = p
kept_moves count (Ok x) field go p h = h x

sourced_moves : (count : ℕ) (s : State) (i : Option ℕ) (go : ℕ → Moved) → 1 < count → ((x : ℕ) → Moves count (go x)) → Moves count (sourced s i go)
sourced_moves count s None go p h = λ _. p
sourced_moves count s (Some x) go p h = h x

onward_points : (count : ℕ) (m : Moved) (go : State → Applied) → Moves count m → ((s : State) → Points count (go s)) → Points count (onward m go)
onward_points count (Ok s) go e h = h s
onward_points count (Err r) go e h = e

module _ (mode : Mode) (sources names : ℕ) (g : Segment) where
  column : (count : ℕ) (s : State) → Moves count (columned mode s g)
  unfolding columned
  column count s =
      kept_moves count (sum_of mode (pos s.dst_col +ℤ num 0 g)) 0 (λ x. Ok (with_column s x g.next)) (λ z. absurd (omega arith)) (λ x. tt)

  source : (count : ℕ) → 3 < count → (s : State) → Moves count (mapped mode sources s g)
  unfolding mapped
  source count l s = sourced_moves count s (id_of sources (pos s.source_id +ℤ num 1 g)) lined (omega arith) by_line
    where
      columns : ℕ → ℕ → Moved
      columns x y = kept (sum_of mode (pos s.src_col +ℤ num 3 g)) 3 (λ z. Ok (with_source s x y z))

      lined : ℕ → Moved
      lined x = kept (sum_of mode (pos s.src_line +ℤ num 2 g)) 2 (columns x)

      by_line : (x : ℕ) → Moves count (lined x)
      by_line x =
          kept_moves count (sum_of mode (pos s.src_line +ℤ num 2 g)) 2 (columns x) (λ _. omega arith)
          (λ y. kept_moves count (sum_of mode (pos s.src_col +ℤ num 3 g)) 3 (λ z. Ok (with_source s x y z)) (λ _. l) (λ z. tt))

  name : (count : ℕ) → 4 < count → (s : State) → Moves count (named mode names s g)
  unfolding named
  name count l s =
      kept_moves count (name_sum_of mode (pos s.name_id +ℤ num 4 g)) 4
      (λ x. pick (ltb x names) (Ok (with_name s x)) (Err (refusal (Code.BadNameReference x) (About.Field 4))))
      (λ _. l)
      (λ x. by x (ltb x names))
    where
      by : (x : ℕ) (t : Bool) → Moves count (pick t (Ok (with_name s x)) (Err (refusal (Code.BadNameReference x) (About.Field 4))))
      by x true = tt
      by x false = λ _. l

  abbrev took_name : State → Applied
  took_name q = Ok (shown q q.source_id q.name_id, q)

  by_four : 3 < g.count → (s : State) → Points g.count (four mode sources s g)
  unfolding four
  by_four l s = onward_points g.count (mapped mode sources s g) (λ r. Ok (shown r r.source_id no_id, r)) (source g.count l s) (λ r. tt)

  by_five : 4 < g.count → (s : State) → Points g.count (five mode sources names s g)
  unfolding five
  by_five l s =
      onward_points g.count (mapped mode sources s g) (λ r. onward (named mode names r g) took_name) (source g.count (omega arith) s)
      (λ r. onward_points g.count (named mode names r g) took_name (name g.count l r) (λ q. tt))

  by_count : (s : State) → Points g.count (counted mode sources names s g)
  unfolding counted
  by_count s = by (eqb g.count 1) (eqb g.count 4) (eqb g.count 5) refl refl
    where
      by : (x y z : Bool) → eqb g.count 4 ≡ y → eqb g.count 5 ≡ z
          → Points g.count
          (pick x (Ok (shown s no_id no_id, s))
          (pick y (four mode sources s g) (pick z (five mode sources names s g) (Err (refusal (Code.BadSegmentSize (g.count % 2 ^ 32)) About.Whole)))))
      by true y z p q = tt
      by false true z p q = by_four (omega (arith, eqb-true g.count 4 p)) s
      by false false true p q = by_five (omega (arith, eqb-true g.count 5 q)) s
      by false false false p q = tt

  pub points : ((m : ℕ) → g.wide ≡ Some m → m < g.count) → (s : State) → Points g.count (applied mode sources names s g)
  unfolding applied
  points w s = by g.wide refl
    where
      by : (o : Option ℕ) → g.wide ≡ o → Points g.count (unless_wide o (onward (columned mode s g) λ r. counted mode sources names r g))
      by (Some field) e = λ _. w field e
      by None e = onward_points g.count (columned mode s g) (λ r. counted mode sources names r g) (column g.count s) by_count
