-- Where a segment that is taken leaves the place: right behind it. And no refusal of a segment speaks of the table. Assumes nothing.
use Rattle.std.specs.Prelude.{Option, Some, None, Result, Ok, Err}
use mathlib.Core.Path.{◌≡◌, refl, ◌∙◌, subst}
use mathlib.Core.Bool.{Bool, true, false}
use Prim.Native.Nat.{ℕ, ◌%◌, ◌^◌}
use native.Mathlib.Omega.{arith}
use lib.Dec.{eqb, ltb}
use Rattle.list.specs.Pick.{pick}
use lib.IntN.{pos, ◌+ℤ◌}
use Rattle.code.specs.Code.{code_of}
use Rattle.code.specs.declared.Code.{Code}
use Rattle.token.specs.Table.{no_id}
use Rattle.value.specs.declared.Mode.{Mode}
use Rattle.segment.specs.declared.Segment.{Segment}
use Rattle.sums.specs.Sums.{sum_of, id_of, name_sum_of}
use Rattle.apply.specs.declared.State.{State}
use Rattle.apply.specs.declared.About.{About}
use Rattle.apply.specs.Apply.{with_column, with_source, with_name, kept, num, columned, sourced, mapped, named, shown, onward, four, five, counted, unless_wide, applied, refusal, Moved, Applied}
use Rattle.sums.specs.declared.Unkept.{Unkept}

-- it is not TableFull
abbrev pub Plain : Code → Type 0
Plain code = code_of code ≡ 7 → ⊥

-- a state that is reached has the place n
abbrev Moves : ℕ → Moved → Type 0
Moves n (Ok s) = s.at ≡ n
Moves n (Err r) = Plain r.code

abbrev pub Lands : ℕ → Applied → Type 0
Lands n (Ok (t, s)) = s.at ≡ n
Lands n (Err r) = Plain r.code

kept_moves : (n : ℕ) (k : Result ℕ Unkept) (field : ℕ) (go : ℕ → Moved) → ((x : ℕ) → Moves n (go x)) → Moves n (kept k field go)
kept_moves n (Err Unkept.Negative) field go h = λ e. omega arith
kept_moves n (Err Unkept.Wide) field go h = λ e. omega arith
kept_moves n (Ok x) field go h = h x

sourced_moves : (n : ℕ) (s : State) (i : Option ℕ) (go : ℕ → Moved) → ((x : ℕ) → Moves n (go x)) → Moves n (sourced s i go)
sourced_moves n s None go h = λ e. omega arith
sourced_moves n s (Some x) go h = h x

onward_lands : (n k : ℕ) (m : Moved) (go : State → Applied) → Moves k m → ((s : State) → s.at ≡ k → Lands n (go s)) → Lands n (onward m go)
onward_lands n k (Ok s) go e h = h s e
onward_lands n k (Err r) go e h = e

picked : {A : Type 0} (P : A → Type 0) (b : Bool) (x y : A) → P x → P y → P (pick b x y)
picked P true x y p q = p
picked P false x y p q = q

module _ (mode : Mode) (sources names : ℕ) (g : Segment) where
  column : (s : State) → Moves g.next (columned mode s g)
  unfolding columned
  column s = kept_moves g.next (sum_of mode (pos s.dst_col +ℤ num 0 g)) 0 (λ x. Ok (with_column s x g.next)) (λ x. refl)

  source : (s : State) → Moves s.at (mapped mode sources s g)
  unfolding mapped
  source s = sourced_moves s.at s (id_of sources (pos s.source_id +ℤ num 1 g)) (λ x. lined x) by_line
    where
      columns : ℕ → ℕ → Moved
      columns x y = kept (sum_of mode (pos s.src_col +ℤ num 3 g)) 3 (λ z. Ok (with_source s x y z))

      lined : ℕ → Moved
      lined x = kept (sum_of mode (pos s.src_line +ℤ num 2 g)) 2 (columns x)

      by_line : (x : ℕ) → Moves s.at (lined x)
      by_line x =
          kept_moves s.at (sum_of mode (pos s.src_line +ℤ num 2 g)) 2 (columns x)
          (λ y. kept_moves s.at (sum_of mode (pos s.src_col +ℤ num 3 g)) 3 (λ z. Ok (with_source s x y z)) (λ z. refl))

  name : (s : State) → Moves s.at (named mode names s g)
  unfolding named
  name s =
      kept_moves s.at (name_sum_of mode (pos s.name_id +ℤ num 4 g)) 4
      (λ x. pick (ltb x names) (Ok (with_name s x)) (Err (refusal (Code.BadNameReference x) (About.Field 4))))
      (λ x. picked (Moves s.at) (ltb x names) (Ok (with_name s x)) (Err (refusal (Code.BadNameReference x) (About.Field 4))) refl (λ e. omega arith))

  by_four : (s : State) → Lands s.at (four mode sources s g)
  unfolding four
  by_four s = onward_lands s.at s.at (mapped mode sources s g) (λ r. Ok (shown r r.source_id no_id, r)) (source s) (λ r e. e)

  abbrev took_name : State → Applied
  took_name q = Ok (shown q q.source_id q.name_id, q)

  by_five : (s : State) → Lands s.at (five mode sources names s g)
  unfolding five
  by_five s =
      onward_lands s.at s.at (mapped mode sources s g) (λ r. onward (named mode names r g) took_name) (source s)
      (λ r e. onward_lands s.at r.at (named mode names r g) took_name (name r) (λ q f. f ∙ e))

  by_count : (s : State) → Lands s.at (counted mode sources names s g)
  unfolding counted
  by_count s =
      picked (Lands s.at) (eqb g.count 1) (Ok (shown s no_id no_id, s)) others refl
      (picked (Lands s.at) (eqb g.count 4) (four mode sources s g) fives (by_four s)
      (picked (Lands s.at) (eqb g.count 5) (five mode sources names s g) wrong (by_five s) (λ e. omega arith)))
    where
      wrong : Applied
      wrong = Err (refusal (Code.BadSegmentSize (g.count % 2 ^ 32)) About.Whole)

      fives : Applied
      fives = pick (eqb g.count 5) (five mode sources names s g) wrong

      others : Applied
      others = pick (eqb g.count 4) (four mode sources s g) fives

  steps : (s : State) → Lands g.next (onward (columned mode s g) λ r. counted mode sources names r g)
  steps s =
      onward_lands g.next g.next (columned mode s g) (λ r. counted mode sources names r g) (column s)
      (λ r e. subst (λ (n : ℕ). Lands n (counted mode sources names r g)) e (by_count r))

  pub lands : (s : State) → Lands g.next (applied mode sources names s g)
  unfolding applied
  lands s =
      unless g.wide
    where
      unless : (w : Option ℕ) → Lands g.next (unless_wide w (onward (columned mode s g) λ r. counted mode sources names r g))
      unless (Some field) = λ e. omega arith
      unless None = steps s
