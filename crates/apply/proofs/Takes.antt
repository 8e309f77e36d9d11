-- A segment whose sums are all taken: the token and the state that it makes. Assumes nothing.
use Rattle.std.specs.Prelude.{Some, None, Ok}
use mathlib.Core.Path.{◌≡◌, ◌∙◌}
use Prim.Native.Nat.{ℕ, ◌<◌}
use native.Mathlib.Omega.{arith}
use lib.IntN.{pos, ◌+ℤ◌}
use borrow.Author.Tests.{lt-ltb, eq-eqb, ne_eqb}
use Rattle.token.specs.Table.{no_id}
use Rattle.value.specs.declared.Mode.{Mode}
use Rattle.segment.specs.declared.Segment.{Segment}
use Rattle.sums.specs.Sums.{sum_of, id_of, name_sum_of}
use Rattle.apply.specs.declared.State.{State}
use Rattle.apply.specs.Apply.{state, num, columned, mapped, named, shown, four, five, counted, applied}

module _ (mode : Mode) (sources names : ℕ) (s : State) (g : Segment) (narrow : g.wide ≡ None) (col : ℕ) (e₀ : sum_of mode (pos s.dst_col +ℤ num 0 g) ≡ Ok col) where
  abbrev columns : State
  columns = state s.dst_line col s.src_line s.src_col s.source_id s.name_id g.next

  past_column : applied mode sources names s g ≡ counted mode sources names columns g
  unfolding applied columned
  past_column = rw (narrow, e₀)

  pub takes_one : g.count ≡ 1 → applied mode sources names s g ≡ Ok (shown columns no_id no_id, columns)
  unfolding counted
  takes_one n = past_column ∙ rw (eq-eqb g.count 1 n)

  module _ (source line scol : ℕ) (e₁ : id_of sources (pos s.source_id +ℤ num 1 g) ≡ Some source)
      (e₂ : sum_of mode (pos s.src_line +ℤ num 2 g) ≡ Ok line) (e₃ : sum_of mode (pos s.src_col +ℤ num 3 g) ≡ Ok scol) where
    abbrev sources_to : State
    sources_to = state s.dst_line col line scol source s.name_id g.next

    maps : mapped mode sources columns g ≡ Ok sources_to
    unfolding mapped
    maps = rw (e₁, e₂, e₃)

    pub takes_four : g.count ≡ 4 → applied mode sources names s g ≡ Ok (shown sources_to source no_id, sources_to)
    unfolding counted four
    takes_four n = past_column ∙ rw (ne_eqb g.count 1 (λ q. omega arith), eq-eqb g.count 4 n, maps)

    module _ (name : ℕ) (e₄ : name_sum_of mode (pos s.name_id +ℤ num 4 g) ≡ Ok name) (below : name < names) where
      abbrev names_to : State
      names_to = state s.dst_line col line scol source name g.next

      names_it : named mode names sources_to g ≡ Ok names_to
      unfolding named
      names_it = rw (e₄, lt-ltb name names below)

      pub takes_five : g.count ≡ 5 → applied mode sources names s g ≡ Ok (shown names_to source name, names_to)
      unfolding counted five
      takes_five n =
          past_column
          ∙ rw (ne_eqb g.count 1 (λ q. omega arith), ne_eqb g.count 4 (λ q. omega arith), eq-eqb g.count 5 n, maps, names_it)
