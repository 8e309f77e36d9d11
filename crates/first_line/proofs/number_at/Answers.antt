-- `first_line::number_at` meets its contract, by the laws of `Count`. Assumes nothing.
use mathlib.Core.Path.{refl, sym, ◌∙◌}
use Rattle.first_line.proofs.Count.{same_figure, stops, strange, eleventh, turns, at_end}
use Rattle.first_line.proofs.number_at.Goals as goal

pub returns-then-b-stop : goal.returns-then-b-stop
returns-then-b-stop c = stops _ _ _ _ _ _ c.loop-i.invariant c.loop-i-test.true _ refl c.if-b-stop.true _ c.ended.ensures

pub returns-then-not-is_ascii_digit : goal.returns-then-not-is_ascii_digit
returns-then-not-is_ascii_digit c =
    strange _ _ _ _ _ _ c.loop-i.invariant c.loop-i-test.true _ refl c.if-b-stop.false
    (sym c.if-not-is_ascii_digit.true ∙ c.is_ascii_digit.ensures.value ∙ same_figure _)

pub returns-then-i-at-eq-MOST_FIGURES : goal.returns-then-i-at-eq-MOST_FIGURES
returns-then-i-at-eq-MOST_FIGURES c =
    eleventh _ _ _ _ _ _ c.loop-i.invariant c.loop-i-test.true _ refl c.if-b-stop.false
    (sym c.if-not-is_ascii_digit.false ∙ c.is_ascii_digit.ensures.value ∙ same_figure _) c.if-i-at-eq-MOST_FIGURES.true

pub loop-i-preserved : goal.loop-i-preserved
loop-i-preserved c =
    turns _ _ _ _ _ _ c.loop-i.invariant c.loop-i-test.true _ refl c.if-b-stop.false
    (sym c.if-not-is_ascii_digit.false ∙ c.is_ascii_digit.ensures.value ∙ same_figure _) _ c.from.ensures c.if-i-at-eq-MOST_FIGURES.false

pub returns : goal.returns
returns c = at_end _ _ _ _ _ _ c.loop-i.invariant c.loop-i-test.false
