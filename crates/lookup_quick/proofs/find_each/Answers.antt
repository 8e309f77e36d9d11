-- `lookup_quick::find_each` meets its contract. Assumes nothing.
use Rattle.lookup_quick.proofs.find_each.Goals as goal

pub each_place-requires-clause-can : goal.each_place-requires-clause-can
each_place-requires-clause-can c = λ k h. (c.requires.0, c.requires.1.1.each k h)

pub returns : goal.returns
returns c = record { each = λ k h. (c.each_place.ensures.each k h).1; kept = c.each_place.ensures.kept; sized = c.each_place.ensures.sized }
