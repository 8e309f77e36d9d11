-- `lookup::best_in` meets its contract, by the laws of `Scan`. Assumes nothing.
use mathlib.Core.Path.{sym, ◌∙◌}
use Rattle.lookup.proofs.Scan.{found_inside, takes, leaves}
use Rattle.lookup.proofs.best_in.Goals as goal
use Rattle.lookup.proofs.best_in.Goals.{then-takes, else-takes}

pub token_at-requires : goal.token_at-requires
token_at-requires c = found_inside _ _ _ _ _ c.requires.0 _ (sym c.requires.1 ∙ c.in-Some.is)

pub loop-i-preserved : goal.loop-i-preserved
loop-i-preserved c =
    elim c.if-takes.branch [
      | then-takes w ↦ rw (w.best-is, w.least-is) (takes _ _ _ _ _ _ c.loop-i.invariant (sym w.if-takes.true ∙ c.takes.ensures) _ w.token_at-least.ensures)
      | else-takes w ↦ rw (w.best-is, w.least-is) (leaves _ _ _ _ _ _ c.loop-i.invariant (sym w.if-takes.false ∙ c.takes.ensures))
    ]
