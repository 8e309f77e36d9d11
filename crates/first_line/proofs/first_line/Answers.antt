-- `first_line::first_line` meets its contract, by the laws of `Line`. Assumes nothing.
use Rattle.first_line.proofs.Line.{no_first, no_second, both_counts}
use Rattle.first_line.proofs.first_line.Goals as goal

pub returns-in_err-sources : goal.returns-in_err-sources
returns-in_err-sources c = rw c.from_residual.ensures (no_first _ c.in_err-sources.ensures)

pub returns-in_err-names : goal.returns-in_err-names
returns-in_err-names c = rw c.from_residual-in_err-names.ensures (no_second _ _ c.in_ok-sources.ensures c.in_err-names.ensures)

pub returns : goal.returns
returns c = both_counts _ _ c.in_ok-sources.ensures _ c.in_ok-names.ensures
