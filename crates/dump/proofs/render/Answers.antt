-- `dump::render` meets its contract, by the laws of `Printed`. Assumes nothing.
use borrow.Author.Rules.{rules}
use Rattle.dump.proofs.Printed.{renders}
use Rattle.dump.proofs.render.Goals as goal

pub returns : goal.returns
returns c = renders _ _ _ _ (search rules) c.render_in.ensures
