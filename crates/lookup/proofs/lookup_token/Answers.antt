-- `lookup::lookup_token` meets its contract, by the laws of `Best`. Assumes nothing.
use mathlib.Core.Path.{sym, ◌∙◌}
use Rattle.lookup.proofs.Best.{looked}
use Rattle.lookup.proofs.lookup_token.Goals as goal

pub returns : goal.returns
returns c = looked _ _ _ (sym c.bad_table.ensures ∙ c.if-bad_table.false) _ c.look_in.ensures
