-- `name_index::entry_name` meets its contract, by the laws of `Entries`. Assumes nothing.
use mathlib.Core.Path.{sym, ◌∙◌}
use Rattle.name_index.proofs.Entries.{entry_inner, entry_added}
use Rattle.name_index.proofs.entry_name.Goals as goal

pub returns-then-entry-count : goal.returns-then-entry-count
returns-then-entry-count c = c.name_at.ensures ∙ sym (entry_inner _ _ _ _ c.if-entry-count.true)

pub returns : goal.returns
returns c = c.name_at-2.ensures ∙ sym (entry_added _ _ _ _ c.if-entry-count.false)
