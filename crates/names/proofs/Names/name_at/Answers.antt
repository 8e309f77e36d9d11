use Rattle.names.proofs.Ends.{name_within, part_low, part_is}
use Rattle.names.proofs.Names.name_at.Goals as goal

pub slice_bounds-result-count : goal.slice_bounds-result-count
slice_bounds-result-count c = part_low _ _ _ c.begin_of.ensures c.requires.0 c.requires.1

pub slice_bounds-result-start : goal.slice_bounds-result-start
slice_bounds-result-start c = part_low _ _ _ c.begin_of.ensures c.requires.0 c.requires.1

pub slice_bounds-result-end : goal.slice_bounds-result-end
slice_bounds-result-end c = (name_within _ _ c.requires.0 c.requires.1).high

pub returns : goal.returns
returns c = part_is _ _ _ c.begin_of.ensures
