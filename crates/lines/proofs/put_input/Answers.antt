-- `lines::put_input` meets its contract, by the laws of `Ends`. Assumes nothing.
use Rattle.lines.proofs.Ends.{input_put}
use Rattle.lines.proofs.put_input.Goals as goal

pub returns : goal.returns
returns c = input_put _ _ _ _ c.put_word.ensures
