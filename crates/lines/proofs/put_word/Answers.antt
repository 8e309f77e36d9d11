-- `lines::put_word` meets its contract, by the laws of `Words`. Assumes nothing.
use native.Mathlib.Omega.{arith}
use Rattle.lines.proofs.Words.{copied}
use Rattle.lines.proofs.put_word.Goals as goal

pub returns : goal.returns
returns c = copied _ _ _ _ _ (omega arith) c.copy_from_slice.ensures.after
