use Rattle.names.proofs.Ends.{Rising}
use Rattle.names.proofs.Names.is_sound.Given as goal

abbrev pub invariant-loop-end : goal.invariant-loop-end
invariant-loop-end l = Rising l.self.text.now l.self.ends.now l.from l.end-index
