-- `step::general_step` meets its contract. Assumes nothing.
use Rattle.step.proofs.Laws.{general}
use Rattle.step.proofs.general_step.Goals as goal

pub returns : goal.returns
returns c = rw (c.step_of.ensures, c.take.ensures) (general c.args.limits.mode c.args.limits.sources c.args.limits.names c.args.s.now c.args.st)
