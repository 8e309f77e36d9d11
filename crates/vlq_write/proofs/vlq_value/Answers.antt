use Rattle.vlq_write.proofs.Values.{made}
use Rattle.vlq_write.proofs.vlq_value.Goals as goal

pub returns : goal.returns
returns c = rw (c.abs_diff.ensures, c.from.ensures) (made c.args.a c.args.b)
