use Prim.Native.Nat.{◌-◌}
use Rattle.chunk.proofs.Lead.{Semis}
use Rattle.chunk.proofs.put_semis.Given as goal

abbrev pub invariant-loop-k : goal.invariant-loop-k
invariant-loop-k l = Semis l.initial.out l.at l.count l.out l.i l.k

abbrev pub decreases-loop-k : goal.decreases-loop-k
decreases-loop-k l = l.count - l.k
