use Rattle.std.proofs.Common.{refl}
use Rattle.digits.specs.Tables.{writing}
use Rattle.vlq_write.specs.Near.{near_writing}
use Rattle.vlq_write.proofs.Tables.new.Goals as goal

pub invariant_of-result : goal.invariant_of-result
unfolding writing near_writing
invariant_of-result c = record { digits_are = refl; near_are = refl }
