use Rattle.vlq_write.proofs.Sizes.{size_short, size_long}
use Rattle.vlq_write.proofs.vlq_size.Goals as goal

pub returns-then-v-lt1024 : goal.returns-then-v-lt1024
returns-then-v-lt1024 c = size_short _ _ c.if-v-lt1024.true c.over.ensures

pub returns : goal.returns
returns c = size_long _ _ _ _ _ c.if-v-lt1024.false c.requires c.over-2.ensures c.over-3.ensures c.over-4.ensures c.over-5.ensures
