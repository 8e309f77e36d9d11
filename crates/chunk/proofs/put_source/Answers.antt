use Rattle.chunk.proofs.Fields.{source_fits, line_fits, column_fits, name_fits, put_four, put_five}
use Rattle.chunk.proofs.put_source.Goals as goal

pub put_step-a-requires : goal.put_step-a-requires
put_step-a-requires c = source_fits c.args.out.now _ _ _ c.requires

pub put_step-b-requires : goal.put_step-b-requires
put_step-b-requires c = line_fits _ _ _ _ c.requires _ _ c.put_step-a.ensures

pub put_step-c-requires : goal.put_step-c-requires
put_step-c-requires c = column_fits _ _ _ _ c.requires _ _ c.put_step-a.ensures _ _ c.put_step-b.ensures

pub returns-then-t-eq-NONE : goal.returns-then-t-eq-NONE
returns-then-t-eq-NONE c = put_four _ _ _ _ c.requires _ _ c.put_step-a.ensures _ _ c.put_step-b.ensures _ _ c.put_step-c.ensures c.if-t-eq-NONE.true

pub put_step-requires : goal.put_step-requires
put_step-requires c = name_fits _ _ _ _ c.requires _ _ c.put_step-a.ensures _ _ c.put_step-b.ensures _ _ c.put_step-c.ensures c.if-t-eq-NONE.false

pub returns : goal.returns
returns c = put_five _ _ _ _ c.requires _ _ c.put_step-a.ensures _ _ c.put_step-b.ensures _ _ c.put_step-c.ensures c.if-t-eq-NONE.false _ _ c.put_step.ensures
