use Rattle.chunk.proofs.Fields.{lead_fits, step_fits, put_bare, others_fit, put_sourced}
use Rattle.chunk.proofs.put_token.Goals as goal

pub put_step-b-requires : goal.put_step-b-requires
put_step-b-requires c = step_fits _ _ _ _ _ c.requires.t_in_bounds _ _ c.put_lead-a.ensures _ c.base_of.ensures

pub returns-then-t-eq-NONE : goal.returns-then-t-eq-NONE
returns-then-t-eq-NONE c = put_bare _ _ _ _ _ c.requires.t_in_bounds _ _ c.put_lead-a.ensures _ c.base_of.ensures _ _ c.put_step-b.ensures c.if-t-eq-NONE.true

pub put_source-requires : goal.put_source-requires
put_source-requires c = others_fit _ _ _ _ _ c.requires.t_in_bounds _ _ c.put_lead-a.ensures _ c.base_of.ensures _ _ c.put_step-b.ensures c.if-t-eq-NONE.false

pub returns : goal.returns
returns c = put_sourced _ _ _ _ _ c.requires.t_in_bounds _ _ c.put_lead-a.ensures _ c.base_of.ensures _ _ c.put_step-b.ensures c.if-t-eq-NONE.false _ _ c.put_source.ensures

pub put_lead-a-requires : goal.put_lead-a-requires
put_lead-a-requires c = record { from_le_to = c.requires.prev_dst_line_bound; to_in_bounds = lead_fits c.args.out.now _ _ _ _ c.requires.t_in_bounds }
