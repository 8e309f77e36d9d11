use Rattle.list.proofs.Put.{put_long}
use lib.ListN.{length-set}
use Rattle.chunk.proofs.Lead.{put_none, comma_fits, put_comma, semi_fits, semis_fit, put_one, put_more}
use Rattle.chunk.proofs.put_lead.Goals as goal

pub returns-then-first : goal.returns-then-first
returns-then-first c = put_none _ _ _ _ _ c.if-from-to.true c.if-first.true

pub bounds-out-at : goal.bounds-out-at
bounds-out-at c = comma_fits c.args.out.now _ _ _ _ c.requires.to_in_bounds c.if-from-to.true c.if-first.false

pub returns-then-from-to : goal.returns-then-from-to
returns-then-from-to c = put_comma c.args.out.now _ _ _ _ c.requires.to_in_bounds c.if-from-to.true c.if-first.false

pub bounds-out-at-2 : goal.bounds-out-at-2
bounds-out-at-2 c = semi_fits c.args.out.now _ _ _ _ c.requires.to_in_bounds c.if-from-to.false c.requires.from_le_to

pub returns-then-to-from-eq1 : goal.returns-then-to-from-eq1
returns-then-to-from-eq1 c = put_one c.args.out.now _ _ _ _ c.requires.to_in_bounds c.if-from-to.false c.requires.from_le_to c.if-to-from-eq1.true

pub shape_of-out : goal.shape_of-out
shape_of-out c = put_long c.args.out.now _ _ _ _ (put_more c.args.out.now _ _ _ _ c.requires.to_in_bounds c.if-from-to.false c.requires.from_le_to _ _ c.put_semis.ensures) c.requires.to_in_bounds

pub returns : goal.returns
returns c = put_more _ _ _ _ _ c.requires.to_in_bounds c.if-from-to.false c.requires.from_le_to _ _ c.put_semis.ensures

pub put_semis-requires : goal.put_semis-requires
put_semis-requires c = simp length-set (semis_fit c.args.out.now _ _ _ _ c.requires.to_in_bounds c.if-from-to.false c.requires.from_le_to)
