use mathlib.Core.Path.{refl}
use Rattle.encode.proofs.Write.{writing, written_long, written_all, write_line, write_fits, write_next}
use Rattle.encode.proofs.write_all.Goals as goal

pub loop-i-init : goal.loop-i-init
loop-i-init c = writing _ _ _ c.requires

pub put_token-at-requires : goal.put_token-at-requires
put_token-at-requires c = record { prev_dst_line_bound = write_line _ _ _ _ _ _ _ c.loop-i.invariant _ c.token_at-t.ensures c.loop-i-test.true; t_in_bounds = write_fits _ _ _ _ _ _ _ c.loop-i.invariant _ c.token_at-t.ensures c.loop-i-test.true }

pub loop-i-preserved : goal.loop-i-preserved
loop-i-preserved c = write_next _ _ _ _ _ _ _ c.loop-i.invariant _ c.token_at-t.ensures c.loop-i-test.true _ _ c.put_token-at.ensures _ c.after-p.ensures

pub shape_of-out : goal.shape_of-out
shape_of-out c = written_long _ _ _ _ _ _ _ c.loop-i.invariant

pub returns : goal.returns
returns c = written_all _ _ _ _ _ _ _ c.loop-i.invariant c.loop-i-test.false _ refl
