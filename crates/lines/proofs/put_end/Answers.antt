-- `lines::put_end` meets its contract, by the laws of `Ends`. Assumes nothing.
use Rattle.std.proofs.Common.{rules, ap}
use Rattle.code.specs.declared.Answer.{Answer}
use Rattle.lines.proofs.Ends.{done_fits, done_put, no_fits, number_fits, at_fits, offset_fits, end_put}
use Rattle.lines.proofs.put_end.Goals as goal

pub put_number-requires : goal.put_number-requires
put_number-requires c = done_fits c.args.out.now _ c.args.end c.args.offset c.requires _ c.in_default.is _ _ c.put_word-after_end.ensures

pub returns-in_default : goal.returns-in_default
returns-in_default c = done_put c.args.out.now _ c.args.end c.args.offset c.requires _ c.in_default.is _ _ c.put_word-after_end.ensures _ _ c.put_number.ensures

pub put_number-after_no-requires : goal.put_number-after_no-requires
put_number-after_no-requires c = no_fits c.args.out.now _ c.args.end c.args.offset c.requires c.in-Err.code c.in-Err.is _ (ap (λ (a : Answer). a.code) c.from-refusal.ensures) (search rules) _ (ap (λ (a : Answer). a.number) c.from-refusal.ensures) (search rules) c.ranges.offset.fits _ _ c.put_word-after_end.ensures

pub put_number-after_number-requires : goal.put_number-after_number-requires
put_number-after_number-requires c = number_fits c.args.out.now _ c.args.end c.args.offset c.requires c.in-Err.code c.in-Err.is _ (ap (λ (a : Answer). a.code) c.from-refusal.ensures) (search rules) _ (ap (λ (a : Answer). a.number) c.from-refusal.ensures) (search rules) c.ranges.offset.fits _ _ c.put_word-after_end.ensures _ _ c.put_number-after_no.ensures

pub put_word-after_at-requires : goal.put_word-after_at-requires
put_word-after_at-requires c = at_fits c.args.out.now _ c.args.end c.args.offset c.requires c.in-Err.code c.in-Err.is _ (ap (λ (a : Answer). a.code) c.from-refusal.ensures) (search rules) _ (ap (λ (a : Answer). a.number) c.from-refusal.ensures) (search rules) c.ranges.offset.fits _ _ c.put_word-after_end.ensures _ _ c.put_number-after_no.ensures _ _ c.put_number-after_number.ensures

pub put_number-requires-2 : goal.put_number-requires-2
put_number-requires-2 c = offset_fits c.args.out.now _ c.args.end c.args.offset c.requires c.in-Err.code c.in-Err.is _ (ap (λ (a : Answer). a.code) c.from-refusal.ensures) (search rules) _ (ap (λ (a : Answer). a.number) c.from-refusal.ensures) (search rules) c.ranges.offset.fits _ _ c.put_word-after_end.ensures _ _ c.put_number-after_no.ensures _ _ c.put_number-after_number.ensures _ _ c.put_word-after_at.ensures

pub returns : goal.returns
returns c = end_put c.args.out.now _ c.args.end c.args.offset c.requires c.in-Err.code c.in-Err.is _ (ap (λ (a : Answer). a.code) c.from-refusal.ensures) (search rules) _ (ap (λ (a : Answer). a.number) c.from-refusal.ensures) (search rules) c.ranges.offset.fits _ _ c.put_word-after_end.ensures _ _ c.put_number-after_no.ensures _ _ c.put_number-after_number.ensures _ _ c.put_word-after_at.ensures _ _ c.put_number-2.ensures
