-- `short::try_fast_4_or_5_segment` meets its contract. Assumes nothing.
use Rattle.std.proofs.Common.{sym, refl, ◌∙◌, arith}
use Rattle.short.proofs.Laws.{second_fits, shaped}
use Rattle.short.proofs.try_fast_4_or_5_segment.Goals as goal

pub with_second-requires : goal.with_second-requires
with_second-requires c = second_fits c.args.s.now c.args.at (λ i. (c.shared_slice_known-1.given i).fits) _ refl c.if-s-at-ne65.false _ c.four_of.ensures _ c.fifth.ensures

pub returns-in-Some : goal.returns-in-Some
returns-in-Some c =
    shaped c.args.s.now c.args.at (λ i. (c.shared_slice_known-1.given i).fits) _ refl c.if-s-at-ne65.false _ c.four_of.ensures _ c.fifth.ensures _ c.with_second.ensures _ c.in-Some.ensures
    _ c.five_or_four-fields.ensures (sym c.is_delim.ensures ∙ c.if-is_delim.true) (omega (arith, c.requires))
