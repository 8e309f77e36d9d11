-- `code::code_of` meets its contract. Assumes nothing.
use mathlib.Core.Path.{◌≡◌, refl, ◌∙◌}
use mathlib.Core.List.{[], ◌∷◌}
use types.Run.{OneOf, miss}
use borrow.Enum.Refused.{opened}
use denote.Enum.Declared as Declared
use Rattle.code.specs.contracts.Code.{the_type}
use Rattle.code.specs.Code.{code_of}
use Rattle.code.specs.Narrow.{rank_of}
use Rattle.code.specs.declared.Code.{Code}
use Rattle.code.specs.declared.Code.TheVariants.{VlqLeftover, VlqOverflow, BadSegmentSize, BadSourceReference, BadNameReference, WideValue, TableFull, NoRoom, LineGoesBack, BadChunk, BadTable, TooBig, MoreThanOneSource, BadNames, OddList, Unsorted}
use Rattle.code.proofs.code_of.Goals as goal

rank : (x : Code) → OneOf (0 ∷ 1 ∷ 2 ∷ 3 ∷ 4 ∷ 5 ∷ 6 ∷ 7 ∷ 8 ∷ 9 ∷ 10 ∷ 11 ∷ 12 ∷ 13 ∷ []) (Declared.tag_of the_type x) → rank_of x ≡ code_of x
rank VlqLeftover k = refl
rank VlqOverflow k = refl
rank (BadSegmentSize n) k = refl
rank (BadSourceReference n) k = refl
rank (BadNameReference n) k = refl
rank (WideValue n) k = refl
rank TableFull k = refl
rank (NoRoom n) k = refl
rank (LineGoesBack n) k = refl
rank BadChunk k = refl
rank BadTable k = refl
rank (TooBig n) k = refl
rank MoreThanOneSource k = refl
rank BadNames k = refl
rank OddList k = absurd (miss (0 ∷ 1 ∷ 2 ∷ 3 ∷ 4 ∷ 5 ∷ 6 ∷ 7 ∷ 8 ∷ 9 ∷ 10 ∷ 11 ∷ 12 ∷ 13 ∷ []) 14 tt k)
rank (Unsorted n) k = absurd (miss (0 ∷ 1 ∷ 2 ∷ 3 ∷ 4 ∷ 5 ∷ 6 ∷ 7 ∷ 8 ∷ 9 ∷ 10 ∷ 11 ∷ 12 ∷ 13 ∷ []) 15 tt k)

pub returns-in_default : goal.returns-in_default
returns-in_default c = c.rank_of.ensures ∙ rank c.args.c (opened c.in_default.in_default-own.keys3)
