-- `code::number_of` meets its contract. Assumes nothing.
use mathlib.Core.Path.{◌≡◌, refl, ◌∙◌}
use mathlib.Core.List.{[], ◌∷◌}
use types.Run.{OneOf, miss}
use borrow.Enum.Refused.{opened}
use denote.Enum.Declared as Declared
use Rattle.code.specs.contracts.Code.{the_type}
use Rattle.code.specs.Code.{number_of}
use Rattle.code.specs.Narrow.{narrow_of}
use Rattle.code.specs.declared.Code.{Code}
use Rattle.code.specs.declared.Code.TheVariants.{VlqLeftover, VlqOverflow, BadSegmentSize, BadSourceReference, BadNameReference, WideValue, TableFull, NoRoom, LineGoesBack, BadChunk, BadTable, TooBig, MoreThanOneSource, BadNames, OddList, Unsorted}
use Rattle.code.proofs.number_of.Goals as goal

narrow : (x : Code) → OneOf (0 ∷ 1 ∷ 2 ∷ 3 ∷ 4 ∷ 5 ∷ 6 ∷ 8 ∷ 9 ∷ 10 ∷ 11 ∷ 12 ∷ 13 ∷ 14 ∷ 15 ∷ []) (Declared.tag_of the_type x) → narrow_of x ≡ number_of x
narrow VlqLeftover k = refl
narrow VlqOverflow k = refl
narrow (BadSegmentSize n) k = refl
narrow (BadSourceReference n) k = refl
narrow (BadNameReference n) k = refl
narrow (WideValue n) k = refl
narrow TableFull k = refl
narrow (NoRoom n) k = absurd (miss (0 ∷ 1 ∷ 2 ∷ 3 ∷ 4 ∷ 5 ∷ 6 ∷ 8 ∷ 9 ∷ 10 ∷ 11 ∷ 12 ∷ 13 ∷ 14 ∷ 15 ∷ []) 7 tt k)
narrow (LineGoesBack n) k = refl
narrow BadChunk k = refl
narrow BadTable k = refl
narrow (TooBig n) k = refl
narrow MoreThanOneSource k = refl
narrow BadNames k = refl
narrow OddList k = refl
narrow (Unsorted n) k = refl

pub returns-in_default : goal.returns-in_default
returns-in_default c = c.narrow_number.ensures ∙ narrow c.args.c (opened c.in_default.in_default-own.keys2)
