-- docs/RULES.md, Codes: the number of each code, and the number that goes with it. Assumes nothing.
use Rattle.std.specs.Prelude.{ℕ, Result, Ok, Err, ⊤}
use Rattle.code.specs.declared.Answer.{Answer}
use Rattle.code.specs.declared.Code.{Code}
use Rattle.code.specs.declared.Code.TheVariants.{VlqLeftover, VlqOverflow, BadSegmentSize, BadSourceReference, BadNameReference, WideValue, TableFull, NoRoom, LineGoesBack, BadChunk, BadTable, TooBig, MoreThanOneSource, BadNames, OddList, Unsorted}

abbrev pub code_of : Code → ℕ
code_of VlqLeftover = 1
code_of VlqOverflow = 2
code_of (BadSegmentSize n) = 3
code_of (BadSourceReference n) = 4
code_of (BadNameReference n) = 5
code_of (WideValue n) = 6
code_of TableFull = 7
code_of (NoRoom n) = 8
code_of (LineGoesBack n) = 9
code_of BadChunk = 10
code_of BadTable = 11
code_of (TooBig n) = 12
code_of MoreThanOneSource = 13
code_of BadNames = 14
code_of OddList = 17
code_of (Unsorted n) = 22

-- where the table lists no number it is 0
abbrev pub number_of : Code → ℕ
number_of VlqLeftover = 0
number_of VlqOverflow = 0
number_of (BadSegmentSize n) = n
number_of (BadSourceReference n) = n
number_of (BadNameReference n) = n
number_of (WideValue n) = n
number_of TableFull = 0
number_of (NoRoom n) = n
number_of (LineGoesBack n) = n
number_of BadChunk = 0
number_of BadTable = 0
number_of (TooBig n) = n
number_of MoreThanOneSource = 0
number_of BadNames = 0
number_of OddList = 0
number_of (Unsorted n) = n

-- what is done has code 0 and number 0
abbrev pub done : Answer
done = record { code = 0; number = 0 }

abbrev pub refused : Code → Answer
refused c = record { code = code_of c; number = number_of c }

abbrev pub answer_of : Result ⊤ Code → Answer
answer_of (Ok t) = done
answer_of (Err c) = refused c
