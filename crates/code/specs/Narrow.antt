-- Helpers: what inner contracts and proofs need; no contract of an entry and no theorem reaches this file.
-- The ranks of the codes, and the numbers of 32 bits. Assumes nothing.
use Rattle.std.specs.Prelude.{ℕ}
use Rattle.code.specs.declared.Code.{Code}
use Rattle.code.specs.declared.Code.TheVariants.{VlqLeftover, VlqOverflow, BadSegmentSize, BadSourceReference, BadNameReference, WideValue, TableFull, NoRoom, LineGoesBack, BadChunk, BadTable, TooBig, MoreThanOneSource, BadNames, OddList, Unsorted}

-- its rank among the codes, from 1
abbrev pub rank_of : Code → ℕ
rank_of VlqLeftover = 1
rank_of VlqOverflow = 2
rank_of (BadSegmentSize n) = 3
rank_of (BadSourceReference n) = 4
rank_of (BadNameReference n) = 5
rank_of (WideValue n) = 6
rank_of TableFull = 7
rank_of (NoRoom n) = 8
rank_of (LineGoesBack n) = 9
rank_of BadChunk = 10
rank_of BadTable = 11
rank_of (TooBig n) = 12
rank_of MoreThanOneSource = 13
rank_of BadNames = 14
rank_of OddList = 15
rank_of (Unsorted n) = 16

-- the number, where it has 32 bits
abbrev pub narrow_of : Code → ℕ
narrow_of VlqLeftover = 0
narrow_of VlqOverflow = 0
narrow_of (BadSegmentSize n) = n
narrow_of (BadSourceReference n) = n
narrow_of (BadNameReference n) = n
narrow_of (WideValue n) = n
narrow_of TableFull = 0
narrow_of (NoRoom n) = 0
narrow_of (LineGoesBack n) = n
narrow_of BadChunk = 0
narrow_of BadTable = 0
narrow_of (TooBig n) = n
narrow_of MoreThanOneSource = 0
narrow_of BadNames = 0
narrow_of OddList = 0
narrow_of (Unsorted n) = n
