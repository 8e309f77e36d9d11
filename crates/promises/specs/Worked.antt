-- docs/RULES.md, Worked texts: the rows, as one table, and that the definitions give each row, in both modes. Assumes nothing.
use Rattle.std.specs.Prelude.{◌≡◌, refl, List, [], ◌∷◌, ℕ, negsuc, Some, Ok, Err}
use Rattle.code.specs.declared.Code.{Code}
use Rattle.token.specs.Table.{no_id, token}
use Rattle.token.specs.declared.Token.{Token}
use Rattle.digits.specs.Digits.{digit_of, is_delim}
use Rattle.value.specs.Standard.{too_wide, signed}
use Rattle.value.specs.Value.{value_of}
use Rattle.value.specs.declared.Mode.{Mode}
use Rattle.vlq.specs.Vlq.{digits_from, vlq_of, vlq_at}
use Rattle.segment.specs.Segment.{fields_from, wide_from}
use Rattle.sums.specs.Sums.{reduced_of, sum_of, id_of, name_sum_of}
use Rattle.apply.specs.Apply.{columned, mapped, named, four, five, counted, applied}
use Rattle.step.specs.Step.{offset_of, segment_step, step_from}
use Rattle.decode.specs.Mapping.{Out, step_then, run, decoded}

abbrev done : List Token → ℕ → Out
done tokens offset = record { tokens = tokens; end = Ok tt; offset = offset }

abbrev out : List Token → Code → ℕ → Out
out tokens code offset = record { tokens = tokens; end = Err code; offset = offset }

-- a text, the counts of sources and names, and what each mode gives, with room for two tokens
pub record Row : Type 0 where
  pub text : List ℕ
  pub sources : ℕ
  pub names : ℕ
  pub lenient : Out
  pub checked : Out

abbrev row_of : List ℕ → ℕ → ℕ → Out → Out → Row
row_of text sources names lenient checked = record { text = text; sources = sources; names = names; lenient = lenient; checked = checked }

abbrev alike : List ℕ → ℕ → ℕ → Out → Row
alike text sources names o = row_of text sources names o o

abbrev pub worked : List Row
worked =
    -- empty: no tokens
    alike ([]) 0 0 (done [] 0) ∷
    -- `A`: 0 0 0 0 none none
    alike (65 ∷ []) 0 0 (done (token 0 0 0 0 no_id no_id 0 ∷ []) 1) ∷
    -- `AAAA`: 4 with 0, at 1
    alike (65 ∷ 65 ∷ 65 ∷ 65 ∷ []) 0 0 (out [] (Code.BadSourceReference 0) 1) ∷
    -- `ACAA`: 4 with 0, not 1, at 1
    alike (65 ∷ 67 ∷ 65 ∷ 65 ∷ []) 1 0 (out [] (Code.BadSourceReference 0) 1) ∷
    -- `AAAAD`: 5 with 4294967295; checked 6 with 4; at 4
    row_of (65 ∷ 65 ∷ 65 ∷ 65 ∷ 68 ∷ []) 1 1 (out [] (Code.BadNameReference 4294967295) 4) (out [] (Code.WideValue 4) 4) ∷
    -- `DAA`: 3 with 0, at 0
    alike (68 ∷ 65 ∷ 65 ∷ []) 1 0 (out [] (Code.BadSegmentSize 0) 0) ∷
    -- `AADA`: 3 with 0, at 2
    alike (65 ∷ 65 ∷ 68 ∷ 65 ∷ []) 1 0 (out [] (Code.BadSegmentSize 0) 2) ∷
    -- `AAAD`: 3 with 0, at 3
    alike (65 ∷ 65 ∷ 65 ∷ 68 ∷ []) 1 0 (out [] (Code.BadSegmentSize 0) 3) ∷
    -- `gAADA`: 3 with 0, at 3
    alike (103 ∷ 65 ∷ 65 ∷ 68 ∷ 65 ∷ []) 1 0 (out [] (Code.BadSegmentSize 0) 3) ∷
    -- `AAA`: 3 with 3, at 0
    alike (65 ∷ 65 ∷ 65 ∷ []) 1 0 (out [] (Code.BadSegmentSize 3) 0) ∷
    -- `AAAAAA`: 3 with 6, at 0
    alike (65 ∷ 65 ∷ 65 ∷ 65 ∷ 65 ∷ 65 ∷ []) 1 1 (out [] (Code.BadSegmentSize 6) 0) ∷
    -- `+/////D`: column 2147483647, both modes
    alike (43 ∷ 47 ∷ 47 ∷ 47 ∷ 47 ∷ 47 ∷ 68 ∷ []) 0 0 (done (token 0 2147483647 0 0 no_id no_id 0 ∷ []) 7) ∷
    -- six `g`, `E`: column 2147483648; checked 6 with 0, at 0
    row_of (103 ∷ 103 ∷ 103 ∷ 103 ∷ 103 ∷ 103 ∷ 69 ∷ []) 0 0 (done (token 0 2147483648 0 0 no_id no_id 0 ∷ []) 7) (out [] (Code.WideValue 0) 0) ∷
    -- `+/////H`: column 4294967295; checked 6 with 0, at 0
    row_of (43 ∷ 47 ∷ 47 ∷ 47 ∷ 47 ∷ 47 ∷ 72 ∷ []) 0 0 (done (token 0 4294967295 0 0 no_id no_id 0 ∷ []) 7) (out [] (Code.WideValue 0) 0) ∷
    -- six `g`, `I`: column 0; checked 6 with 0, at 0
    row_of (103 ∷ 103 ∷ 103 ∷ 103 ∷ 103 ∷ 103 ∷ 73 ∷ []) 0 0 (done (token 0 0 0 0 no_id no_id 0 ∷ []) 7) (out [] (Code.WideValue 0) 0) ∷
    -- `AA`, six `g`, `IA`: 0 0 0 0 0 none; checked 6 with 2, at 2
    row_of (65 ∷ 65 ∷ 103 ∷ 103 ∷ 103 ∷ 103 ∷ 103 ∷ 103 ∷ 73 ∷ 65 ∷ []) 1 0 (done (token 0 0 0 0 0 no_id 0 ∷ []) 10) (out [] (Code.WideValue 2) 2) ∷
    -- `D+/////HA`: 3 with 0, at 0; checked 6 with 1, at 1
    row_of (68 ∷ 43 ∷ 47 ∷ 47 ∷ 47 ∷ 47 ∷ 47 ∷ 72 ∷ 65 ∷ []) 1 0 (out [] (Code.BadSegmentSize 0) 0) (out [] (Code.WideValue 1) 1) ∷
    -- `AAAAA+/////H`: 3 with 6, at 0: a sixth field is not judged
    alike (65 ∷ 65 ∷ 65 ∷ 65 ∷ 65 ∷ 43 ∷ 47 ∷ 47 ∷ 47 ∷ 47 ∷ 47 ∷ 72 ∷ []) 1 1 (out [] (Code.BadSegmentSize 6) 0) ∷
    -- `+/////D,+/////D,E`: columns 2147483647, 4294967294; then 7, checked 6 with 0; at 16
    row_of (43 ∷ 47 ∷ 47 ∷ 47 ∷ 47 ∷ 47 ∷ 68 ∷ 44 ∷ 43 ∷ 47 ∷ 47 ∷ 47 ∷ 47 ∷ 47 ∷ 68 ∷ 44 ∷ 69 ∷ []) 0 0 (out (token 0 2147483647 0 0 no_id no_id 0 ∷ token 0 4294967294 0 0 no_id no_id 8 ∷ []) Code.TableFull 16) (out (token 0 2147483647 0 0 no_id no_id 0 ∷ token 0 4294967294 0 0 no_id no_id 8 ∷ []) (Code.WideValue 0) 16) ∷
    -- `B`: column 0; checked value -2147483648, so 3 with 0, at 0
    row_of (66 ∷ []) 0 0 (done (token 0 0 0 0 no_id no_id 0 ∷ []) 1) (out [] (Code.BadSegmentSize 0) 0) ∷
    -- `hA`: the same
    row_of (104 ∷ 65 ∷ []) 0 0 (done (token 0 0 0 0 no_id no_id 0 ∷ []) 2) (out [] (Code.BadSegmentSize 0) 0) ∷
    -- `AAAAB`: 0 0 0 0 0 0; checked 6 with 4, at 4
    row_of (65 ∷ 65 ∷ 65 ∷ 65 ∷ 66 ∷ []) 1 1 (done (token 0 0 0 0 0 0 0 ∷ []) 5) (out [] (Code.WideValue 4) 4) ∷
    -- `hgggggE`: value -2147483648, so 3 with 0; checked 6 with 0; at 0
    row_of (104 ∷ 103 ∷ 103 ∷ 103 ∷ 103 ∷ 103 ∷ 69 ∷ []) 0 0 (out [] (Code.BadSegmentSize 0) 0) (out [] (Code.WideValue 0) 0) ∷
    -- twelve `g`, `A`: column 0
    alike (103 ∷ 103 ∷ 103 ∷ 103 ∷ 103 ∷ 103 ∷ 103 ∷ 103 ∷ 103 ∷ 103 ∷ 103 ∷ 103 ∷ 65 ∷ []) 0 0 (done (token 0 0 0 0 no_id no_id 0 ∷ []) 13) ∷
    -- twelve `g`, `Q`: column 0; checked 6 with 0, at 0
    row_of (103 ∷ 103 ∷ 103 ∷ 103 ∷ 103 ∷ 103 ∷ 103 ∷ 103 ∷ 103 ∷ 103 ∷ 103 ∷ 103 ∷ 81 ∷ []) 0 0 (done (token 0 0 0 0 no_id no_id 0 ∷ []) 13) (out [] (Code.WideValue 0) 0) ∷
    -- `h`, eleven `g`, `Q`: the same
    row_of (104 ∷ 103 ∷ 103 ∷ 103 ∷ 103 ∷ 103 ∷ 103 ∷ 103 ∷ 103 ∷ 103 ∷ 103 ∷ 103 ∷ 81 ∷ []) 0 0 (done (token 0 0 0 0 no_id no_id 0 ∷ []) 13) (out [] (Code.WideValue 0) 0) ∷
    -- thirteen `g`, `A`: 2, at 13
    alike (103 ∷ 103 ∷ 103 ∷ 103 ∷ 103 ∷ 103 ∷ 103 ∷ 103 ∷ 103 ∷ 103 ∷ 103 ∷ 103 ∷ 103 ∷ 65 ∷ []) 0 0 (out [] Code.VlqOverflow 13) ∷
    -- thirteen `g`, `,`: 1, at 13
    alike (103 ∷ 103 ∷ 103 ∷ 103 ∷ 103 ∷ 103 ∷ 103 ∷ 103 ∷ 103 ∷ 103 ∷ 103 ∷ 103 ∷ 103 ∷ 44 ∷ []) 0 0 (out [] Code.VlqLeftover 13) ∷
    -- `!`: 1, at 1
    alike (33 ∷ []) 0 0 (out [] Code.VlqLeftover 1) ∷
    -- `A,!`: 0 0 0 0 none none; then 1, at 3
    alike (65 ∷ 44 ∷ 33 ∷ []) 0 0 (out (token 0 0 0 0 no_id no_id 0 ∷ []) Code.VlqLeftover 3) ∷
    -- `!A`: value -15, so 3 with 0, at 0
    alike (33 ∷ 65 ∷ []) 0 0 (out [] (Code.BadSegmentSize 0) 0) ∷
    -- `A,A,AAAA`: 0 0 0 0 none none, twice; then 7, at 4
    alike (65 ∷ 44 ∷ 65 ∷ 44 ∷ 65 ∷ 65 ∷ 65 ∷ 65 ∷ []) 1 0 (out (token 0 0 0 0 no_id no_id 0 ∷ token 0 0 0 0 no_id no_id 2 ∷ []) Code.TableFull 4) ∷
    -- `,,A;;A`: 0 0 0 0 none none, by the segment at 2; 2 0 0 0 none none, by the one at 5
    alike (44 ∷ 44 ∷ 65 ∷ 59 ∷ 59 ∷ 65 ∷ []) 0 0 (done (token 0 0 0 0 no_id no_id 2 ∷ token 2 0 0 0 no_id no_id 5 ∷ []) 6) ∷
    -- `AAEG;C`: 0 0 2 3 0 none, by the segment at 0; 1 1 2 3 none none, by the one at 5
    alike (65 ∷ 65 ∷ 69 ∷ 71 ∷ 59 ∷ 67 ∷ []) 1 0 (done (token 0 0 2 3 0 no_id 0 ∷ token 1 1 2 3 no_id no_id 5 ∷ []) 6) ∷
    []

-- the definitions give the row
abbrev pub Holds : Row → Type 0
Holds r = (decoded Mode.Lenient r.sources r.names r.text 2 ≡ r.lenient) × (decoded Mode.Checked r.sources r.names r.text 2 ≡ r.checked)

abbrev pub Each : List Row → Type 0
Each [] = Unit {0}
Each (r ∷ rs) = Holds r × Each rs

pub worked_texts : Each worked
unfolding digit_of is_delim too_wide signed value_of digits_from vlq_of fields_from wide_from reduced_of sum_of id_of name_sum_of columned mapped named four five counted applied offset_of segment_step step_from step_then run
worked_texts =
    ((refl, refl), ((refl, refl), ((refl, refl), ((refl, refl), ((refl, refl), ((refl, refl), ((refl, refl), ((refl, refl), ((refl, refl), ((refl, refl), ((refl, refl), ((refl, refl), ((refl, refl), ((refl, refl), ((refl, refl), ((refl, refl), ((refl, refl), ((refl, refl), ((refl, refl), ((refl, refl), ((refl, refl), ((refl, refl), ((refl, refl), ((refl, refl), ((refl, refl), ((refl, refl), ((refl, refl), ((refl, refl), ((refl, refl), ((refl, refl), ((refl, refl), ((refl, refl), ((refl, refl), ((refl, refl), tt))))))))))))))))))))))))))))))))))

-- `!A`: the bytes read as 63 and 0, so the number is 31, and the value -15 in both modes
pub value_of_a_bad_byte : (vlq_at (33 ∷ 65 ∷ []) 0 ≡ Ok (Some (31, 0, 2))) × ((value_of Mode.Lenient 31 0 ≡ Some (negsuc 14)) × (value_of Mode.Checked 31 0 ≡ Some (negsuc 14)))
unfolding digit_of is_delim too_wide signed value_of digits_from vlq_of
value_of_a_bad_byte = (refl, (refl, refl))

-- `+/////D,C,B`, checked: minus zero is a step of -2147483648, and no offence by itself: columns 2147483647, 2147483648 and 0
pub minus_zero_taken : decoded Mode.Checked 0 0 (43 ∷ 47 ∷ 47 ∷ 47 ∷ 47 ∷ 47 ∷ 68 ∷ 44 ∷ 67 ∷ 44 ∷ 66 ∷ []) 3
    ≡ done (token 0 2147483647 0 0 no_id no_id 0 ∷ token 0 2147483648 0 0 no_id no_id 8 ∷ token 0 0 0 0 no_id no_id 10 ∷ []) 11
unfolding digit_of is_delim too_wide signed value_of digits_from vlq_of fields_from wide_from reduced_of sum_of columned counted applied segment_step step_from step_then run
minus_zero_taken = refl
