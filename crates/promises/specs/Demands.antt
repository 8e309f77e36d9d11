-- docs/RULES.md, Demands: what the library owes, by name, each put together from the laws of the parts. Assumes nothing.
--
-- Demand 1: every entry takes every input and returns; bad input gets the refusal that the rules name. Each entry's contract, which
-- the gate proves of its code with nothing asked of the caller, gives the complete answer; the theorems here say that each contract
-- leaves one answer and one content of everything lent.
-- Demand 2: the answers are those of the definitions, and the definitions give the worked texts (Worked.antt).
-- Demand 3: what is written reads back.
use Rattle.std.specs.Prelude.{◌≡◌, refl, List, ℕ, ◌<◌, ◌≤◌, length, get_or, Result, Ok, Err, is_ok}
use Rattle.std.proofs.Common.{sym, ◌∙◌, ap}
use Rattle.list.specs.Memory.{onto}
use Rattle.list.specs.Pick.{pick}
use Rattle.code.specs.declared.Code.{Code}
use Rattle.token.specs.declared.Token.{Token}
use Rattle.token.specs.declared.TokenChunk.{TokenChunk}
use Rattle.value.specs.declared.Mode.{Mode}
use Rattle.vlq.specs.Runs.{ByTheStandard}
use Rattle.vlq.proofs.Runs as runs
use Rattle.decode.specs.Mapping.{Decodes}
use Rattle.decode.specs.Where.{Located}
use Rattle.decode.specs.Behind.{SegmentBehind}
use Rattle.decode.proofs.Unique as decode
use Rattle.decode.proofs.Where as fault
use Rattle.decode.proofs.Behind as behind
use Rattle.exact.specs.Exact.{NothingLost, OneReading}
use Rattle.exact.proofs.Exact as exact
use Rattle.exact.proofs.OneReading as reading
use Rattle.table_size.specs.Size.{NeverFull}
use Rattle.table_size.proofs.Enough as size
use Rattle.encode.specs.declared.Encoded.{Encoded}
use Rattle.encode.specs.Encode.{bytes_in, Encodes}
use Rattle.encode.proofs.Unique as encode
use Rattle.translate.specs.Translate.{Translates}
use Rattle.translate.proofs.Whole as translate
use Rattle.code.specs.Code.{answer_of}
use Rattle.code.specs.declared.Answer.{Answer}
use Rattle.records.specs.Records.{TranslatesRecords}
use Rattle.records.proofs.Laws as records
use Rattle.lookup.specs.Lookup.{Looks, found_out}
use Rattle.lookup.proofs.Best as lookup
use Rattle.lookup_many.specs.Many.{pairs, line_of, col_of, LooksMany, Told}
use Rattle.lookup_many.proofs.Whole as many
use Rattle.order.specs.Order.{SortedSays}
use Rattle.order.proofs.Falls as order
use Rattle.changes.specs.Once.{ChangesOnce, OtherWay}
use Rattle.changes.proofs.Once as changes
use Rattle.changes.proofs.Mirror as mirror
use Rattle.compare_tables.specs.Compare.{Compares, DoneLists, EmptyIsSame}
use Rattle.compare_tables.proofs.Answer as compare
use Rattle.halving.specs.Law.{HalvingLaw}
use Rattle.halving.proofs.Law as halving
use Rattle.names.specs.Names.{NameList, place_of}
use Rattle.compose.specs.Compose.{Maps, work_for, Composes, ComposesWith}
use Rattle.compose.proofs.Unique as compose
use Rattle.premises.specs.Premises.{Decides}
use Rattle.premises.proofs.Unique as premises
use Rattle.checked_premises.specs.Checked.{DecidesChecked}
use Rattle.checked_premises.proofs.Unique as checked
use Rattle.peghayrick.proofs.pgk_lookup_many.Reads as plain
use Rattle.peghayrick.proofs.pgk_lookup_many_quick.Reads as quick
use Rattle.peghayrick.specs.declared.DecodedOut.{DecodedOut}
use Rattle.peghayrick.specs.declared.EncodedOut.{EncodedOut}
use Rattle.peghayrick.specs.declared.ComparedOut.{ComparedOut}
use Rattle.peghayrick.specs.declared.ComposedOut.{ComposedOut}
use Rattle.peghayrick.specs.declared.NameOut.{NameOut}
use Rattle.peghayrick.specs.Exports.{Goes, flag, decoded_out, encoded_out, compared_out, composed_out, name_out}
use Rattle.round.specs.Demand3.{ChunksJoin, WriteAndRead, CutAndRead, SurelyReadsBack, SurelyInBoth, ShortIsEarly, OneText}
use Rattle.round.proofs.Demand3 as round

-- ---- demand 1: each exported entry has one answer, and leaves one content of what is lent

-- pgk_decode, pgk_decode_lenient, pgk_decode_checked
pub one_decode : (mode : Mode) (sources names : ℕ) (text table : List ℕ) (r s : DecodedOut) (x y : List ℕ)
    → Goes (λ d. Decodes mode sources names text table d x) decoded_out r → Goes (λ d. Decodes mode sources names text table d y) decoded_out s → (r ≡ s) × (x ≡ y)
one_decode mode sources names text table r s x y a b =
    let e = decode.one_decode mode sources names text table a.inner b.inner x y a.holds b.holds in
    (a.says ∙ ap decoded_out e.0 ∙ sym b.says, e.1)

-- of every refused decode: the offset lies in the refused segment or right behind it, and what stands before that segment decodes to
-- the tokens that are kept
pub fault_located : Located
fault_located = fault.located

-- of every token of every decode, done or refused: the bytes of the text from its seventh number on, up to the next delimiter or the
-- end, are the segment that gave it
pub segment_behind : SegmentBehind
segment_behind = behind.behind

-- pgk_encode
pub one_encode : (table : List ℕ) (c : TokenChunk) (out : List ℕ) (r s : EncodedOut) (x y : List ℕ)
    → Goes (λ e. Encodes table c out e x) (encoded_out c) r → Goes (λ e. Encodes table c out e y) (encoded_out c) s → (r ≡ s) × (x ≡ y)
one_encode table c out r s x y a b =
    let e = encode.one_answer table c out a.inner b.inner x y a.holds b.holds in
    (a.says ∙ ap (encoded_out c) e.0 ∙ sym b.says, e.1)

refused_is : (table : List ℕ) (c : TokenChunk) (out x : List ℕ) (e : Result Encoded Code) (r : EncodedOut) → Encodes table c out e x → r ≡ encoded_out c e
    → (r.code ≡ 0 → ⊥) → (r.bytes ≡ 0) × ((r.next ≡ c) × (x ≡ out))
refused_is table c out x (Ok e) r w s n = absurd (n (ap (λ (o : EncodedOut). o.code) s))
refused_is table c out x (Err d) r w s n = (
  ap (λ (o : EncodedOut). o.bytes) s,
  (
    ap (λ (o : EncodedOut). o.next) s,
    w.wrote ∙ ap (λ (q : Result Encoded Code). pick (is_ok q) (onto (bytes_in table c) out) out) (sym w.says),
  ),
)

-- a refusal of it counts no bytes, gives the chunk back as it was given, and leaves the lent bytes as they were
pub refused_encode : (table : List ℕ) (c : TokenChunk) (out : List ℕ) (r : EncodedOut) (x : List ℕ) → Goes (λ e. Encodes table c out e x) (encoded_out c) r
    → (r.code ≡ 0 → ⊥) → (r.bytes ≡ 0) × ((r.next ≡ c) × (x ≡ out))
refused_encode table c out r x a n = refused_is table c out x a.inner r a.holds a.says n

-- pgk_translate
pub one_translate : (line source name : ℕ) (table : List ℕ) (r s : Answer) (x y : List ℕ)
    → Goes (λ c. Translates line source name table c x) answer_of r → Goes (λ c. Translates line source name table c y) answer_of s → (r ≡ s) × (x ≡ y)
one_translate line source name table r s x y a b =
    let e = translate.one_answer a.holds b.holds in
    (a.says ∙ ap answer_of e.0 ∙ sym b.says, e.1)

-- pgk_translate_tokens
pub one_translate_tokens : (line source name : ℕ) (ts : List Token) (r s : Answer) (x y : List Token)
    → Goes (λ c. TranslatesRecords line source name ts c x) answer_of r → Goes (λ c. TranslatesRecords line source name ts c y) answer_of s → (r ≡ s) × (x ≡ y)
one_translate_tokens line source name ts r s x y a b =
    let e = records.one_answer a.holds b.holds in
    (a.says ∙ ap answer_of e.0 ∙ sym b.says, e.1)

-- pgk_lookup
pub one_lookup : (table : List ℕ) (line col : ℕ) (r s : Answer) → Goes (Looks table line col) found_out r → Goes (Looks table line col) found_out s → r ≡ s
one_lookup table line col r s a b =
    a.says ∙ ap found_out (lookup.one_answer table line col a.inner b.inner a.holds b.holds) ∙ sym b.says

-- pgk_lookup_many, pgk_lookup_many_quick: so both answer the same, and leave the same in the lent list
pub one_lookup_many : (table positions found : List ℕ) (r s : Answer) (x y : List ℕ)
    → Goes (λ c. LooksMany table positions found c x) answer_of r → Goes (λ c. LooksMany table positions found c y) answer_of s → (r ≡ s) × (x ≡ y)
one_lookup_many table positions found r s x y a b =
    let e = many.one_answer table positions found a.inner b.inner x y a.holds b.holds in
    (a.says ∙ ap answer_of e.0 ∙ sym b.says, e.1)

-- where it is done, so is pgk_lookup for each pair, and the pair's place holds the number that pgk_lookup answers
pub one_by_one : (table positions found : List ℕ) (r : Answer) (x : List ℕ) → Goes (λ c. LooksMany table positions found c x) answer_of r → r.code ≡ 0
    → (k : ℕ) → k < pairs (length positions) → (s : Answer) → Goes (Looks table (line_of positions k) (col_of positions k)) found_out s
    → (s.code ≡ 0) × (s.number ≡ get_or x k 0)
one_by_one table positions found r x a d k h s b =
    let e = many.one_by_one table positions found a.inner x a.holds (ap (λ (o : Answer). o.code) (sym a.says) ∙ d) k h b.inner b.holds in
    (ap (λ (o : Answer). o.code) b.says ∙ e.0, ap (λ (o : Answer). o.number) b.says ∙ e.1)

-- and the number says what it seems to: 4,294,967,295 that no token fits the position, every other one that it is the best token's index
pub index_or_none : (table positions found : List ℕ) (r : Answer) (x : List ℕ) → Goes (λ c. LooksMany table positions found c x) answer_of r → r.code ≡ 0
    → (k : ℕ) → k < pairs (length positions) → Told table (line_of positions k) (col_of positions k) (get_or x k 0)
index_or_none table positions found r x a d k h =
    many.told table positions found a.inner x a.holds (ap (λ (o : Answer). o.code) (sym a.says) ∙ d) k h

-- the contracts of the two, as the prover reads them from the code, are one: what they ask of a caller, and what they promise
pub one_contract : (plain.Pre ≡ quick.Pre) × (plain.Post ≡ quick.Post)
one_contract = (refl, refl)

-- pgk_lookup_many_quick chooses its way by `sorted`, which says of all tokens, and not of neighbours alone, that none falls; and where
-- one does, which is the first
pub sorted_says : SortedSays
sorted_says = order.sorted_says

-- and it may halve, since in a sorted table the last token at or before a position, if it is on the asked line, is the best, and else none fits
pub halving_law : HalvingLaw
halving_law = halving.halving_law

-- pgk_compare
pub one_compare : (left right out : List ℕ) (r s : ComparedOut) (x y : List ℕ)
    → Goes (λ d. Compares left right out d x) compared_out r → Goes (λ d. Compares left right out d y) compared_out s → (r ≡ s) × (x ≡ y)
one_compare left right out r s x y a b =
    let e = compare.one_answer left right out a.inner b.inner x y a.holds b.holds in
    (a.says ∙ ap compared_out e.0 ∙ sym b.says, e.1)

-- where it is done, both tables are sorted, and the list begins with every difference between them
pub done_lists : DoneLists
done_lists = compare.done_lists

-- every entry is a difference; every difference is there once; the entries rise by position. Of all tables
pub changes_once : (left right : List ℕ) → ChangesOnce left right
changes_once = changes.changes_once

-- there is none exactly where the first six numbers agree throughout
pub empty_is_same : EmptyIsSame
empty_is_same = compare.empty_is_same

-- comparing the other way round gives the mirrored entries
pub other_way : (left right : List ℕ) → OtherWay left right
other_way = mirror.other_way

-- pgk_compose
pub one_compose : (m : Maps) (result added : List ℕ) (r s : ComposedOut) (x y v w : List ℕ)
    → Goes (λ o. Composes m result added o x v) composed_out r → Goes (λ o. Composes m result added o y w) composed_out s → (r ≡ s) × ((x ≡ y) × (v ≡ w))
one_compose m result added r s x y v w a b =
    let e = compose.one_answer m result added a.inner b.inner x v y w a.holds b.holds in
    (a.says ∙ ap composed_out e.0 ∙ sym b.says, e.1)

-- pgk_compose_with: one answer, one result and one added list. What the working memory holds then is left open where it is done; a
-- refusal leaves it as it was, by the contract
pub one_compose_with : (m : Maps) (result added work : List ℕ) (r s : ComposedOut) (x y v w p q : List ℕ)
    → Goes (λ o. ComposesWith m result added work o x v p) composed_out r → Goes (λ o. ComposesWith m result added work o y w q) composed_out s
    → (r ≡ s) × ((x ≡ y) × (v ≡ w))
one_compose_with m result added work r s x y v w p q a b =
    let e = compose.one_answer_with m result added work a.inner b.inner x v p y w q a.holds b.holds in
    (a.says ∙ ap composed_out e.0 ∙ sym b.says, e.1)

-- and with as many places of it as it takes, they are those of pgk_compose
pub with_and_without : (m : Maps) (result added work : List ℕ) → work_for m ≤ length work → (r s : ComposedOut) (x y v w q : List ℕ)
    → Goes (λ o. Composes m result added o x v) composed_out r → Goes (λ o. ComposesWith m result added work o y w q) composed_out s
    → (r ≡ s) × ((x ≡ y) × (v ≡ w))
with_and_without m result added work h r s x y v w q a b =
    let c = compose.with_plain m result added work h b.inner y w q b.holds in
    let e = compose.one_answer m result added a.inner b.inner x v y w a.holds c in
    (a.says ∙ ap composed_out e.0 ∙ sym b.says, e.1)

-- pgk_name_of
pub one_name : (inner outer : NameList) (added : List ℕ) (id : ℕ) (r s : NameOut)
    → r ≡ name_out (place_of inner outer added id) → s ≡ name_out (place_of inner outer added id) → r ≡ s
one_name inner outer added id r s a b = a ∙ sym b

-- pgk_meets_premises
pub one_meets : (table : List ℕ) (sources names r s : ℕ) → Goes (Decides table sources names) flag r → Goes (Decides table sources names) flag s → r ≡ s
one_meets table sources names r s a b =
    a.says ∙ ap flag (premises.one_answer table sources names a.inner b.inner a.holds b.holds) ∙ sym b.says

-- pgk_meets_checked_premises
pub one_meets_checked : (table : List ℕ) (sources names r s : ℕ)
    → Goes (DecidesChecked table sources names) flag r → Goes (DecidesChecked table sources names) flag s → r ≡ s
one_meets_checked table sources names r s a b =
    a.says ∙ ap flag (checked.one_answer table sources names a.inner b.inner a.holds b.holds) ∙ sym b.says

-- pgk_version and pgk_table_size answer by an equation; a table of the size that pgk_table_size answers is never full
pub never_full : NeverFull
never_full = size.never

-- ---- demand 2: checked mode's values are those of ECMA-426, of every run of digits that is read
pub by_the_standard : ByTheStandard
by_the_standard = runs.by_the_standard

-- where the decode that names no mode takes a text, no value and no sum lost a bit: each of the first six numbers of each token is the
-- running sum of the values as whole numbers, by the standard's rule, or the count of `;`, with no remainder taken. The same holds of the
-- tokens that are kept before a refused segment
pub nothing_lost : NothingLost
nothing_lost = exact.nothing_lost

-- and a text has one such reading
pub one_reading : OneReading
one_reading = reading.one_reading

-- ---- demand 3

-- wherever a table is cut, it is written as one call would write it
pub chunks_join : ChunksJoin
chunks_join = round.chunks_join

-- a table that meets the premises, written whole, or in any chunks, and decoded is itself again in the first six numbers of each token,
-- where every segment of the text begins below 4,294,967,295: in lenient mode, and in checked mode exactly where that takes every value
-- that is written; else checked mode refuses it for the first that it does not take
pub write_and_read : WriteAndRead
write_and_read = round.write_and_read

pub cut_and_read : CutAndRead
cut_and_read = round.cut_and_read

-- so where `meets_premises` says yes, what is written surely reads back
pub surely_reads_back : SurelyReadsBack
surely_reads_back = round.surely_reads_back

-- and where `meets_checked_premises` does, it reads back in both modes
pub surely_in_both : SurelyInBoth
surely_in_both = round.surely_in_both

-- a text of at most 4,294,967,295 bytes is early enough
pub short_is_early : ShortIsEarly
short_is_early = round.short_is_early

-- two tables that differ in the first six numbers of a token never make the same text, each cut as it likes, wherever its segments begin
pub one_text : OneText
one_text = round.one_text
