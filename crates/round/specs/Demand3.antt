-- docs/RULES.md, demand 3, as statements: a table written in chunks is the table written at once, what is written reads back, and no two
-- tables make one text. Each is proved in proofs/Demand3.antt. Assumes nothing.
use Rattle.std.specs.Prelude.{◌≡◌, Bool, true, false, List, ℕ, ◌≤◌, length, take, Result, is_ok}
use Rattle.std.proofs.Math.Option.{none}
use Rattle.code.specs.declared.Code.{Code}
use Rattle.token.specs.Table.{no_segment, bad_table, tokens_of}
use Rattle.chunk.specs.Chunk.{fresh, first_back}
use Rattle.encode.specs.declared.Encoded.{Encoded}
use Rattle.encode.specs.Encode.{bytes_in, bytes_out, next_out, Encodes}
use Rattle.premises.specs.Premises.{SoundTable, Decides}
use Rattle.checked_premises.specs.Checked.{DecidesChecked}
use Rattle.value.specs.declared.Mode.{Mode}
use Rattle.round.specs.Terms.{SameTable, whole, Call, Cut, joined, last_state, AllDone, Early, Gives, ReadsBack}

-- each call is done, and bytes and end state are those of the one call
pub record AsOne (table : List ℕ) (ks : List Call) (e : Result Encoded Code) (out' : List ℕ) : Type 0 where
  pub done : AllDone ks
  pub bytes : joined ks ≡ take (bytes_out e) out'
  pub next : last_state (fresh 0 0) ks ≡ next_out (whole table) e

-- wherever a table is cut, if no line goes back, it is written as one call with room for it writes it
abbrev pub ChunksJoin : Type 0
ChunksJoin =
    (table : List ℕ) (ks : List Call) (out : List ℕ) (e : Result Encoded Code) (out' : List ℕ) → bad_table (length table) ≡ false → first_back 0 0 (tokens_of table) ≡ none
    → Cut table (fresh 0 0) ks → length (bytes_in table (whole table)) ≤ length out → Encodes table (whole table) out e out'
    → AsOne table ks e out'

-- a table that is written whole reads back, if every segment of the text begins early enough
abbrev pub WriteAndRead : Type 0
WriteAndRead =
    (sources names : ℕ) (xs out : List ℕ) (e : Result Encoded Code) (out' : List ℕ) → SoundTable sources names xs → length (bytes_in xs (whole xs)) ≤ length out
    → Encodes xs (whole xs) out e out' → (is_ok e ≡ true) × (Early (take (bytes_out e) out') → ReadsBack sources names xs (take (bytes_out e) out'))

-- and wherever it is cut
abbrev pub CutAndRead : Type 0
CutAndRead =
    (sources names : ℕ) (xs : List ℕ) (ks : List Call) → SoundTable sources names xs → Cut xs (fresh 0 0) ks
    → AllDone ks × (Early (joined ks) → ReadsBack sources names xs (joined ks))

-- where the test of the premises says yes
abbrev pub SurelyReadsBack : Type 0
SurelyReadsBack =
    (sources names : ℕ) (xs : List ℕ) (r : Bool) (ks : List Call) → Decides xs sources names r → r ≡ true → Cut xs (fresh 0 0) ks
    → AllDone ks × (Early (joined ks) → ReadsBack sources names xs (joined ks))

-- where the test of both premises says yes, in checked mode too
abbrev pub SurelyInBoth : Type 0
SurelyInBoth =
    (sources names : ℕ) (xs : List ℕ) (r : Bool) (ks : List Call) → DecidesChecked xs sources names r → r ≡ true → Cut xs (fresh 0 0) ks
    → AllDone ks × (Early (joined ks) → Gives Mode.Lenient sources names xs (joined ks) × Gives Mode.Checked sources names xs (joined ks))

-- every text of at most 4,294,967,295 bytes is such a text
abbrev pub ShortIsEarly : Type 0
ShortIsEarly = (text : List ℕ) → length text ≤ no_segment → Early text

-- no two tables make one text, wherever its segments begin, each cut as it likes, though each meets the premises with counts of its own
abbrev pub OneText : Type 0
OneText =
    (sources names sources' names' : ℕ) (a b : List ℕ) (ks ls : List Call) → SoundTable sources names a → SoundTable sources' names' b
    → Cut a (fresh 0 0) ks → Cut b (fresh 0 0) ls → joined ks ≡ joined ls → SameTable a b
