-- docs/RULES.md, Demands: where the decode that names no mode takes a text, no value and no sum lost a bit, said; proofs/Exact.antt proves
-- it. Assumes nothing.
use Rattle.std.specs.Prelude.{◌≡◌, List, [], ◌∷◌, ℕ, ◌≤◌, pos, length, take, Ok}
use Rattle.list.specs.Pick.{pick}
use Rattle.digits.specs.Digits.{digit_of, is_delim, char_of}
use Rattle.token.specs.Table.{over}
use Rattle.token.specs.declared.Token.{Token}
use Rattle.value.specs.declared.Mode.{Mode}
use Rattle.decode.specs.declared.Decoded.{Decoded}
use Rattle.decode.specs.Mapping.{by_default, Decodes}
use Rattle.decode.specs.Where.{Begins}
use Rattle.exact.specs.Text.{Text, spell_text, Numbers, numbers, whole_tokens}

-- the text as its digits read: a byte that is no delimiter and none of the sixty-four characters counts as `/`
unfoldable pub as_read : List ℕ → List ℕ
as_read [] = []
as_read (b ∷ bs) = pick (is_delim b) b (char_of (digit_of b)) ∷ as_read bs

-- the numbers of a token, as whole numbers
abbrev pub whole : Token → Numbers
whole t = numbers t.dst_line (pos t.dst_col) (pos t.src_line) (pos t.src_col) (pos t.source_id) (pos t.name_id)

unfoldable pub wholes : List Token → List Numbers
wholes [] = []
wholes (t ∷ ts) = whole t ∷ wholes ts

-- so many tokens in the table, and the text's parts: each number of each token is the running sum of the values
pub record Exact (text table : List ℕ) (count : ℕ) (table' : List ℕ) : Type 0 where
  pub tokens : List Token
  pub counted : count ≡ length tokens
  pub wrote : table' ≡ over tokens table
  pub parts : Text
  pub spelled : as_read text ≡ spell_text parts
  pub sums : wholes tokens ≡ whole_tokens parts

-- the mode that it is said of: that of the decode which names none
abbrev pub mode : Mode
mode = by_default

-- so it is of every text that is taken; and where one is refused, of the tokens that are kept and the text before the refused segment
pub record NothingLost : Type 0 where
  pub taken :
      (sources names : ℕ) (text table : List ℕ) (r : Decoded) (table' : List ℕ) → Decodes mode sources names text table r table'
      → r.end ≡ Ok tt → Exact text table r.tokens table'
  pub kept :
      (sources names : ℕ) (text table : List ℕ) (r : Decoded) (table' : List ℕ) → Decodes mode sources names text table r table'
      → (r.end ≡ Ok tt → ⊥) → (begin : ℕ) × (Begins text begin × ((begin ≤ r.offset) × Exact (take begin text) table r.tokens table'))

-- a text is read in one way: parts that are spelled alike have the same sums
abbrev pub OneReading : Type 0
OneReading = (p q : Text) → spell_text p ≡ spell_text q → whole_tokens p ≡ whole_tokens q
