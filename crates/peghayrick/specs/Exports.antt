-- What the exported entries answer: the answers of the entries behind them, a code as its number and the number with it. Assumes nothing.
use Rattle.std.specs.Prelude.{◌≡◌, Bool, true, false, ℕ, Option, Some, None, Result, Ok, Err}
use Rattle.code.specs.Code.{code_of, number_of, answer_of}
use Rattle.code.specs.declared.Code.{Code}
use Rattle.token.specs.declared.TokenChunk.{TokenChunk}
use Rattle.decode.specs.declared.Decoded.{Decoded}
use Rattle.encode.specs.declared.Encoded.{Encoded}
use Rattle.encode.specs.Encode.{bytes_out, next_out}
use Rattle.names.specs.declared.NamePlace.{NamePlace}
use Rattle.peghayrick.specs.declared.ComparedOut.{ComparedOut}
use Rattle.peghayrick.specs.declared.ComposedOut.{ComposedOut}
use Rattle.peghayrick.specs.declared.NameOut.{NameOut}
use Rattle.peghayrick.specs.declared.DecodedOut.{DecodedOut}
use Rattle.peghayrick.specs.declared.EncodedOut.{EncodedOut}

-- r is what the entry behind answers, in the form in which it goes out
pub record Goes {A B : Type 0} (P : A → Type 0) (form : A → B) (r : B) : Type 0 where
  pub inner : A
  pub holds : P inner
  pub says : r ≡ form inner

-- 0.9.0: major, minor and patch, three figures each
abbrev pub version : ℕ
version = 9000

-- 1 for yes
abbrev pub flag : Bool → ℕ
flag true = 1
flag false = 0

abbrev pub decoded_out : Decoded → DecodedOut
decoded_out d = record { code = (answer_of d.end).code; number = (answer_of d.end).number; tokens = d.tokens; offset = d.offset }

-- a refusal counts no bytes, and gives back the chunk that it was given
abbrev pub encoded_out : TokenChunk → Result Encoded Code → EncodedOut
encoded_out chunk (Ok e) = record { code = 0; number = 0; bytes = bytes_out (Ok e); next = next_out chunk (Ok e) }
encoded_out chunk (Err c) = record { code = code_of c; number = number_of c; bytes = bytes_out (Err c); next = next_out chunk (Err c) }

abbrev pub compared_out : Result ℕ Code → ComparedOut
compared_out (Ok entries) = record { code = 0; number = 0; entries = entries }
compared_out (Err c) = record { code = code_of c; number = number_of c; entries = 0 }

abbrev pub composed_out : Result ℕ Code → ComposedOut
composed_out (Ok added) = record { code = 0; number = 0; added = added }
composed_out (Err c) = record { code = code_of c; number = number_of c; added = 0 }

-- zeros for no name
abbrev pub name_out : Option NamePlace → NameOut
name_out (Some p) = record { found = 1; outer = flag p.outer; start = p.start; end = p.end }
name_out None = record { found = 0; outer = 0; start = 0; end = 0 }
