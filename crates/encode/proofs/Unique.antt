-- The entry's contract leaves one answer, and one content of the lent bytes. Assumes nothing.
use mathlib.Core.Path.{◌≡◌, sym, ◌∙◌}
use mathlib.Core.List.{List}
use Prim.Native.Nat.{ℕ}
use Rattle.std.specs.Prelude.{Result}
use Rattle.code.specs.declared.Code.{Code}
use Rattle.token.specs.declared.TokenChunk.{TokenChunk}
use Rattle.encode.specs.Encode.{Encodes}
use Rattle.encode.specs.declared.Encoded.{Encoded}

pub one_answer : (table : List ℕ) (c : TokenChunk) (out : List ℕ) (r s : Result Encoded Code) (x y : List ℕ)
    → Encodes table c out r x → Encodes table c out s y → (r ≡ s) × (x ≡ y)
one_answer table c out r s x y a b = (a.says ∙ sym b.says, a.wrote ∙ sym b.wrote)
