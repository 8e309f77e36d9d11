-- A decode's contract leaves one answer, and one content of the lent table. Assumes nothing.
use mathlib.Core.Path.{◌≡◌, sym, ◌∙◌}
use mathlib.Core.List.{List}
use Prim.Native.Nat.{ℕ}
use Rattle.value.specs.declared.Mode.{Mode}
use Rattle.decode.specs.declared.Decoded.{Decoded}
use Rattle.decode.specs.Mapping.{Decodes}

pub one_decode : (mode : Mode) (sources names : ℕ) (text table : List ℕ) (r r' : Decoded) (t t' : List ℕ)
    → Decodes mode sources names text table r t → Decodes mode sources names text table r' t' → (r ≡ r') × (t ≡ t')
one_decode mode sources names text table r r' t t' a b = (a.says ∙ sym b.says, a.wrote ∙ sym b.wrote)
