-- What a caller of the writer knows: the lent bytes keep their length, and the count lies within them. Assumes nothing.
use mathlib.Core.Path.{◌≡◌, refl}
use mathlib.Core.Bool.{Bool, true, false}
use mathlib.Core.List.{List}
use mathlib.Core.Option.{Option, none, some}
use Prim.Native.Nat.{ℕ, ◌≤◌}
use native.Mathlib.Omega.{arith}
use lib.Dec.{ltb}
use lib.ListN.{length}
use borrow.Author.Tests.{ltb-false}
use Rattle.std.specs.Prelude.{Result, Ok, Err}
use Rattle.std.specs.Result.{is_ok}
use Rattle.list.specs.Memory.{onto}
use Rattle.list.specs.Pick.{pick}
use Rattle.list.proofs.Memory.{length_onto}
use Rattle.code.specs.declared.Code.{Code}
use Rattle.token.specs.Table.{bad_table}
use Rattle.token.specs.declared.TokenChunk.{TokenChunk}
use Rattle.chunk.specs.Chunk.{first_back, end_of}
use Rattle.encode.specs.Encode.{tokens_in, bytes_in, bad_chunk, next_chunk, unless_back, encoded, Encodes}
use Rattle.encode.specs.declared.Encoded.{Encoded}

-- an answer and the bytes that go with it
abbrev Fits : List ℕ → List ℕ → Result Encoded Code → Type 0
Fits bs out x = (length (pick (is_ok x) (onto bs out) out) ≡ length out) × ((e : Encoded) → Ok e ≡ x → e.bytes ≤ length out)

not_refused : {e : Encoded} {x : Code} {P : Type 0} → Ok e ≡ Err x → P
not_refused q = cc

module _ (next : TokenChunk) (bs out : List ℕ) where
  by : (b₁ b₂ : Bool) (o : Option ℕ) (b₃ : Bool) → ltb (length out) (length bs) ≡ b₃
      → Fits bs out
      (pick b₁ (Err Code.BadTable)
      (pick b₂ (Err Code.BadChunk)
      (unless_back o (pick b₃ (Err (Code.NoRoom (length bs))) (Ok (record { bytes = length bs; next = next }))))))
  by true b₂ o b₃ e = (refl, λ x q. not_refused q)
  by false true o b₃ e = (refl, λ x q. not_refused q)
  by false false (some i) b₃ e = (refl, λ x q. not_refused q)
  by false false none true e = (refl, λ x q. not_refused q)
  by false false none false e =
      let h : length bs ≤ length out = ltb-false (length out) (length bs) e in
      let there : (x : Encoded) → ◌≡◌ {A = Result Encoded Code} (Ok x) (Ok (record { bytes = length bs; next = next })) → x.bytes ≤ length out =
      λ x q. let n : x.bytes ≡ length bs = cc in omega arith in
      (length_onto bs out h, there)

module _ (table : List ℕ) (c : TokenChunk) (out : List ℕ) where
  fits : Fits (bytes_in table c) out (encoded table c (length out))
  unfolding encoded
  fits =
      by (next_chunk c.end (end_of c (tokens_in table c))) (bytes_in table c) out (bad_table (length table)) (bad_chunk table c)
      (first_back c.start c.prev_dst_line (tokens_in table c)) (ltb (length out) (length (bytes_in table c))) refl

  pub keeps_length : (r : Result Encoded Code) (out' : List ℕ) → Encodes table c out r out' → length out' ≡ length out
  keeps_length r out' e = rw e.wrote fits.0

  pub within : (r : Encoded) (out' : List ℕ) → Encodes table c out (Ok r) out' → r.bytes ≤ length out'
  within r out' e = rw (keeps_length (Ok r) out' e) (fits.1 r e.says)
