-- A chunk's bytes, its end state and the first line that goes back: token by token, and of two lists, one after the other.
-- Assumes nothing.
use mathlib.Core.Path.{◌≡◌, refl, sym, ◌∙◌, ap}
use mathlib.Core.List.{List, [], ◌∷◌, ◌++◌, append_assoc}
use mathlib.Core.Option.{Option, none, some}
use mathlib.Core.Bool.{Bool, true, false}
use Prim.Native.Nat.{ℕ, suc, ◌+◌, ◌-◌, ◌≤◌, ◌<◌}
use native.Mathlib.Omega.{arith}
use native.Mathlib.Nat.{add-zero}
use lib.Dec.{eqb, ltb}
use lib.ListN.{length, length-append}
use borrow.Author.Tests.{lt-ltb, le-ltb}
use Rattle.list.specs.Pick.{pick}
use Rattle.token.specs.Table.{token_at, tokens_from}
use Rattle.token.specs.declared.Token.{Token}
use Rattle.token.specs.declared.TokenChunk.{TokenChunk}
use Rattle.token.proofs.Laws.{tokens_step, tokens_none}
use Rattle.chunk.specs.Chunk.{bytes_of, after, written, end_of, first_back}

-- ---- of two lists, one after the other: the second starts where the first ends
pub written_append : (i : ℕ) (p : TokenChunk) (a b : List Token)
    → written i p (a ++ b) ≡ written i p a ++ written (i + length a) (end_of p a) b
unfolding written end_of
written_append i p [] b = rw add-zero
written_append i p (t ∷ a) b =
    let e : i + 1 + length a ≡ i + suc (length a) = omega arith in
    ap (λ (l : List ℕ). bytes_of (eqb i 0) p t ++ l) (written_append (i + 1) (after p t) a b ∙ rw e)
    ∙ sym (append_assoc (bytes_of (eqb i 0) p t) (written (i + 1) (after p t) a) (written (i + suc (length a)) (end_of (after p t) a) b))

pub length_written : (i : ℕ) (p : TokenChunk) (a b : List Token)
    → length (written i p (a ++ b)) ≡ length (written i p a) + length (written (i + length a) (end_of p a) b)
length_written i p a b = ap length (written_append i p a b) ∙ length-append (written i p a) (written (i + length a) (end_of p a) b)

pub end_of_append : (p : TokenChunk) (a b : List Token) → end_of p (a ++ b) ≡ end_of (end_of p a) b
unfolding end_of
end_of_append p [] b = refl
end_of_append p (t ∷ a) b = end_of_append (after p t) a b

-- a line goes back in the first list, or else where it does in the second
abbrev pub or_else : Option ℕ → Option ℕ → Option ℕ
or_else none o = o
or_else (some i) o = some i

either_back : (t : Bool) (i : ℕ) (o q : Option ℕ) → pick t (some i) (or_else o q) ≡ or_else (pick t (some i) o) q
either_back true i o q = refl
either_back false i o q = refl

pub first_back_append : (i : ℕ) (p : TokenChunk) (a b : List Token)
    → first_back i p.prev_dst_line (a ++ b)
    ≡ or_else (first_back i p.prev_dst_line a) (first_back (i + length a) (end_of p a).prev_dst_line b)
unfolding first_back end_of after
first_back_append i p [] b = rw add-zero
first_back_append i p (t ∷ a) b =
    let e : i + 1 + length a ≡ i + suc (length a) = omega arith in
    let h : first_back (i + 1) t.dst_line (a ++ b)
    ≡ or_else (first_back (i + 1) t.dst_line a) (first_back (i + suc (length a)) (end_of (after p t) a).prev_dst_line b) =
    rw (← e) (first_back_append (i + 1) (after p t) a b) in
    rw h (either_back (ltb t.dst_line p.prev_dst_line) i (first_back (i + 1) t.dst_line a) (first_back (i + suc (length a)) (end_of (after p t) a).prev_dst_line b))

-- ---- of the tokens of a table, from the i-th up to the end
module _ (table : List ℕ) (end : ℕ) where
  abbrev pub left : ℕ → List Token
  left i = tokens_from table i (end - i)

  abbrev pub back : ℕ → ℕ → Option ℕ
  back i line = first_back i line (left i)

  abbrev pub bytes : ℕ → TokenChunk → List ℕ
  bytes i p = written i p (left i)

  module _ (i : ℕ) (t : Token) (et : t ≡ token_at table i) (h : i < end) where
    pub back_here : (line : ℕ) → t.dst_line < line → back i line ≡ some i
    unfolding first_back
    back_here line b = rw (tokens_step table i end t et h) (rw (lt-ltb _ _ b))

    pub back_next : (line : ℕ) → line ≤ t.dst_line → back i line ≡ back (i + 1) t.dst_line
    unfolding first_back
    back_next line b = rw (tokens_step table i end t et h) (rw (le-ltb _ _ b))

    pub bytes_next : (p : TokenChunk) → bytes i p ≡ bytes_of (eqb i 0) p t ++ bytes (i + 1) (after p t)
    unfolding written
    bytes_next p = rw (tokens_step table i end t et h)

    pub length_next : (p : TokenChunk) → length (bytes i p) ≡ length (bytes_of (eqb i 0) p t) + length (bytes (i + 1) (after p t))
    length_next p = ap length (bytes_next p) ∙ length-append (bytes_of (eqb i 0) p t) (bytes (i + 1) (after p t))

    pub end_next : (p : TokenChunk) → end_of p (left i) ≡ end_of (after p t) (left (i + 1))
    unfolding end_of
    end_next p = rw (tokens_step table i end t et h)

  module _ (i : ℕ) (h : end ≤ i) where
    pub back_none : (line : ℕ) → back i line ≡ none
    unfolding first_back
    back_none line = rw (tokens_none table i end h)

    pub bytes_none : (p : TokenChunk) → bytes i p ≡ []
    unfolding written
    bytes_none p = rw (tokens_none table i end h)

    pub end_none : (p : TokenChunk) → end_of p (left i) ≡ p
    unfolding end_of
    end_none p = rw (tokens_none table i end h)
