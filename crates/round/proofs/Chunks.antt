-- The bytes and the end state of a list in pieces, and of a table in successive calls. Assumes nothing.
use Rattle.std.specs.Prelude.{Result, Ok, is_ok}
use mathlib.Core.Path.{◌≡◌, refl, ◌∙◌, ap, ap₂, subst}
use mathlib.Core.Bool.{Bool, true, false}
use mathlib.Core.List.{List, [], ◌∷◌, ◌++◌}
use mathlib.Core.Option.{none, some}
use Prim.Native.Nat.{ℕ, suc, ◌+◌, ◌-◌, ◌≤◌}
use native.Mathlib.Omega.{arith}
use native.Mathlib.Nat.{add-zero}
use lib.Dec.{eqb, ltb}
use lib.ListN.{length, take, drop}
use lib.Seq.{take-append_seam}
use borrow.Author.Tests.{le-ltb}
use Rattle.list.specs.Pick.{pick}
use Rattle.list.specs.Memory.{onto}
use Rattle.code.specs.declared.Code.{Code}
use Rattle.token.specs.Table.{places, bad_table, tokens_from, tokens_of}
use Rattle.token.specs.declared.Token.{Token}
use Rattle.token.specs.declared.TokenChunk.{TokenChunk}
use Rattle.token.proofs.Laws.{length_tokens, tokens_add, tokens_none}
use Rattle.encode.specs.declared.Encoded.{Encoded}
use Rattle.chunk.proofs.Lists.{written_append, end_of_append}
use Rattle.chunk.specs.Chunk.{fresh, with_ends, base_of, fields_of, bytes_of, after, written, end_of, first_back}
use Rattle.encode.specs.Encode.{tokens_in, bytes_in, next_chunk, bytes_out, next_out, encoded, Encodes}
use Rattle.round.specs.Terms.{whole, Call, Called, Cut, joined, last_state, AllDone}
use Rattle.round.proofs.Round.{text_of}

-- ---- lists

some_none : {A : Type 0} (i : ℕ) → some i ≡ none → A
some_none i e = let z : ◌≡◌ {A = ℕ} 0 1 = cc in absurd (omega arith)

-- where no line goes back in the whole, none does in either piece
back_append : (i : ℕ) (p : TokenChunk) (a b : List Token) → first_back i p.prev_dst_line (a ++ b) ≡ none
    → (first_back i p.prev_dst_line a ≡ none) × (first_back (i + length a) (end_of p a).prev_dst_line b ≡ none)
unfolding first_back end_of after
back_append i p [] b e = (refl, rw add-zero e)
back_append i p (t ∷ a) b e = by_line (ltb t.dst_line p.prev_dst_line) e (back_append (i + 1) (after p t) a b)
  where
    by_line : (x : Bool) → pick x (some i) (first_back (i + 1) t.dst_line (a ++ b)) ≡ none
        → (first_back (i + 1) t.dst_line (a ++ b) ≡ none
        → (first_back (i + 1) t.dst_line a ≡ none) × (first_back (i + 1 + length a) (end_of (after p t) a).prev_dst_line b ≡ none))
        → (pick x (some i) (first_back (i + 1) t.dst_line a) ≡ none)
        × (first_back (i + suc (length a)) (end_of (after p t) a).prev_dst_line b ≡ none)
    by_line true q ih = some_none i q
    by_line false q ih =
        let r = ih q in
        let n : i + suc (length a) ≡ i + 1 + length a = omega arith in
        (r.0, rw n r.1)

-- ---- where a chunk starts and ends plays no part in what is written
abbrev pub spanned : ℕ → ℕ → TokenChunk → TokenChunk
spanned start end p = with_ends start end p

after_spanned : (s e : ℕ) (p : TokenChunk) (t : Token) → after (spanned s e p) t ≡ spanned s e (after p t)
unfolding after
after_spanned s e p t = refl

bytes_spanned : (first : Bool) (s e : ℕ) (p : TokenChunk) (t : Token) → bytes_of first (spanned s e p) t ≡ bytes_of first p t
unfolding bytes_of fields_of base_of
bytes_spanned first s e p t = refl

pub written_spanned : (i s e : ℕ) (p : TokenChunk) (ts : List Token) → written i (spanned s e p) ts ≡ written i p ts
unfolding written
written_spanned i s e p [] = refl
written_spanned i s e p (t ∷ ts) =
    ap₂ ◌++◌ (bytes_spanned (eqb i 0) s e p t)
    (ap (λ (q : TokenChunk). written (i + 1) q ts) (after_spanned s e p t) ∙ written_spanned (i + 1) s e (after p t) ts)

pub end_spanned : (s e : ℕ) (p : TokenChunk) (ts : List Token) → end_of (spanned s e p) ts ≡ spanned s e (end_of p ts)
unfolding end_of
end_spanned s e p [] = refl
end_spanned s e p (t ∷ ts) = ap (λ (q : TokenChunk). end_of q ts) (after_spanned s e p t) ∙ end_spanned s e (after p t) ts

-- ---- a call that nothing refuses
pub done_call : (table : List ℕ) (c : TokenChunk) (room : ℕ) → bad_table (length table) ≡ false → c.start ≤ c.end → c.end ≤ places (length table)
    → first_back c.start c.prev_dst_line (tokens_in table c) ≡ none → length (bytes_in table c) ≤ room
    → encoded table c room ≡ Ok (record { bytes = length (bytes_in table c); next = next_chunk c.end (end_of c (tokens_in table c)) })
unfolding encoded
done_call table c room g s e f r =
    rw (g, le-ltb c.end c.start s, le-ltb (places (length table)) c.end e, f, le-ltb room (length (bytes_in table c)) r)

-- ---- the bytes that a call which is done hands over, of those that are lent to it
module _ (table : List ℕ) (c : TokenChunk) (out : List ℕ) (r : Result Encoded Code) (out' : List ℕ) (w : Encodes table c out r out') (next : TokenChunk)
    (e : encoded table c (length out) ≡ Ok (record { bytes = length (bytes_in table c); next = next })) where
  pub handed : take (bytes_out r) out' ≡ bytes_in table c
  unfolding onto
  handed =
      let o : out' ≡ bytes_in table c ++ drop (length (bytes_in table c)) out = rw e at w.wrote in
      rw (w.says ∙ e, o) (take-append_seam (bytes_in table c) (drop (length (bytes_in table c)) out))

-- ---- successive calls
module _ (table : List ℕ) (g : bad_table (length table) ≡ false) where
  -- the tokens from the i-th on
  abbrev rest : ℕ → List Token
  rest i = tokens_from table i (places (length table) - i)

  rest_cut : (i e : ℕ) → i ≤ e → e ≤ places (length table) → rest i ≡ tokens_from table i (e - i) ++ rest e
  rest_cut i e a b =
      let n : places (length table) - i ≡ (e - i) + (places (length table) - e) = omega arith in
      let m : i + (e - i) ≡ e = omega arith in
      ap (tokens_from table i) n ∙ tokens_add table i (e - i) (places (length table) - e) ∙ rw m

  -- what the calls from the i-th token on come to, after the state p
  pub record Joins (i : ℕ) (p : TokenChunk) (ks : List Call) : Type 0 where
    pub done : AllDone ks
    pub bytes : joined ks ≡ written i p (rest i)
    pub last : last_state (next_chunk i p) ks ≡ next_chunk (places (length table)) (end_of p (rest i))

  joins : (ks : List Call) (i : ℕ) (p : TokenChunk) → Cut table (next_chunk i p) ks → first_back i p.prev_dst_line (rest i) ≡ none → Joins i p ks
  unfolding Cut AllDone joined last_state written end_of
  joins [] i p u f =
      let n : i ≡ places (length table) = u in
      let z : rest i ≡ [] = tokens_none table i (places (length table)) (omega arith) in
      record { done = tt; bytes = rw z; last = rw (z, ← n) }
  joins (k ∷ ks) i p u f =
      let m : Called table (next_chunk i p) k = u.0 in
      let a : List Token = tokens_from table i (k.end - i) in
      let q : TokenChunk = spanned i k.end p in
      let c : rest i ≡ a ++ rest k.end = rest_cut i k.end m.order m.within in
      let n : i + length a ≡ k.end = omega (arith, length_tokens table i (k.end - i), m.order) in
      let (f₁, f₂) = back_append i p a (rest k.end) (rw c at f) in
      let e = done_call table q (length k.out) g m.order m.within f₁ m.room in
      let r = m.meets.says ∙ e in
      let x : next_out q k.answer ≡ next_chunk k.end (end_of p a)
      = ap (next_out q) r ∙ ap (next_chunk k.end) (end_spanned i k.end p a) in
      let h : take (bytes_out k.answer) k.out' ≡ written i p a
      = handed table q k.out k.answer k.out' m.meets (next_chunk k.end (end_of q a)) e ∙ written_spanned i i k.end p a in
      let t = joins ks k.end (end_of p a) (subst (λ (z : TokenChunk). Cut table z ks) x u.1) (rw n at f₂) in
      record {
        done = (ap is_ok r, t.done);
        bytes = ap₂ ◌++◌ h t.bytes ∙ rw (c, written_append i p a (rest k.end), n);
        last = rw (x, c, end_of_append p a (rest k.end)) t.last;
      }

  pub joins_whole : (ks : List Call) → first_back 0 0 (tokens_of table) ≡ none → Cut table (fresh 0 0) ks → Joins 0 (fresh 0 0) ks
  joins_whole ks f u =
      let n : places (length table) - 0 ≡ places (length table) = omega arith in
      joins ks 0 (fresh 0 0) u (rw n f)

  pub rest_whole : rest 0 ≡ tokens_of table
  rest_whole = let n : places (length table) - 0 ≡ places (length table) = omega arith in rw n

-- ---- one call over the whole table
module _ (table : List ℕ) where
  whole_tokens : tokens_in table (whole table) ≡ tokens_of table
  whole_tokens = let n : places (length table) - 0 ≡ places (length table) = omega arith in rw n

  pub whole_bytes : bytes_in table (whole table) ≡ text_of (tokens_of table)
  whole_bytes = rw whole_tokens (written_spanned 0 0 (places (length table)) (fresh 0 0) (tokens_of table))

  whole_end : next_chunk (places (length table)) (end_of (whole table) (tokens_in table (whole table))) ≡ next_chunk (places (length table)) (end_of (fresh 0 0) (tokens_of table))
  whole_end = rw whole_tokens (ap (next_chunk (places (length table))) (end_spanned 0 (places (length table)) (fresh 0 0) (tokens_of table)))

  pub whole_call : (room : ℕ) → bad_table (length table) ≡ false → first_back 0 0 (tokens_of table) ≡ none → length (bytes_in table (whole table)) ≤ room
      → encoded table (whole table) room
      ≡ Ok (record {
        bytes = length (bytes_in table (whole table));
        next = next_chunk (places (length table)) (end_of (fresh 0 0) (tokens_of table));
      })
  whole_call room g f r =
      done_call table (whole table) room g (omega arith) (omega arith) (rw whole_tokens f) r
      ∙ ap (λ (c : TokenChunk). Ok (record { bytes = length (bytes_in table (whole table)); next = c })) whole_end
