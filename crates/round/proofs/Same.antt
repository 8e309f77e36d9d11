-- Two lists that meet the premises and make one text agree in the first six numbers, wherever its segments begin: the step tells which
-- token was written. Assumes nothing.
use Rattle.std.specs.Prelude.{Some, Ok}
use mathlib.Core.Path.{◌≡◌, refl, sym, ◌∙◌, ap, ap₂}
use mathlib.Core.Bool.{Bool, true}
use mathlib.Core.List.{List, [], ◌∷◌}
use Prim.Native.Nat.{ℕ, ◌+◌}
use native.Mathlib.Omega.{arith}
use lib.Dec.{eqb}
use lib.ListN.{length, drop}
use lib.Seq.{drop-append_seam}
use Rattle.token.specs.Table.{first_six, SameTokens, flat}
use Rattle.token.specs.declared.Token.{Token}
use Rattle.token.specs.declared.TokenChunk.{TokenChunk}
use Rattle.token.proofs.Same.{bare}
use Rattle.value.specs.declared.Mode.{Mode}
use Rattle.apply.specs.declared.State.{State}
use Rattle.step.specs.Step.{step_from, Step}
use Rattle.chunk.specs.Chunk.{base_of, fields_of, bytes_of, after, written}
use Rattle.premises.specs.Premises.{fits32}
use Rattle.round.proofs.Facts.{Held, held_after, Meets, meets_after}
use Rattle.round.proofs.Run.{fits_after, steps_on}
use Rattle.round.proofs.Round.{takes_each_lenient}

put_same : {a b : Token} {m n : ℕ} {r q : State} → ◌≡◌ {A = Step} (Ok (Some (a, m, r))) (Ok (Some (b, n, q))) → a ≡ b
put_same {a} {b} {m} {n} {r} {q} z =
    let w : ◌≡◌ {A = Token × ℕ × State} (a, m, r) (b, n, q) = cc in ap (λ (x : Token × ℕ × State). x.0) w

same_bytes : (first : Bool) (p : TokenChunk) (t u : Token) → bare t ≡ bare u → bytes_of first p t ≡ bytes_of first p u
unfolding bytes_of fields_of base_of
same_bytes first p t u s = ap (bytes_of first p) s

same_after : (p : TokenChunk) (t u : Token) → bare t ≡ bare u → after p t ≡ after p u
unfolding after
same_after p t u s = ap (after p) s

module _ (sources names : ℕ) where
  same_token : (i : ℕ) (p : TokenChunk) (t u : Token) (ts us : List Token) → Held p → fits32 (flat (t ∷ ts)) ≡ true → fits32 (flat (u ∷ us)) ≡ true
      → Meets sources names p (t ∷ ts) → Meets sources names p (u ∷ us) → written i p (t ∷ ts) ≡ written i p (u ∷ us) → bare t ≡ bare u
  same_token i p t u ts us h f g v w e =
      put_same
      (sym (steps_on Mode.Lenient sources names (written i p (t ∷ ts)) i 0 p t ts h f v (takes_each_lenient (fields_of p t)) refl)
      ∙ steps_on Mode.Lenient sources names (written i p (t ∷ ts)) i 0 p u us h g w (takes_each_lenient (fields_of p u)) e)

  -- a token has bytes
  no_token : {A : Type 0} (i : ℕ) (p : TokenChunk) (t : Token) (ts : List Token) → Held p → fits32 (flat (t ∷ ts)) ≡ true → Meets sources names p (t ∷ ts)
      → [] ≡ written i p (t ∷ ts) → A
  unfolding step_from
  no_token i p t ts h f v e =
      let x = steps_on Mode.Lenient sources names [] i 0 p t ts h f v (takes_each_lenient (fields_of p t)) e in
      let z : ◌≡◌ {A = ℕ} 0 1 = cc in absurd (omega arith)

  pub same_list : (i : ℕ) (p : TokenChunk) (ts us : List Token) → Held p → fits32 (flat ts) ≡ true → fits32 (flat us) ≡ true
      → Meets sources names p ts → Meets sources names p us → written i p ts ≡ written i p us → SameTokens ts us
  unfolding written
  same_list i p [] [] h f g v w e = refl
  same_list i p [] (u ∷ us) h f g v w e = no_token i p u us h g w e
  same_list i p (t ∷ ts) [] h f g v w e = no_token i p t ts h f v (sym e)
  same_list i p (t ∷ ts) (u ∷ us) h f g v w e =
      let s : bare t ≡ bare u = same_token i p t u ts us h f g v w e in
      let (f₁, f₂) = fits_after Mode.Lenient sources names t ts f in
      let b : bytes_of (eqb i 0) p t ≡ bytes_of (eqb i 0) p u = same_bytes (eqb i 0) p t u s in
      let a : after p t ≡ after p u = same_after p t u s in
      let r : written (i + 1) (after p t) ts ≡ written (i + 1) (after p t) us
      = sym (drop-append_seam (bytes_of (eqb i 0) p t) (written (i + 1) (after p t) ts))
      ∙ ap (drop (length (bytes_of (eqb i 0) p t))) e
      ∙ rw (b, a) (drop-append_seam (bytes_of (eqb i 0) p u) (written (i + 1) (after p u) us)) in
      ap₂ (λ (x : List ℕ) (xs : List (List ℕ)). x ∷ xs) (ap first_six s)
      (same_list (i + 1) (after p t) ts us (held_after p t h f₁) f₂ (fits_after Mode.Lenient sources names u us g).1
      (meets_after sources names p t ts v).1 (rw a (meets_after sources names p u us w).1) r)
