-- Comparing the other way round gives the mirrored entries. Assumes nothing.
use mathlib.Core.Path.{◌≡◌, refl, sym, ◌∙◌, ap, ap₂, subst}
use mathlib.Core.Bool.{Bool, true, false}
use mathlib.Core.List.{List, [], ◌∷◌, ◌++◌, map}
use Prim.Native.Nat.{ℕ}
use Rattle.list.specs.Pick.{pick}
use Rattle.list.proofs.Same.{same_is, is_same}
use Rattle.token.specs.Table.{first_six, token_at, tokens_of}
use Rattle.token.specs.declared.Token.{Token}
use Rattle.changes.specs.Changes.{Position, positions_of, there, Entry, only_left, only_right, different, agree, held, changes_at, each}
use Rattle.changes.specs.Once.{In, mirrored, OtherWay}
use Rattle.changes.proofs.Positions.{positions_rise, positions_have, positions_only, one_list}
use Rattle.changes.proofs.In.{in_swapped}
use Rattle.changes.proofs.Walk.{none_right, each_alike}

-- ---- the same positions
swapped : (ts us : List Token) (p : Position) → In p (positions_of (ts ++ us)) → In p (positions_of (us ++ ts))
swapped ts us p h =
    let s = positions_only p (ts ++ us) h in
    subst (λ (x : Position). In x (positions_of (us ++ ts))) (sym s.at) (positions_have s.token (us ++ ts) (in_swapped s.token ts us s.within))

one_order : (ts us : List Token) → positions_of (us ++ ts) ≡ positions_of (ts ++ us)
one_order ts us = one_list (positions_of (us ++ ts)) (positions_of (ts ++ us)) (positions_rise (us ++ ts)) (positions_rise (ts ++ us)) (swapped us ts) (swapped ts us)

-- ---- at one position
agree_flip : (t u : Token) → agree u t ≡ agree t u
agree_flip t u = by (agree t u) refl (agree u t) refl
  where
    by : (a : Bool) → agree t u ≡ a → (b : Bool) → agree u t ≡ b → b ≡ a
    by true e true f = refl
    by false e false f = refl
    by true e false f = sym (sym (is_same (first_six u) (first_six t) (sym (same_is (first_six t) (first_six u) e))) ∙ f)
    by false e true f = sym (is_same (first_six t) (first_six u) (sym (same_is (first_six u) (first_six t) f))) ∙ e

map_both : (f g : ℕ → Entry) → ((i : ℕ) → g i ≡ mirrored (f i)) → (xs : List ℕ) → map g xs ≡ map mirrored (map f xs)
map_both f g e [] = refl
map_both f g e (x ∷ xs) = ap₂ (λ (a : Entry) (l : List Entry). a ∷ l) (e x) (map_both f g e xs)

module _ (left right : List ℕ) where
  first_flip : (i j : ℕ) (is js : List ℕ) (b : Bool) → held right left js is ≡ map mirrored (held left right is js)
      → pick b (held right left js is) (different j i ∷ held right left js is) ≡ map mirrored (pick b (held left right is js) (different i j ∷ held left right is js))
  first_flip i j is js true e = e
  first_flip i j is js false e = ap (λ (l : List Entry). different j i ∷ l) e

  held_flip : (is js : List ℕ) → held right left js is ≡ map mirrored (held left right is js)
  unfolding held
  held_flip [] js = none_right right left js ∙ map_both only_right only_left (λ _. refl) js
  held_flip (i ∷ is) [] = map_both only_left only_right (λ _. refl) (i ∷ is)
  held_flip (i ∷ is) (j ∷ js) =
      ap (λ (b : Bool). pick b (held right left js is) (different j i ∷ held right left js is)) (agree_flip (token_at left i) (token_at right j))
      ∙ first_flip i j is js (agree (token_at left i) (token_at right j)) (held_flip is js)

-- ---- all of them
map_append : (a b : List Entry) → map mirrored (a ++ b) ≡ map mirrored a ++ map mirrored b
map_append [] b = refl
map_append (e ∷ a) b = ap (λ (l : List Entry). mirrored e ∷ l) (map_append a b)

each_flip : (f : Position → List Entry) (ps : List Position) → each (λ (p : Position). map mirrored (f p)) ps ≡ map mirrored (each f ps)
unfolding each
each_flip f [] = refl
each_flip f (p ∷ ps) = ap (λ (l : List Entry). map mirrored (f p) ++ l) (each_flip f ps) ∙ sym (map_append (f p) (each f ps))

pub other_way : (left right : List ℕ) → OtherWay left right
other_way left right =
    ap (each (changes_at right left)) (one_order (tokens_of left) (tokens_of right))
    ∙ each_alike (changes_at right left) (λ (p : Position). map mirrored (changes_at left right p)) (positions_of (tokens_of left ++ tokens_of right)) (λ p _. held_flip left right (there left p) (there right p))
    ∙ each_flip (changes_at left right) (positions_of (tokens_of left ++ tokens_of right))
