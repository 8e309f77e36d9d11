-- Laws of onto and blit. Assumes nothing.
use mathlib.Core.Path.{◌≡◌, refl, ap, ap₂, sym, ◌∙◌}
use mathlib.Core.List.{List, [], ◌∷◌, ◌++◌, append_assoc}
use Prim.Native.Nat.{ℕ, ◌+◌, ◌≤◌, ◌<◌}
use native.Mathlib.Omega.{arith}
use native.Mathlib.Nat.{zero-add, add-zero}
use native.Mathlib.Numerals.{add-one}
use lib.ListN.{length, take, drop, set, replicate, length-append, length-drop, take-append-drop, replicate-append-replicate}
use lib.Seq.{take_at, drop-append-add, drop-drop, set_split, length-take-le}
use Rattle.list.specs.Memory.{onto, blit}

pub onto_nil : (xs : List ℕ) → onto [] xs ≡ xs
unfolding onto
onto_nil xs = refl

pub length_onto : (bs xs : List ℕ) → length bs ≤ length xs → length (onto bs xs) ≡ length xs
unfolding onto
length_onto bs xs h = simp (length-append, length-drop) (omega arith)

pub length_blit : (xs : List ℕ) (at : ℕ) (bs : List ℕ) → at + length bs ≤ length xs → length (blit xs at bs) ≡ length xs
unfolding blit
length_blit xs at bs h = simp (length-append, length-drop, length-take-le at xs (omega arith)) (omega arith)

pub blit_nil : (xs : List ℕ) (at : ℕ) → blit xs at [] ≡ xs
unfolding blit
blit_nil xs at = rw add-zero (take-append-drop at xs)

-- one store
pub blit_set : (xs : List ℕ) (at v : ℕ) → at < length xs → set xs at v ≡ blit xs at (v ∷ [])
unfolding blit
blit_set xs at v h = rw add-one (set_split xs at v h)

-- two runs, one after the other
pub blit_blit : (xs : List ℕ) (at : ℕ) (a b : List ℕ) → at + (length a + length b) ≤ length xs
    → blit (blit xs at a) (at + length a) b ≡ blit xs at (a ++ b)
unfolding blit
blit_blit xs at a b h =
    let t : length (take at xs) ≡ at = length-take-le at xs (omega arith) in
    let q : List ℕ = take at xs ++ a in
    let k : length q ≡ at + length a = length-append (take at xs) a ∙ ap (λ (n : ℕ). n + length a) t in
    let z : at + length a + length b ≡ at + length (a ++ b) = simp length-append (omega arith) in
    let r : List ℕ = drop (at + length a) xs in
    rw (← append_assoc (take at xs) a r)
    (ap₂ (λ (x y : List ℕ). x ++ (b ++ y)) (take_at q r (at + length a) k)
    (ap (λ (n : ℕ). drop (n + length b) (q ++ r)) (sym k) ∙ drop-append-add q r (length b) ∙ drop-drop (length b) (at + length a) xs)
    ∙ append_assoc (take at xs) a (b ++ drop (at + length a + length b) xs)
    ∙ ap (λ (l : List ℕ). take at xs ++ l) (sym (append_assoc a b (drop (at + length a + length b) xs)))
    ∙ ap (λ (n : ℕ). take at xs ++ (a ++ b ++ drop n xs)) z)

onto_blit : (a xs : List ℕ) → onto a xs ≡ blit xs 0 a
unfolding blit onto
onto_blit a xs = rw zero-add

-- a run right after what is there
pub blit_onto : (a b xs : List ℕ) → length a + length b ≤ length xs → blit (onto a xs) (length a) b ≡ onto (a ++ b) xs
blit_onto a b xs h =
    ap₂ (λ (l : List ℕ) (n : ℕ). blit l n b) (onto_blit a xs) (sym (zero-add (length a)))
    ∙ blit_blit xs 0 a b (omega arith)
    ∙ sym (onto_blit (a ++ b) xs)

pub replicate_more : (n v : ℕ) → replicate (n + 1) v ≡ replicate n v ++ (v ∷ [])
replicate_more n v = sym (replicate-append-replicate n 1 v)
