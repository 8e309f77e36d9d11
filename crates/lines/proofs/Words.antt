-- Words put one after the other, byte by byte and with what stands between them. Assumes nothing.
use mathlib.Core.Path.{◌≡◌, refl, sym, ◌∙◌, ap}
use mathlib.Core.List.{List, [], ◌∷◌, ◌++◌, append_assoc}
use Prim.Native.Nat.{ℕ, ◌+◌, ◌≤◌}
use lib.ListN.{length}
use lib.Seq.{drop-drop}
use borrow.Rule.Slice.PartMut.{put_mid}
use Rattle.list.specs.Memory.{blit}
use Rattle.list.specs.Put.{Put}
use Rattle.list.proofs.Put.{Due, due_is, due_none, due_fits, due_put}
use Rattle.lines.specs.Lines.{line}

-- ---- the bytes of a word

-- ys is what the part of n bytes from the place on holds then
pub copied : (out : List ℕ) (at : ℕ) (word : List ℕ) (n : ℕ) (ys : List ℕ) → n ≡ length word → ys ≡ word
    → Put out at word (at + length word) (put_mid at n out ys)
unfolding blit
copied out at word n ys e q = record { past = refl; wrote = rw (q, drop-drop n at out, e) }

-- ---- the words of a line

line_last : (w : List ℕ) → line (w ∷ []) ≡ (w ++ (10 ∷ [])) ++ []
unfolding line
line_last w = sym (append_assoc w (10 ∷ []) [])

line_next : (w v : List ℕ) (ws : List (List ℕ)) → line (w ∷ (v ∷ ws)) ≡ (w ++ (32 ∷ [])) ++ line (v ∷ ws)
unfolding line
line_next w v ws = sym (append_assoc w (32 ∷ []) (line (v ∷ ws)))

-- `whole` is being put, and the line of the words ws is due
module _ (out₀ : List ℕ) (at : ℕ) (whole : List ℕ) where
  -- a word that others follow
  module _ (w v : List ℕ) (ws : List (List ℕ)) (i : ℕ) (out : List ℕ) (d : Due out₀ at whole (line (w ∷ (v ∷ ws))) i out) where
    next : Due out₀ at whole ((w ++ (32 ∷ [])) ++ line (v ∷ ws)) i out
    next = due_is out₀ at whole (line (w ∷ (v ∷ ws))) ((w ++ (32 ∷ [])) ++ line (v ∷ ws)) i out (line_next w v ws) d

    pub word_fits : i + length (w ++ (32 ∷ [])) ≤ length out
    word_fits = due_fits out₀ at whole (w ++ (32 ∷ [])) (line (v ∷ ws)) i out next

    pub word_put : (j : ℕ) (out' : List ℕ) → Put out i (w ++ (32 ∷ [])) j out' → Due out₀ at whole (line (v ∷ ws)) j out'
    word_put j out' p = due_put out₀ at whole (w ++ (32 ∷ [])) (line (v ∷ ws)) i out next j out' p

  -- two words that others follow
  module _ (u w v : List ℕ) (ws : List (List ℕ)) (i : ℕ) (out : List ℕ) (d : Due out₀ at whole (line (u ∷ (w ∷ (v ∷ ws)))) i out) where
    both : Due out₀ at whole (((u ++ (32 ∷ [])) ++ (w ++ (32 ∷ []))) ++ line (v ∷ ws)) i out
    both =
        due_is out₀ at whole (line (u ∷ (w ∷ (v ∷ ws)))) (((u ++ (32 ∷ [])) ++ (w ++ (32 ∷ []))) ++ line (v ∷ ws)) i out
        (line_next u w (v ∷ ws) ∙ ap (λ (l : List ℕ). (u ++ (32 ∷ [])) ++ l) (line_next w v ws) ∙ sym (append_assoc (u ++ (32 ∷ [])) (w ++ (32 ∷ [])) (line (v ∷ ws)))) d

    pub both_fit : i + length ((u ++ (32 ∷ [])) ++ (w ++ (32 ∷ []))) ≤ length out
    both_fit = due_fits out₀ at whole ((u ++ (32 ∷ [])) ++ (w ++ (32 ∷ []))) (line (v ∷ ws)) i out both

    pub both_put : (j : ℕ) (out' : List ℕ) → Put out i ((u ++ (32 ∷ [])) ++ (w ++ (32 ∷ []))) j out' → Due out₀ at whole (line (v ∷ ws)) j out'
    both_put j out' p = due_put out₀ at whole ((u ++ (32 ∷ [])) ++ (w ++ (32 ∷ []))) (line (v ∷ ws)) i out both j out' p

  -- the last word
  module _ (w : List ℕ) (i : ℕ) (out : List ℕ) (d : Due out₀ at whole (line (w ∷ [])) i out) where
    last : Due out₀ at whole ((w ++ (10 ∷ [])) ++ []) i out
    last = due_is out₀ at whole (line (w ∷ [])) ((w ++ (10 ∷ [])) ++ []) i out (line_last w) d

    pub last_fits : i + length (w ++ (10 ∷ [])) ≤ length out
    last_fits = due_fits out₀ at whole (w ++ (10 ∷ [])) [] i out last

    pub last_put : (j : ℕ) (out' : List ℕ) → Put out i (w ++ (10 ∷ [])) j out' → Put out₀ at whole j out'
    last_put j out' p = due_none out₀ at whole [] j out' (due_put out₀ at whole (w ++ (10 ∷ [])) [] i out last j out' p) refl
