-- The pass over all tokens, two at a turn: where the cover fits, none of them is too big. And what the tokens that were read say of a
-- list of tokens. Assumes nothing.
use Rattle.std.proofs.Common.{◌≡◌, ℕ, zero, suc, ◌+◌, ◌-◌, ◌<◌, ◌≤◌, Bool, true, false, ltb, List, [], ◌∷◌, length, get_or, sym, refl, ap, ◌∙◌, subst, arith, below_more, ltb-false, ltb-true, Some, None}
use Rattle.token.specs.Table.{token_at, tokens_from}
use Rattle.token.specs.declared.Token.{Token}
use Rattle.translate.specs.Translate.{too_big, first_too_big}
use Rattle.translate.specs.Covers.{cover_fits, Over}
use Rattle.translate.specs.Looks.{AllSmall, FirstBig}
use Rattle.translate.specs.declared.Cover.{Cover}
use Rattle.translate.proofs.Scan.{first_here, first_on, first_none}

module _ (P : ℕ → Token → Type 0) (line source name : ℕ) where
  abbrev pub Small : ℕ → Type 0
  Small j = (t : Token) × (P j t × (too_big line source name t ≡ false))

  -- one more token
  pub more : (i : ℕ) (t : Token) → AllSmall P line source name i → P i t → too_big line source name t ≡ false → AllSmall P line source name (i + 1)
  more i t a p e = below_more Small i a (t, (p, e))

  -- ---- two halves, of which the second begins at `other`: where c fits, the first i tokens of both are small
  module _ (other : ℕ) where
    pub record Laid (c : Cover) (i : ℕ) : Type 0 where
      pub one : cover_fits line source name c ≡ true → (j : ℕ) → j < i → Small j
      pub two : cover_fits line source name c ≡ true → (j : ℕ) → j < i → Small (other + j)

    pub next : (c r : Cover) (i : ℕ) (t u : Token) → Laid c i → P i t → P (other + i) u → Over c t u r → Laid r (i + 1)
    next c r i t u l pt pu o =
        record {
          one = λ e. below_more Small i (l.one (o.kept line source name e)) (t, (pt, o.one line source name e));
          two = λ e. below_more (λ (j : ℕ). Small (other + j)) i (l.two (o.kept line source name e)) (u, (pu, o.two line source name e));
        }

    pub all_small : (c : Cover) (half i all : ℕ) → Laid c i → half ≤ i → other ≤ half → other + half ≡ all → cover_fits line source name c ≡ true
        → AllSmall P line source name all
    all_small c half i all l h o s e j g = by (ltb j half) refl
      where
        by : (b : Bool) → ltb j half ≡ b → Small j
        by true q = l.one e j (omega (arith, ltb-true j half q))
        by false q =
            let z : other + (j - other) ≡ j = omega (arith, ltb-false j half q) in
            subst Small z (l.two e (j - other) (omega (arith, s, ltb-false j half q)))

-- ---- in a list
module _ (line source name : ℕ) (d : Token) where
  pub none_first : (i : ℕ) (ts : List Token) → ((j : ℕ) → j < length ts → too_big line source name (get_or ts j d) ≡ false)
      → first_too_big line source name i ts ≡ None
  none_first i [] h = first_none line source name i
  none_first i (t ∷ ts) h = first_on line source name i t ts (h 0 (omega arith)) ∙ none_first (i + 1) ts (λ j g. h (suc j) (omega arith))

  first_at : (i k n : ℕ) (ts : List Token) → i + k ≡ n → k < length ts → ((j : ℕ) → j < k → too_big line source name (get_or ts j d) ≡ false)
      → too_big line source name (get_or ts k d) ≡ true → first_too_big line source name i ts ≡ Some n
  first_at i k n [] e h s b = absurd (omega arith)
  first_at i zero n (t ∷ ts) e h s b = first_here line source name i t ts b ∙ ap Some (omega (arith, e))
  first_at i (suc k) n (t ∷ ts) e h s b =
      first_on line source name i t ts (s 0 (omega arith)) ∙ first_at (i + 1) k n ts (omega (arith, e)) (omega arith) (λ j g. s (suc j) (omega arith)) b

  -- what is read is what the list holds
  module _ (P : ℕ → Token → Type 0) (ts : List Token) (n : ℕ) (long : length ts ≡ n) (reads : (k : ℕ) (t : Token) → k < n → P k t → t ≡ get_or ts k d) where
    pub listed_none : AllSmall P line source name n → first_too_big line source name 0 ts ≡ None
    listed_none a =
        none_first 0 ts (λ j g. (let h : j < n = omega (arith, long) in ap (too_big line source name) (sym (reads j (a j h).0 h (a j h).1.0)) ∙ (a j h).1.1))

    pub listed_first : (i : ℕ) → FirstBig P line source name n i → first_too_big line source name 0 ts ≡ Some i
    listed_first i f =
        first_at 0 i i ts (omega arith) (omega (arith, long, f.within))
        (λ j g. (let h : j < n = omega (arith, f.within) in
        ap (too_big line source name) (sym (reads j (f.before_it j g).0 h (f.before_it j g).1.0)) ∙ (f.before_it j g).1.1))
        (ap (too_big line source name) (sym (reads i f.token f.within f.read)) ∙ f.big)

-- ---- in a table
pub read_at : (table : List ℕ) (d : Token) (i n j : ℕ) → j < n → get_or (tokens_from table i n) j d ≡ token_at table (i + j)
unfolding tokens_from
read_at table d i zero j h = absurd (omega arith)
read_at table d i (suc n) zero h = let e : i + 0 ≡ i = omega arith in rw e
read_at table d i (suc n) (suc j) h = let e : i + 1 + j ≡ i + suc j = omega arith in read_at table d (i + 1) n j (omega arith) ∙ ap (token_at table) e
