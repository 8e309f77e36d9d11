-- The tokens that a position may lead to, fewer at each step, and what the last of them says. Assumes nothing.
use mathlib.Core.Path.{◌≡◌, refl, sym, ◌∙◌, ap, subst}
use mathlib.Core.Bool.{Bool, true, false}
use mathlib.Core.List.{List}
use Prim.Native.Nat.{ℕ, ◌+◌, ◌*◌, ◌-◌, ◌/◌, ◌<◌, ◌≤◌}
use native.Mathlib.Omega.{arith}
use lib.Dec.{leb, ltb}
use lib.ListN.{length, take, drop, get_or}
use lib.Seq.{get_or-take, get_or-drop}
use borrow.Author.Tests.{leb-true, leb-false, ltb-true, ltb-false}
use Rattle.list.specs.Pick.{pick}
use Rattle.token.specs.Table.{width, places, token_at}
use Rattle.token.specs.declared.Token.{Token}
use Rattle.order.specs.Keys.{key_of, key_at, Rising}
use Rattle.order.specs.Order.{NeverFalls}
use Rattle.order.proofs.Before.{not_before, up_key, before_key}
use Rattle.lookup.specs.Lookup.{Fits, lookup_of}
use Rattle.std.specs.Prelude.{Some, None}
use Rattle.lookup.proofs.Best.{is_best, is_none}
use Rattle.halving.specs.Law.{LastUpTo}
use Rattle.halving.specs.Within.{count_of, Within}
use Rattle.halving.proofs.Law.{halves}

-- a token counted
module _ (a asked : ℕ) where
  pub at_most : (r : ℕ) → r ≡ count_of a asked → r ≤ 1
  unfolding count_of
  at_most r e = by (leb a asked) e
    where
      by : (b : Bool) → r ≡ pick b 1 0 → r ≤ 1
      by true q = omega (arith, q)
      by false q = omega (arith, q)

-- a token counted where there is one
pub few_most : (b : Bool) (a asked r : ℕ) → r ≡ pick b (count_of a asked) 0 → r ≤ 1
few_most true a asked r e = at_most a asked r e
few_most false a asked r e = omega (arith, e)

-- a token by its first two numbers: among the table's, and among those from the token at `base` on
module _ (table : List ℕ) where
  key_is : (i : ℕ) → key_of (get_or table (width * i) 0) (get_or table (width * i + 1) 0) ≡ key_at table i
  unfolding token_at
  key_is i = refl

  pub counts : (i r asked : ℕ) → r ≡ count_of (key_of (get_or table (width * i) 0) (get_or table (width * i + 1) 0)) asked → r ≡ count_of (key_at table i) asked
  counts i r asked q = q ∙ ap (λ (k : ℕ). count_of k asked) (key_is i)

  module _ (base m d n : ℕ) (e : d ≡ width * m) (h : base + m < places (length table)) (all : n ≡ length table - width * base) where
    behind : (k at : ℕ) → k < n → width * base + k ≡ at → get_or (take n (drop (width * base) table)) k 0 ≡ get_or table at 0
    behind k at l q =
        get_or-take n (drop (width * base) table) k 0 l ∙ get_or-drop (width * base) table k 0 ∙ ap (λ (j : ℕ). get_or table j 0) q

    key_behind : key_of (get_or (take n (drop (width * base) table)) d 0) (get_or (take n (drop (width * base) table)) (d + 1) 0) ≡ key_at table (base + m)
    key_behind =
        rw (behind d (width * (base + m)) (omega (arith, all, e)) (omega (arith, e)), behind (d + 1) (width * (base + m) + 1) (omega (arith, all, e)) (omega (arith, e)))
        (key_is (base + m))

    pub counts_behind : (r asked : ℕ) → r ≡ count_of (key_of (get_or (take n (drop (width * base) table)) d 0) (get_or (take n (drop (width * base) table)) (d + 1) 0)) asked
        → r ≡ count_of (key_at table (base + m)) asked
    counts_behind r asked q = q ∙ ap (λ (k : ℕ). count_of k asked) key_behind

module _ (table : List ℕ) (rising : Rising table) (asked : ℕ) where
  -- what a test of a token says
  leads : (i : ℕ) → leb (key_at table i) asked ≡ true → key_at table i ≤ asked
  leads i e = leb-true (key_at table i) asked e

  past : (i : ℕ) → leb (key_at table i) asked ≡ false → asked < key_at table i
  past i e = leb-false (key_at table i) asked e

  -- past a token, every later one is past too
  later : (i j : ℕ) → i ≤ j → j < places (length table) → leb (key_at table i) asked ≡ false → asked < key_at table j
  later i j l h e = let z = past i e in let y = rising i j l h in omega arith

  -- a token before one that is not past is not past either
  never : {A : Type 0} (i j : ℕ) → i ≤ j → j < places (length table) → leb (key_at table i) asked ≡ false → leb (key_at table j) asked ≡ true → A
  never i j l h e f = let z = later i j l h e in let y = leads j f in absurd (omega arith)

  module _ (base size : ℕ) (w : Within table asked base size) where
    pub inside : (k : ℕ) → k < size → base + k < places (length table)
    inside k h = omega (arith, w.ends)

    -- `left` tokens from the one at `at` on
    made : (left at base' : ℕ) → 0 < left → base' ≡ at → at + left ≤ base + size → (0 < at → key_at table at ≤ asked)
        → (at + left < places (length table) → asked < key_at table (at + left)) → Within table asked base' left
    made left at base' one e g f t = rw e (record { some = one; ends = omega (arith, w.ends); from = f; to = t })

    -- up to the end, as before
    to_end : (left at : ℕ) → at + left ≡ base + size → at + left < places (length table) → asked < key_at table (at + left)
    to_end left at e h = subst (λ (m : ℕ). asked < key_at table m) (sym e) (w.to (omega (arith, e)))

    -- halved twice
    module _ (part : ℕ) (one : 0 < part) (four : 4 * part ≤ size) where
      stepped : (a b c : Bool) → leb (key_at table (base + part)) asked ≡ a → leb (key_at table (base + 2 * part)) asked ≡ b
          → leb (key_at table (base + 3 * part)) asked ≡ c → Within table asked (base + part * (pick a 1 0 + pick b 1 0 + pick c 1 0)) (size - 3 * part)
      stepped true true true x y z = made (size - 3 * part) (base + 3 * part) _ (omega arith) (omega arith) (omega arith) (λ _. leads (base + 3 * part) z) (to_end (size - 3 * part) (base + 3 * part) (omega arith))
      stepped true true false x y z =
          made (size - 3 * part) (base + 2 * part) _ (omega arith) (omega arith) (omega arith) (λ _. leads (base + 2 * part) y)
          (λ h. later (base + 3 * part) (base + 2 * part + (size - 3 * part)) (omega arith) h z)
      stepped true false false x y z =
          made (size - 3 * part) (base + part) _ (omega arith) (omega arith) (omega arith) (λ _. leads (base + part) x)
          (λ h. later (base + 2 * part) (base + part + (size - 3 * part)) (omega arith) h y)
      stepped false false false x y z =
          made (size - 3 * part) base _ (omega arith) (omega arith) (omega arith) w.from (λ h. later (base + part) (base + (size - 3 * part)) (omega arith) h x)
      stepped true false true x y z = never (base + 2 * part) (base + 3 * part) (omega arith) (inside (3 * part) (omega arith)) y z
      stepped false true c x y z = never (base + part) (base + 2 * part) (omega arith) (inside (2 * part) (omega arith)) x y
      stepped false false true x y z = never (base + part) (base + 3 * part) (omega arith) (inside (3 * part) (omega arith)) x z

    -- as they are counted
    pub quarter : 4 ≤ size → (r s t : ℕ) → r ≡ count_of (key_at table (base + size / 4)) asked → s ≡ count_of (key_at table (base + 2 * (size / 4))) asked
        → t ≡ count_of (key_at table (base + 3 * (size / 4))) asked → Within table asked (base + size / 4 * (r + s + t)) (size - 3 * (size / 4))
    unfolding count_of
    quarter h r s t er es et =
        rw (er, es, et)
        (stepped (size / 4) (omega arith) (omega arith) (leb (key_at table (base + size / 4)) asked) (leb (key_at table (base + 2 * (size / 4))) asked)
        (leb (key_at table (base + 3 * (size / 4))) asked) refl refl refl)

    -- the last few
    module _ (three : size ≤ 3) where
      past_at : (at next : ℕ) → at + 1 ≡ next → leb (key_at table next) asked ≡ false → at + 1 < places (length table) → asked < key_at table (at + 1)
      past_at at next e n h = subst (λ (m : ℕ). asked < key_at table m) (sym e) (past next n)

      few : (p q a b : Bool) → ltb 1 size ≡ p → ltb 2 size ≡ q → leb (key_at table (base + 1)) asked ≡ a → leb (key_at table (base + 2)) asked ≡ b
          → Within table asked (base + pick p (pick a 1 0) 0 + pick q (pick b 1 0) 0) 1
      few false true a b x y z u = absurd (let h = ltb-true 2 size y in let g = ltb-false 1 size x in omega arith)
      few false false a b x y z u =
          let g = ltb-false 1 size x in
          made 1 base _ (omega arith) (omega arith) (omega (arith, w.some)) w.from (to_end 1 base (omega (arith, w.some)))
      few true false true b x y z u =
          let h = ltb-true 1 size x in
          let g = ltb-false 2 size y in
          made 1 (base + 1) _ (omega arith) (omega arith) (omega arith) (λ _. leads (base + 1) z) (to_end 1 (base + 1) (omega arith))
      few true false false b x y z u =
          let h = ltb-true 1 size x in
          made 1 base _ (omega arith) (omega arith) (omega arith) w.from (past_at base (base + 1) refl z)
      few true true true true x y z u =
          let h = ltb-true 2 size y in
          made 1 (base + 2) _ (omega arith) (omega arith) (omega arith) (λ _. leads (base + 2) u) (to_end 1 (base + 2) (omega arith))
      few true true true false x y z u =
          let h = ltb-true 2 size y in
          made 1 (base + 1) _ (omega arith) (omega arith) (omega arith) (λ _. leads (base + 1) z) (past_at (base + 1) (base + 2) (omega arith) u)
      few true true false true x y z u =
          let h = ltb-true 2 size y in
          never (base + 1) (base + 2) (omega arith) (inside 2 (omega arith)) z u
      few true true false false x y z u =
          let h = ltb-true 2 size y in
          made 1 base _ (omega arith) (omega arith) (omega arith) w.from (past_at base (base + 1) refl z)

      pub few_left : (r s : ℕ) → r ≡ pick (ltb 1 size) (count_of (key_at table (base + 1)) asked) 0 → s ≡ pick (ltb 2 size) (count_of (key_at table (base + 2)) asked) 0
          → Within table asked (base + r + s) 1
      unfolding count_of
      few_left r s er es =
          rw (er, es)
          (few (ltb 1 size) (ltb 2 size) (leb (key_at table (base + 1)) asked) (leb (key_at table (base + 2)) asked) refl refl refl refl)

-- ---- the one that is left
module _ (table : List ℕ) (rising : Rising table) (cols : (j : ℕ) → (token_at table j).dst_col < 4294967296) (line col last : ℕ) (small : col < 4294967296)
    (w : Within table (key_of line col) last 1) where
  never_falls : NeverFalls table (places (length table))
  never_falls i j l h = not_before _ _ _ _ (up_key _ _ _ _ (cols i) (cols j) (rising i j l h))

  all_past : (j : ℕ) → last < j → j < places (length table) → key_of line col < key_at table j
  all_past j l h = let z = w.to (omega arith) in let y = rising (last + 1) j (omega arith) h in omega arith

  is_last : key_at table last ≤ key_of line col → LastUpTo table line col last
  is_last h =
      record {
        within = omega (arith, w.ends);
        up_to = not_before _ _ _ _ (up_key _ _ _ _ (cols last) small h);
        last = λ j l g. before_key _ _ _ _ (cols j) (all_past j l g);
      }

  -- a token that fits is not past the position
  fits_up : (j : ℕ) → Fits table line col j → key_at table j ≤ key_of line col
  fits_up j f = omega (arith, f.on, f.before)

  none_fits : (key_at table last ≤ key_of line col → (token_at table last).dst_line ≡ line → ⊥) → (j : ℕ) → Fits table line col j → ⊥
  none_fits n = by (ltb (key_of line col) (key_at table last)) refl
    where
      by : (b : Bool) → ltb (key_of line col) (key_at table last) ≡ b → (j : ℕ) → Fits table line col j → ⊥
      by false e =
          let h = ltb-false (key_of line col) (key_at table last) e in
          (halves table line col last never_falls (is_last h)).none (n h)
      by true e = λ j f.
          (let h = ltb-true (key_of line col) (key_at table last) e in
          let y = rising last j (first h) f.within in
          let x = fits_up j f in
          omega arith)
        where
          first : {j : ℕ} → key_of line col < key_at table last → last ≤ j
          first h = at_start (ltb 0 last) refl
            where
              at_start : {j : ℕ} (b : Bool) → ltb 0 last ≡ b → last ≤ j
              at_start true q = let z = w.from (ltb-true 0 last q) in absurd (omega arith)
              at_start false q = let z = ltb-false 0 last q in omega arith

  nothing : (key_at table last ≤ key_of line col → (token_at table last).dst_line ≡ line → ⊥) → None ≡ lookup_of table line col
  nothing n = sym (is_none table line col (none_fits n))

  -- t is the token as it was read
  module _ (t : Token) (et : t ≡ token_at table last) where
    line_is : t.dst_line ≡ (token_at table last).dst_line
    line_is = ap (λ (u : Token). u.dst_line) et

    col_is : t.dst_col ≡ (token_at table last).dst_col
    col_is = ap (λ (u : Token). u.dst_col) et

    pub other_line : (t.dst_line ≡ line → ⊥) → None ≡ lookup_of table line col
    other_line ne = nothing (λ _ e. ne (line_is ∙ e))

    pub past_it : col < t.dst_col → None ≡ lookup_of table line col
    past_it h = nothing (λ k e. omega (arith, e, col_is))

    pub found : t.dst_line ≡ line → t.dst_col ≤ col → Some last ≡ lookup_of table line col
    found e h =
        let on : (token_at table last).dst_line ≡ line = sym line_is ∙ e in
        sym (is_best table line col last ((halves table line col last never_falls (is_last (omega (arith, on, col_is)))).best on))
