-- The two searches for a name: their loops, and what their answers say. Assumes nothing.
use mathlib.Core.Path.{◌≡◌, refl, ap, sym, ◌∙◌}
use mathlib.Core.Bool.{Bool, true, false}
use mathlib.Core.List.{List, [], ◌∷◌}
use Rattle.std.specs.Prelude.{None, Some}
use Prim.Native.Nat.{ℕ, zero, suc, ◌+◌, ◌-◌, ◌≤◌, ◌<◌}
use native.Mathlib.Omega.{arith}
use native.Mathlib.Nat.{sub-zero}
use native.Mathlib.Numerals.{add-one}
use lib.Dec.{eqb}
use Rattle.std.specs.Cmp.Lexicographic.{pointwise}
use lib.ListN.{length, drop, get_or}
use lib.Seq.{drop-cons, drop-length}
use Rattle.list.specs.Pick.{pick}
use Rattle.list.specs.Same.{same}
use Rattle.names.specs.Names.{NameList, count, name_at}
use Rattle.list.proofs.Same.{same_is, same_self, equal_same}
use Rattle.name_ids.specs.NameIds.{first_name, first_added}

-- the code tests a part of the text that is the name, by `same_bytes` or by `==`: what the test says of the name
pub told_same : (r t : Bool) (part name other : List ℕ) → r ≡ same part other → part ≡ name → r ≡ t → same name other ≡ t
told_same r t part name other e p f = sym (ap (λ (l : List ℕ). same l other) p) ∙ (sym e ∙ f)

pub told : (r t : Bool) (part name other : List ℕ) → r ≡ pointwise eqb part other → part ≡ name → r ≡ t → same name other ≡ t
told r t part name other e p f = sym (ap (λ (l : List ℕ). same l other) p) ∙ (sym (equal_same part other) ∙ (sym e ∙ f))

-- ---- the names of a list, up to the k-th
pub record Passed (l : NameList) (name : List ℕ) (k : ℕ) : Type 0 where
  pub within : k ≤ count l
  pub is : first_name l name 0 (count l) ≡ first_name l name k (count l - k)

pub start : (l : NameList) (name : List ℕ) → Passed l name 0
start l name = record { within = omega arith; is = rw (sub-zero (count l)) }

module _ (l : NameList) (name : List ℕ) (k : ℕ) (p : Passed l name k) where
  pub found : k < count l → same (name_at l k) name ≡ true → Some k ≡ first_name l name 0 (count l)
  unfolding first_name
  found h e =
      let n : count l - k ≡ suc (count l - (k + 1)) = omega arith in
      rw (p.is, n, e)

  pub goes_on : k < count l → same (name_at l k) name ≡ false → Passed l name (k + 1)
  unfolding first_name
  goes_on h e =
      let n : count l - k ≡ suc (count l - (k + 1)) = omega arith in
      record { within = omega arith; is = p.is ∙ rw (n, e) }

  pub ended : count l ≤ k → None ≡ first_name l name 0 (count l)
  unfolding first_name
  ended h =
      let n : count l - k ≡ 0 = omega arith in
      rw (p.is, n)

-- ---- the added names, up to the j-th
pub record Gone (l : NameList) (name ids : List ℕ) (j : ℕ) : Type 0 where
  pub within : j ≤ length ids
  pub is : first_added l name 0 ids ≡ first_added l name j (drop j ids)

pub begin : (l : NameList) (name ids : List ℕ) → Gone l name ids 0
begin l name ids = record { within = omega arith; is = refl }

module _ (l : NameList) (name ids : List ℕ) (j : ℕ) (p : Gone l name ids j) where
  pub hit : j < length ids → same (name_at l (get_or ids j 0)) name ≡ true → Some j ≡ first_added l name 0 ids
  unfolding first_added
  hit h e = rw (p.is, drop-cons ids j 0 h, e)

  pub moves : j < length ids → same (name_at l (get_or ids j 0)) name ≡ false → Gone l name ids (j + 1)
  unfolding first_added
  moves h e = record { within = omega arith; is = p.is ∙ rw (drop-cons ids j 0 h, e, add-one j) }

  pub missed : length ids ≤ j → None ≡ first_added l name 0 ids
  unfolding first_added
  missed h =
      let e : j ≡ length ids = omega (arith, p.within) in
      rw (p.is, e, drop-length ids)

-- ---- what an answer says
pub record Hit (l : NameList) (name : List ℕ) (k n j : ℕ) : Type 0 where
  pub low : k ≤ j
  pub high : j < k + n
  pub bytes : name_at l j ≡ name

pub name_hit : (l : NameList) (name : List ℕ) (k n j : ℕ) → first_name l name k n ≡ Some j → Hit l name k n j
unfolding first_name
name_hit l name k zero j e = let z : ◌≡◌ {A = ℕ} 0 1 = cc in absurd (omega arith)
name_hit l name k (suc n) j e = go (same (name_at l k) name) refl e (name_hit l name (k + 1) n j)
  where
    go : (t : Bool) → same (name_at l k) name ≡ t → pick t (Some k) (first_name l name (k + 1) n) ≡ Some j
        → (first_name l name (k + 1) n ≡ Some j → Hit l name (k + 1) n j) → Hit l name k (suc n) j
    go true f q ih =
        let x : k ≡ j = cc in
        record { low = omega arith; high = omega arith; bytes = ap (name_at l) (sym x) ∙ same_is (name_at l k) name f }
    go false f q ih =
        let h = ih q in
        record { low = omega (arith, h.low); high = omega (arith, h.high); bytes = h.bytes }

pub name_missed : (l : NameList) (name : List ℕ) (k n : ℕ) → first_name l name k n ≡ None → (j : ℕ) → k ≤ j → j < k + n → name_at l j ≡ name → ⊥
unfolding first_name
name_missed l name k zero e j low high b = omega arith
name_missed l name k (suc n) e j low high b = go (same (name_at l k) name) refl e (name_missed l name (k + 1) n)
  where
    go : (t : Bool) → same (name_at l k) name ≡ t → pick t (Some k) (first_name l name (k + 1) n) ≡ None
        → (first_name l name (k + 1) n ≡ None → (i : ℕ) → k + 1 ≤ i → i < k + 1 + n → name_at l i ≡ name → ⊥) → ⊥
    go true f q ih = let z : ◌≡◌ {A = ℕ} 0 1 = cc in omega arith
    go false f q ih =
        let d : k ≡ j → ⊥ = (λ x. let s : same (name_at l k) name ≡ true = (rw (x, b) (same_self name)) in let z : false ≡ true = sym f ∙ s in let y : ◌≡◌ {A = ℕ} 0 1 = cc in omega arith) in
        ih q j (omega (arith, d)) (omega arith) b

-- the place, counted from j, and the bytes there
pub record AddedHit (l : NameList) (name : List ℕ) (j : ℕ) (ids : List ℕ) (p : ℕ) : Type 0 where
  pub low : j ≤ p
  pub high : p < j + length ids
  pub bytes : name_at l (get_or ids (p - j) 0) ≡ name

pub added_hit : (l : NameList) (name : List ℕ) (j : ℕ) (ids : List ℕ) (p : ℕ) → first_added l name j ids ≡ Some p → AddedHit l name j ids p
unfolding first_added
added_hit l name j [] p e = let z : ◌≡◌ {A = ℕ} 0 1 = cc in absurd (omega arith)
added_hit l name j (id ∷ ids) p e = go (same (name_at l id) name) refl e (added_hit l name (j + 1) ids p)
  where
    go : (t : Bool) → same (name_at l id) name ≡ t → pick t (Some j) (first_added l name (j + 1) ids) ≡ Some p
        → (first_added l name (j + 1) ids ≡ Some p → AddedHit l name (j + 1) ids p) → AddedHit l name j (id ∷ ids) p
    go true f q ih =
        let x : j ≡ p = cc in
        let y : p - j ≡ 0 = omega arith in
        record { low = omega arith; high = omega arith; bytes = rw y (same_is (name_at l id) name f) }
    go false f q ih =
        let h = ih q in
        let y : p - j ≡ suc (p - (j + 1)) = omega (arith, h.low) in
        record { low = omega (arith, h.low); high = omega (arith, h.high); bytes = rw y h.bytes }

pub added_missed : (l : NameList) (name : List ℕ) (j : ℕ) (ids : List ℕ) → first_added l name j ids ≡ None
    → (p : ℕ) → p < length ids → name_at l (get_or ids p 0) ≡ name → ⊥
unfolding first_added
added_missed l name j [] e p h b = omega arith
added_missed l name j (id ∷ ids) e p h b = go (same (name_at l id) name) refl e (added_missed l name (j + 1) ids) p h b
  where
    go : (t : Bool) → same (name_at l id) name ≡ t → pick t (Some j) (first_added l name (j + 1) ids) ≡ None
        → (first_added l name (j + 1) ids ≡ None → (i : ℕ) → i < length ids → name_at l (get_or ids i 0) ≡ name → ⊥)
        → (i : ℕ) → i < suc (length ids) → name_at l (get_or (id ∷ ids) i 0) ≡ name → ⊥
    go true f q ih i k a = let z : ◌≡◌ {A = ℕ} 0 1 = cc in omega arith
    go false f q ih zero k a =
        let s : same (name_at l id) name ≡ true = rw a (same_self name) in
        let z : false ≡ true = sym f ∙ s in
        let y : ◌≡◌ {A = ℕ} 0 1 = cc in
        omega arith
    go false f q ih (suc i) k a = ih q i (omega arith) a
