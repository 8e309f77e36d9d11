-- Where the fields of a segment lie: no delimiter stands among them. And what stands behind them plays no part. Assumes nothing.
use Rattle.std.specs.Prelude.{Some, None, Ok, Err}
use Rattle.std.proofs.Common.{◌≡◌, ℕ, zero, suc, ◌+◌, ◌-◌, ◌<◌, ◌≤◌, Bool, true, false, eqb, ltb, List, [], ◌∷◌, take, drop, sym, refl, ap, ◌∙◌, subst, add-one, arith}
use Rattle.list.specs.Pick.{pick}
use Rattle.digits.specs.Digits.{digit_of, is_delim}
use Rattle.value.specs.Value.{value_of}
use Rattle.value.specs.declared.Mode.{Mode}
use Rattle.vlq.specs.Vlq.{Digits, cut, long, num, push, digits_from, vlq_from, vlq_of, Vlq}
use Rattle.vlq.proofs.Values.{tail_size}
use Rattle.segment.specs.Segment.{Field, Fields, whole, leftover, overflow, before, field_then, fields_from}
use Rattle.segment.proofs.Border.{Ends, ends, end_delim}
use Rattle.segment.proofs.Places.{Read, read, behind}
use Rattle.vlq.specs.declared.Broken.{Broken}

zero_one : {A : Type 0} → ◌≡◌ {A = ℕ} 0 1 → A
zero_one z = absurd (omega arith)

-- ---- so many bytes, each of them a delimiter, or none
abbrev pub Each : Bool → ℕ → List ℕ → Type 0
Each t zero bs = Unit {0}
Each t (suc k) [] = ⊥
Each t (suc k) (b ∷ bs) = (is_delim b ≡ t) × Each t k bs

abbrev pub Clear : ℕ → List ℕ → Type 0
Clear = Each false

pub fewer_clear : (j k : ℕ) (bs : List ℕ) → j ≤ k → Clear k bs → Clear j bs
fewer_clear zero k bs l h = tt
fewer_clear (suc j) zero bs l h = absurd (omega arith)
fewer_clear (suc j) (suc k) [] l h = h
fewer_clear (suc j) (suc k) (b ∷ bs) l h = (h.0, fewer_clear j k bs (omega arith) h.1)

one_more : (k b : ℕ) (bs : List ℕ) → is_delim b ≡ false → Clear k bs → Clear (k + 1) (b ∷ bs)
one_more k b bs d h = rw (add-one k) (d, h)

-- ---- the digits of a value, whether it broke or not
abbrev reach : Digits → ℕ
reach (cut k) = k
reach (long k) = k
reach (num n len) = len

digits_clear : (left : ℕ) (l : List ℕ) → Clear (reach (digits_from left l)) l
unfolding digits_from
digits_clear left [] = tt
digits_clear left (b ∷ bs) = by (is_delim b) (eqb left 0) (ltb (digit_of b) 32) refl (digits_from (left - 1) bs) (digits_clear (left - 1) bs)
  where
    by : (t u v : Bool) → is_delim b ≡ t → (r : Digits) → Clear (reach r) bs
        → Clear (reach (pick t (cut 0) (pick u (long 0) (pick v (num (digit_of b) 1) (push (digit_of b) r))))) (b ∷ bs)
    by true u v p r ih = tt
    by false true v p r ih = tt
    by false false true p r ih = (p, tt)
    by false false false p (cut k) ih = one_more k b bs p ih
    by false false false p (long k) ih = one_more k b bs p ih
    by false false false p (num n len) ih = one_more len b bs p ih

-- where a value broke
Broke : ℕ → List ℕ → ℕ → Type 0
Broke at l place = (at ≤ place) × Clear (place - at) l

broke_at : (at k : ℕ) (l : List ℕ) → Clear k l → Broke at l (at + k)
unfolding Broke
broke_at at k l h = let n : at + k - at ≡ k = omega arith in (omega arith, rw n h)

Breaks : ℕ → List ℕ → Vlq → Type 0
Breaks at l (Ok None) = Unit {0}
Breaks at l (Ok (Some (bits, lost, next))) = Unit {0}
Breaks at l (Err (Broken.Leftover place)) = Broke at l place
Breaks at l (Err (Broken.Overflow place)) = Broke at l place

breaks : (at b : ℕ) (bs : List ℕ) → Breaks at (b ∷ bs) (vlq_of at (b ∷ bs))
unfolding vlq_of Breaks
breaks at b bs = by (is_delim b) (digits_from 13 (b ∷ bs)) (digits_clear 13 (b ∷ bs))
  where
    by : (t : Bool) (r : Digits) → Clear (reach r) (b ∷ bs) → Breaks at (b ∷ bs) (pick t (Ok None) (vlq_from at r))
    by true r h = tt
    by false (cut k) h = broke_at at k (b ∷ bs) h
    by false (long k) h = broke_at at k (b ∷ bs) h
    by false (num n len) h = tt

read_clear : (at b : ℕ) (bs : List ℕ) (next : ℕ) (r : Read at (b ∷ bs) next) → (is_delim b ≡ false) × Clear (next - (at + 1)) bs
read_clear at b bs next r =
    let z = tail_size (b ∷ bs) 13 r.n r.len r.is in
    let e : r.len ≡ suc (next - (at + 1)) = omega (arith, z.0, r.next_is) in
    subst (λ (k : ℕ). Clear k (b ∷ bs)) (ap reach r.is ∙ e) (digits_clear 13 (b ∷ bs))

-- ---- the fields: each begins, and they end or break, within bytes of which none is a delimiter
abbrev pub Between : ℕ → ℕ → List Field → Type 0
Between at next [] = Unit {0}
Between at next (f ∷ fs) = ((at ≤ f.start) × (f.start ≤ next)) × Between at next fs

abbrev pub Lies : ℕ → List ℕ → Fields → Type 0
Lies at bs (whole fs next) = (at ≤ next) × (Clear (next - at) bs × Between at next fs)
Lies at bs (leftover place) = (at ≤ place) × Clear (place - at) bs
Lies at bs (overflow place) = (at ≤ place) × Clear (place - at) bs

between_later : (at next : ℕ) (fs : List Field) → Between (at + 1) next fs → Between at next fs
between_later at next [] h = tt
between_later at next (f ∷ fs) h = ((omega (arith, h.0.0), h.0.1), between_later at next fs h.1)

clear_later : (at next b : ℕ) (bs : List ℕ) → is_delim b ≡ false → at + 1 ≤ next → Clear (next - (at + 1)) bs → Clear (next - at) (b ∷ bs)
clear_later at next b bs d l h = let n : next - at ≡ suc (next - (at + 1)) = omega arith in rw n (d, h)

later : (at b : ℕ) (bs : List ℕ) (r : Fields) → is_delim b ≡ false → Lies (at + 1) bs r → Lies at (b ∷ bs) r
later at b bs (whole fs next) d h = (omega (arith, h.0), (clear_later at next b bs d h.0 h.1.0, between_later at next fs h.1.1))
later at b bs (leftover place) d h = (omega (arith, h.0), clear_later at place b bs d h.0 h.1)
later at b bs (overflow place) d h = (omega (arith, h.0), clear_later at place b bs d h.0 h.1)

before_lies : (at : ℕ) (bs : List ℕ) (f : Field) (r : Fields) → f.start ≡ at → Lies at bs r → Lies at bs (before f r)
before_lies at bs f (whole fs next) e h = (h.0, (h.1.0, ((omega (arith, e), omega (arith, e, h.0)), h.1.1)))
before_lies at bs f (leftover place) e h = h
before_lies at bs f (overflow place) e h = h

nothing_lies : (at : ℕ) (bs : List ℕ) → Lies at bs (whole [] at)
nothing_lies at bs = let n : at - at ≡ 0 = omega arith in (omega arith, (rw n tt, tt))

pub lies : (mode : Mode) (skip at : ℕ) (bs : List ℕ) → Clear skip bs → Lies at bs (fields_from mode skip at bs)
unfolding fields_from Broke Breaks
lies mode zero at [] h = nothing_lies at []
lies mode (suc skip) at [] h = absurd h
lies mode (suc skip) at (b ∷ bs) h = later at b bs (fields_from mode skip (at + 1) bs) h.0 (lies mode skip (at + 1) bs h.1)
lies mode zero at (b ∷ bs) h = by (vlq_of at (b ∷ bs)) refl (λ next. lies mode (next - (at + 1)) (at + 1) bs)
  where
    by : (r : Vlq) → vlq_of at (b ∷ bs) ≡ r → ((next : ℕ) → Clear (next - (at + 1)) bs → Lies (at + 1) bs (fields_from mode (next - (at + 1)) (at + 1) bs))
        → Lies at (b ∷ bs) (field_then mode at r (λ next. fields_from mode (next - (at + 1)) (at + 1) bs))
    by (Ok None) e ih = nothing_lies at (b ∷ bs)
    by (Ok (Some (bits, lost, next))) e ih =
        let c = read_clear at b bs next (read at b bs bits lost next e) in
        before_lies at (b ∷ bs) (record { value = value_of mode bits lost; start = at }) (fields_from mode (next - (at + 1)) (at + 1) bs) refl
        (later at b bs (fields_from mode (next - (at + 1)) (at + 1) bs) c.0 (ih next c.1))
    by (Err (Broken.Leftover place)) e ih = subst (Breaks at (b ∷ bs)) e (breaks at b bs)
    by (Err (Broken.Overflow place)) e ih = subst (Breaks at (b ∷ bs)) e (breaks at b bs)

-- ---- what stands behind plays no part: the first k bytes alone
digits_take : (left k : ℕ) (l : List ℕ) (n len : ℕ) → digits_from left l ≡ num n len → len ≤ k → digits_from left (take k l) ≡ num n len
unfolding digits_from
digits_take left k [] n len e h = zero_one cc
digits_take left zero (b ∷ bs) n len e h = absurd (omega (arith, (tail_size (b ∷ bs) left n len e).0))
digits_take left (suc k) (b ∷ bs) n len e h = by (is_delim b) (eqb left 0) (ltb (digit_of b) 32) (digits_from (left - 1) bs) (digits_take (left - 1) k bs) e
  where
    by : (t u v : Bool) (r : Digits) → ((n' len' : ℕ) → r ≡ num n' len' → len' ≤ k → digits_from (left - 1) (take k bs) ≡ num n' len')
        → pick t (cut 0) (pick u (long 0) (pick v (num (digit_of b) 1) (push (digit_of b) r))) ≡ num n len
        → pick t (cut 0) (pick u (long 0) (pick v (num (digit_of b) 1) (push (digit_of b) (digits_from (left - 1) (take k bs))))) ≡ num n len
    by true u v r ih w = zero_one cc
    by false true v r ih w = zero_one cc
    by false false true r ih w = w
    by false false false (cut j) ih w = zero_one cc
    by false false false (long j) ih w = zero_one cc
    by false false false (num n' len') ih w = let m : len' + 1 ≡ len = cc in rw (ih n' len' refl (omega (arith, m, h))) w

value_take : (at k b : ℕ) (bs : List ℕ) (bits lost next : ℕ) → vlq_of at (b ∷ bs) ≡ Ok (Some (bits, lost, next)) → next ≤ at + suc k
    → vlq_of at (b ∷ take k bs) ≡ Ok (Some (bits, lost, next))
unfolding vlq_of
value_take at k b bs bits lost next e h =
    let r = read at b bs bits lost next e in
    let q : digits_from 13 (b ∷ take k bs) ≡ num r.n r.len = digits_take 13 (suc k) (b ∷ bs) r.n r.len r.is (omega (arith, r.next_is, h)) in
    ap (λ (d : Digits). pick (is_delim b) (Ok None) (vlq_from at d)) (q ∙ sym r.is) ∙ e

end_take : (at k b : ℕ) (bs : List ℕ) → vlq_of at (b ∷ bs) ≡ Ok None → vlq_of at (b ∷ take k bs) ≡ Ok None
unfolding vlq_of
end_take at k b bs e = rw (end_delim at b bs e)

-- what comes behind a value does not end before it
after_value : (mode : Mode) (at b : ℕ) (bs : List ℕ) (next' : ℕ) → Read at (b ∷ bs) next' → (fs : List Field) (next : ℕ)
    → fields_from mode (next' - (at + 1)) (at + 1) bs ≡ whole fs next → (at < next') × (next' ≤ next)
after_value mode at b bs next' r fs next e =
    let z = tail_size (b ∷ bs) 13 r.n r.len r.is in
    let w : Ends next' (drop r.len (b ∷ bs)) (whole fs next) = subst (Ends next' (drop r.len (b ∷ bs))) (sym (behind mode at b bs next' r) ∙ e) (ends mode 0 next' (drop r.len (b ∷ bs))) in
    (omega (arith, z.0, r.next_is), w.0)

pub fields_take : (mode : Mode) (skip at k : ℕ) (bs : List ℕ) (fs : List Field) (next : ℕ) → fields_from mode skip at bs ≡ whole fs next → next ≤ at + k
    → fields_from mode skip at (take k bs) ≡ whole fs next
unfolding fields_from
fields_take mode zero at zero [] fs next e h = e
fields_take mode zero at (suc k) [] fs next e h = e
fields_take mode (suc skip) at zero [] fs next e h = e
fields_take mode (suc skip) at (suc k) [] fs next e h = e
fields_take mode (suc skip) at zero (b ∷ bs) fs next e h =
    let w : Ends (at + 1) bs (whole fs next) = subst (Ends (at + 1) bs) e (ends mode skip (at + 1) bs) in
    absurd (omega (arith, w.0, h))
fields_take mode (suc skip) at (suc k) (b ∷ bs) fs next e h = fields_take mode skip (at + 1) k bs fs next e (omega arith)
fields_take mode zero at zero (b ∷ bs) fs next e h = by (vlq_of at (b ∷ bs)) refl e
  where
    more : (f : Field) (next' : ℕ) → Read at (b ∷ bs) next' → (t : Fields) → fields_from mode (next' - (at + 1)) (at + 1) bs ≡ t → before f t ≡ whole fs next → whole [] at ≡ whole fs next
    more f next' r (whole gs n) q w = let m : n ≡ next = cc in let a = after_value mode at b bs next' r gs n q in absurd (omega (arith, a.0, a.1, m, h))
    more f next' r (leftover place) q w = zero_one cc
    more f next' r (overflow place) q w = zero_one cc

    by : (r : Vlq) → vlq_of at (b ∷ bs) ≡ r → field_then mode at r (λ next'. fields_from mode (next' - (at + 1)) (at + 1) bs) ≡ whole fs next → whole [] at ≡ whole fs next
    by (Ok None) q w = w
    by (Ok (Some (bits, lost, next'))) q w =
        more (record { value = value_of mode bits lost; start = at }) next' (read at b bs bits lost next' q) (fields_from mode (next' - (at + 1)) (at + 1) bs) refl w
    by (Err (Broken.Leftover place)) q w = zero_one cc
    by (Err (Broken.Overflow place)) q w = zero_one cc
fields_take mode zero at (suc k) (b ∷ bs) fs next e h = by (vlq_of at (b ∷ bs)) refl e (λ next'. fields_take mode (next' - (at + 1)) (at + 1) k bs)
  where
    go : ℕ → Fields
    go next' = fields_from mode (next' - (at + 1)) (at + 1) (take k bs)

    more : (f : Field) (next' : ℕ) → Read at (b ∷ bs) next' → (t : Fields) → fields_from mode (next' - (at + 1)) (at + 1) bs ≡ t → before f t ≡ whole fs next
        → ((gs : List Field) (n : ℕ) → fields_from mode (next' - (at + 1)) (at + 1) bs ≡ whole gs n → n ≤ at + 1 + k → go next' ≡ whole gs n)
        → (next' ≤ at + suc k) × (before f (go next') ≡ whole fs next)
    more f next' r (whole gs n) q w ih =
        let m : n ≡ next = cc in
        let a = after_value mode at b bs next' r gs n q in
        (omega (arith, a.1, m, h), ap (before f) (ih gs n q (omega (arith, m, h))) ∙ w)
    more f next' r (leftover place) q w ih = zero_one cc
    more f next' r (overflow place) q w ih = zero_one cc

    by : (r : Vlq) → vlq_of at (b ∷ bs) ≡ r → field_then mode at r (λ next'. fields_from mode (next' - (at + 1)) (at + 1) bs) ≡ whole fs next
        → ((next' : ℕ) (gs : List Field) (n : ℕ) → fields_from mode (next' - (at + 1)) (at + 1) bs ≡ whole gs n → n ≤ at + 1 + k → go next' ≡ whole gs n)
        → field_then mode at (vlq_of at (b ∷ take k bs)) go ≡ whole fs next
    by (Ok None) q w ih = rw (end_take at k b bs q) w
    by (Ok (Some (bits, lost, next'))) q w ih =
        let v = more (record { value = value_of mode bits lost; start = at }) next' (read at b bs bits lost next' q) (fields_from mode (next' - (at + 1)) (at + 1) bs) refl w (ih next') in
        rw (value_take at k b bs bits lost next' q v.0) v.1
    by (Err (Broken.Leftover place)) q w ih = zero_one cc
    by (Err (Broken.Overflow place)) q w ih = zero_one cc
