-- A text has one reading: parts that are spelled alike have the same values, so the same sums. Assumes nothing.
use Rattle.std.specs.Prelude.{Some}
use mathlib.Core.Path.{◌≡◌, refl, sym, ◌∙◌, ap, subst}
use mathlib.Core.Bool.{true}
use mathlib.Core.List.{List, [], ◌∷◌, ◌++◌, append_assoc, append-nil}
use Prim.Native.Nat.{ℕ, ◌<◌, ◌≤◌}
use native.Mathlib.Omega.{arith}
use lib.Dec.{T, leb, ltb}
use lib.IntN.{ℤ}
use borrow.Author.Tests.{ltb-true, leb-true}
use Rattle.list.specs.Pick.{both}
use Rattle.list.proofs.Pick.{both_true}
use Rattle.digits.specs.Digits.{digit_of, is_delim, char_of}
use Rattle.digits.proofs.Tables.{char}
use Rattle.value.specs.Standard.{Run, terminal, goes_on, is_run, unsigned, signed}
use Rattle.vlq.specs.Runs.{spell}
use Rattle.segment.proofs.Border.{Border}
use Rattle.exact.specs.Text.{Value, Segment, nothing, one, four, five, Delimiter, comma, semicolon, character, Part, spell_segment, spell_parts, Numbers, begun, added, delimited, token_of, parts_tokens}
use Rattle.exact.specs.Exact.{OneReading}
use Rattle.exact.proofs.Sums.{other}
use Rattle.exact.proofs.Steps.{is_delimiter}

head_same : (a b : ℕ) (xs ys : List ℕ) → a ∷ xs ≡ b ∷ ys → (a ≡ b) × (xs ≡ ys)
head_same a b xs ys e = (cc, cc)

-- ---- a run
run_digit : (d : ℕ) (r : Run) → is_run (goes_on d r) ≡ true → (32 ≤ d) × ((d < 64) × (is_run r ≡ true))
unfolding is_run
run_digit d r g =
    let a = both_true (leb 32 d) (both (ltb d 64) (is_run r)) g in
    let b = both_true (ltb d 64) (is_run r) a.1 in
    (leb-true 32 d a.0, (ltb-true d 64 b.0, b.1))

last_digit : (d : ℕ) → is_run (terminal d) ≡ true → d < 32
unfolding is_run
last_digit d g = ltb-true d 32 g

same_digit : (d e : ℕ) → d < 64 → e < 64 → char_of d ≡ char_of e → d ≡ e
same_digit d e p q h = sym (char d p).reads ∙ ap digit_of h ∙ (char e q).reads

same_run : (r q : Run) (l m : List ℕ) → is_run r ≡ true → is_run q ≡ true → spell r ++ l ≡ spell q ++ m → (r ≡ q) × (l ≡ m)
unfolding spell
same_run (terminal d) (terminal e) l m g h w =
    let x = head_same (char_of d) (char_of e) l m w in
    (ap terminal (same_digit d e (omega (arith, last_digit d g)) (omega (arith, last_digit e h)) x.0), x.1)
same_run (terminal d) (goes_on e q) l m g h w =
    let x = head_same (char_of d) (char_of e) l (spell q ++ m) w in
    let y = run_digit e q h in
    let z : d ≡ e = same_digit d e (omega (arith, last_digit d g)) y.1.0 x.0 in
    absurd (omega (arith, last_digit d g, y.0, z))
same_run (goes_on d r) (terminal e) l m g h w =
    let x = head_same (char_of d) (char_of e) (spell r ++ l) m w in
    let y = run_digit d r g in
    let z : d ≡ e = same_digit d e y.1.0 (omega (arith, last_digit e h)) x.0 in
    absurd (omega (arith, last_digit e h, y.0, z))
same_run (goes_on d r) (goes_on e q) l m g h w =
    let x = head_same (char_of d) (char_of e) (spell r ++ l) (spell q ++ m) w in
    let y = run_digit d r g in
    let z = run_digit e q h in
    let n : d ≡ e = same_digit d e y.1.0 z.1.0 x.0 in
    let i = same_run r q l m y.1.1 z.1.1 x.1 in
    (rw (n, i.0), i.1)

-- a run begins with no delimiter
no_border : {A : Type 0} (r : Run) (l m : List ℕ) → is_run r ≡ true → Border m → spell r ++ l ≡ m → A
unfolding spell
no_border (terminal d) l [] g h w = other cc
no_border (goes_on d r) l [] g h w = other cc
no_border (terminal d) l (b ∷ m) g h w =
    let x = head_same (char_of d) b l m w in
    absurd (subst T (sym h ∙ ap is_delim (sym x.0) ∙ (char d (omega (arith, last_digit d g))).delim) tt)
no_border (goes_on d r) l (b ∷ m) g h w =
    let x = head_same (char_of d) b (spell r ++ l) m w in
    absurd (subst T (sym h ∙ ap is_delim (sym x.0) ∙ (char d (run_digit d r g).1.0).delim) tt)

-- ---- values in a row, up to a border
abbrev values : Segment → List Value
values nothing = []
values (one a) = a ∷ []
values (four a b c d) = a ∷ b ∷ c ∷ d ∷ []
values (five a b c d e) = a ∷ b ∷ c ∷ d ∷ e ∷ []

abbrev spelled : List Value → List ℕ
spelled [] = []
spelled (v ∷ vs) = spell v.run ++ spelled vs

abbrev numbers_of : List Value → List ℤ
numbers_of [] = []
numbers_of (v ∷ vs) = v.number ∷ numbers_of vs

same_number : (v u : Value) → v.run ≡ u.run → v.number ≡ u.number
same_number v u e = let x : Some v.number ≡ Some u.number = sym v.says ∙ ap (λ (r : Run). signed (unsigned r)) e ∙ u.says in cc

same_values : (vs us : List Value) (l m : List ℕ) → Border l → Border m → spelled vs ++ l ≡ spelled us ++ m → (numbers_of vs ≡ numbers_of us) × (l ≡ m)
same_values [] [] l m p q w = (refl, w)
same_values [] (u ∷ us) l m p q w =
    no_border u.run (spelled us ++ m) l u.digits p (sym (append_assoc (spell u.run) (spelled us) m) ∙ sym w)
same_values (v ∷ vs) [] l m p q w =
    no_border v.run (spelled vs ++ l) m v.digits q (sym (append_assoc (spell v.run) (spelled vs) l) ∙ w)
same_values (v ∷ vs) (u ∷ us) l m p q w =
    let x : spell v.run ++ (spelled vs ++ l) ≡ spell u.run ++ (spelled us ++ m) =
    sym (append_assoc (spell v.run) (spelled vs) l) ∙ w ∙ append_assoc (spell u.run) (spelled us) m in
    let y = same_run v.run u.run (spelled vs ++ l) (spelled us ++ m) v.digits u.digits x in
    let z = same_values vs us l m p q y.1 in
    (rw (same_number v u y.0, z.0), z.1)

in_a_row : (g : Segment) → spell_segment g ≡ spelled (values g)
unfolding spell_segment
in_a_row nothing = refl
in_a_row (one a) = sym (append-nil (spell a.run))
in_a_row (four a b c d) = rw (append-nil (spell d.run))
in_a_row (five a b c d e) = rw (append-nil (spell e.run))

-- the numbers alone tell the sums and the token
abbrev SameSums : Segment → Segment → Type 0
SameSums g h = (w : Numbers) → (added w g ≡ added w h) × (token_of (added w g) g ≡ token_of (added w h) h)

same_sums : (g h : Segment) → numbers_of (values g) ≡ numbers_of (values h) → SameSums g h
unfolding added token_of
same_sums nothing nothing e = λ w. (refl, refl)
same_sums nothing (one a) e = other cc
same_sums nothing (four a b c d) e = other cc
same_sums nothing (five a b c d f) e = other cc
same_sums (one a) nothing e = other cc
same_sums (one a) (one b) e = λ w. (cc, cc)
same_sums (one a) (four a₁ b₁ c₁ d₁) e = other cc
same_sums (one a) (five a₁ b₁ c₁ d₁ f₁) e = other cc
same_sums (four a b c d) nothing e = other cc
same_sums (four a b c d) (one a₁) e = other cc
same_sums (four a b c d) (four a₁ b₁ c₁ d₁) e = λ w. (cc, cc)
same_sums (four a b c d) (five a₁ b₁ c₁ d₁ f₁) e = other cc
same_sums (five a b c d f) nothing e = other cc
same_sums (five a b c d f) (one a₁) e = other cc
same_sums (five a b c d f) (four a₁ b₁ c₁ d₁) e = other cc
same_sums (five a b c d f) (five a₁ b₁ c₁ d₁ f₁) e = λ w. (cc, cc)

-- ---- parts
border : (ps : List Part) → Border (spell_parts ps)
unfolding spell_parts
border [] = tt
border (p ∷ ps) = is_delimiter p.delimiter

same_segment : (g h : Segment) (ps qs : List Part) → spell_segment g ++ spell_parts ps ≡ spell_segment h ++ spell_parts qs → SameSums g h × (spell_parts ps ≡ spell_parts qs)
same_segment g h ps qs w =
    let x = same_values (values g) (values h) (spell_parts ps) (spell_parts qs) (border ps) (border qs) (rw (in_a_row g, in_a_row h) at w) in
    (same_sums g h x.0, x.1)

same_delimiter : (d e : Delimiter) → character d ≡ character e → d ≡ e
same_delimiter comma comma w = refl
same_delimiter comma semicolon w = absurd (omega (arith, w))
same_delimiter semicolon comma w = absurd (omega (arith, w))
same_delimiter semicolon semicolon w = refl

same_parts : (ps qs : List Part) → spell_parts ps ≡ spell_parts qs → (w : Numbers) → parts_tokens w ps ≡ parts_tokens w qs
unfolding spell_parts parts_tokens
same_parts [] [] e w = refl
same_parts [] (q ∷ qs) e w = other cc
same_parts (p ∷ ps) [] e w = other cc
same_parts (p ∷ ps) (q ∷ qs) e w =
    let x = head_same (character p.delimiter) (character q.delimiter) (spell_segment p.segment ++ spell_parts ps) (spell_segment q.segment ++ spell_parts qs) e in
    let y = same_segment p.segment q.segment ps qs x.1 in
    let z = y.0 (delimited w q.delimiter) in
    rw (same_delimiter p.delimiter q.delimiter x.0, z.1, z.0, same_parts ps qs y.1 (added (delimited w q.delimiter) q.segment))

pub one_reading : OneReading
one_reading p q e =
    let y = same_segment p.first q.first p.parts q.parts e in
    let z = y.0 begun in
    rw (z.1, z.0, same_parts p.parts q.parts y.1 (added begun q.first))
