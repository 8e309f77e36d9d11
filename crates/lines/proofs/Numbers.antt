-- A number or an id, and the byte after it. Assumes nothing.
use mathlib.Core.Path.{◌≡◌, refl, sym, ap}
use mathlib.Core.List.{List, [], ◌∷◌, ◌++◌, append-nil}
use Prim.Native.Nat.{ℕ, ◌+◌, ◌^◌, ◌≤◌, ◌<◌}
use native.Mathlib.Omega.{arith}
use lib.ListN.{length, set}
use borrow.Author.Tests.{eq-eqb, ne_eqb}
use Rattle.list.specs.Put.{Put}
use Rattle.list.proofs.Pick.{pick_ind}
use Rattle.list.proofs.Put.{Due, put_is, due_all, due_is, due_same, due_none, due_fits, due_put, due_byte, due_byte_fits}
use Rattle.token.specs.Table.{is_none, no_id}
use Rattle.decimal.specs.Decimal.{figures_of}
use Rattle.decimal.proofs.Figures.{ten}
use Rattle.lines.specs.Lines.{id_text}
use Rattle.lines.specs.Parts.{spaced}

module _ (out : List ℕ) (at n b : ℕ) (room : at + length (figures_of n ++ (b ∷ [])) ≤ length out) where
  begun : Due out at (figures_of n ++ (b ∷ [])) (figures_of n ++ (b ∷ [])) at out
  begun = due_all out at (figures_of n ++ (b ∷ [])) room

  pub figures_fit : at + length (figures_of n) ≤ length out
  figures_fit = due_fits out at (figures_of n ++ (b ∷ [])) (figures_of n) (b ∷ []) at out begun

  module _ (i : ℕ) (mid : List ℕ) (p : Put out at (figures_of n) i mid) where
    due : Due out at (figures_of n ++ (b ∷ [])) (b ∷ []) i mid
    due = due_put out at (figures_of n ++ (b ∷ [])) (figures_of n) (b ∷ []) at out begun i mid p

    pub figures_same : length mid ≡ length out
    figures_same = due_same out at (figures_of n ++ (b ∷ [])) (b ∷ []) i mid due

    pub after_fits : i < length mid
    after_fits = due_byte_fits out at (figures_of n ++ (b ∷ [])) b [] i mid due

    pub number_put : Put out at (figures_of n ++ (b ∷ [])) (i + 1) (set mid i b)
    number_put = due_none out at (figures_of n ++ (b ∷ [])) [] (i + 1) (set mid i b) (due_byte out at (figures_of n ++ (b ∷ [])) b [] i mid due) refl

-- ---- a position

module _ (out : List ℕ) (at line col : ℕ) (room : at + length (spaced line ++ spaced col) ≤ length out) where
  start : Due out at (spaced line ++ spaced col) (spaced line ++ spaced col) at out
  start = due_all out at (spaced line ++ spaced col) room

  pub line_fits : at + length (spaced line) ≤ length out
  line_fits = due_fits out at (spaced line ++ spaced col) (spaced line) (spaced col) at out start

  module _ (i : ℕ) (mid : List ℕ) (p : Put out at (spaced line) i mid) where
    rest : Due out at (spaced line ++ spaced col) (spaced col ++ []) i mid
    rest =
        due_is out at (spaced line ++ spaced col) (spaced col) (spaced col ++ []) i mid (sym (append-nil (spaced col)))
        (due_put out at (spaced line ++ spaced col) (spaced line) (spaced col) at out start i mid p)

    pub col_fits : i + length (spaced col) ≤ length mid
    col_fits = due_fits out at (spaced line ++ spaced col) (spaced col) [] i mid rest

    pub position_put : (r : ℕ) (out' : List ℕ) → Put mid i (spaced col) r out' → Put out at (spaced line ++ spaced col) r out'
    position_put r out' q = due_none out at (spaced line ++ spaced col) [] r out' (due_put out at (spaced line ++ spaced col) (spaced col) [] i mid rest r out' q) refl

-- ---- an id

none_text : (id : ℕ) → id ≡ no_id → id_text id ≡ 45 ∷ []
unfolding id_text
none_text id e = rw (eq-eqb id no_id e)

some_text : (id : ℕ) → (id ≡ no_id → ⊥) → id_text id ≡ figures_of id
unfolding id_text
some_text id e = rw (ne_eqb id no_id e)

-- an id of 32 bits has at most ten bytes
pub id_ten : (id : ℕ) → id < 2 ^ 32 → length (id_text id) ≤ 10
unfolding id_text
id_ten id h = pick_ind (λ (l : List ℕ). length l ≤ 10) (is_none id) (λ _. omega arith) (λ _. ten id h)

module _ (out : List ℕ) (at id b : ℕ) (room : at + length (id_text id ++ (b ∷ [])) ≤ length out) where
  module _ (e : id ≡ no_id) where
    dash : Due out at (id_text id ++ (b ∷ [])) (45 ∷ (b ∷ [])) at out
    dash =
        due_is out at (id_text id ++ (b ∷ [])) (id_text id ++ (b ∷ [])) (45 ∷ (b ∷ [])) at out (ap (λ (l : List ℕ). l ++ (b ∷ [])) (none_text id e))
        (due_all out at (id_text id ++ (b ∷ [])) room)

    then : Due out at (id_text id ++ (b ∷ [])) (b ∷ []) (at + 1) (set out at 45)
    then = due_byte out at (id_text id ++ (b ∷ [])) 45 (b ∷ []) at out dash

    pub dash_fits : at < length out
    dash_fits = due_byte_fits out at (id_text id ++ (b ∷ [])) 45 (b ∷ []) at out dash

    pub then_fits : at + 1 < length (set out at 45)
    then_fits = due_byte_fits out at (id_text id ++ (b ∷ [])) b [] (at + 1) (set out at 45) then

    pub dash_put : Put out at (id_text id ++ (b ∷ [])) (at + 2) (set (set out at 45) (at + 1) b)
    dash_put =
        let q : at + 1 + 1 ≡ at + 2 = omega arith in
        rw q at (due_none out at (id_text id ++ (b ∷ [])) [] (at + 1 + 1) (set (set out at 45) (at + 1) b) (due_byte out at (id_text id ++ (b ∷ [])) b [] (at + 1) (set out at 45) then) refl)

  module _ (e : id ≡ no_id → ⊥) where
    is : figures_of id ++ (b ∷ []) ≡ id_text id ++ (b ∷ [])
    is = ap (λ (l : List ℕ). l ++ (b ∷ [])) (sym (some_text id e))

    pub id_fits : at + length (figures_of id ++ (b ∷ [])) ≤ length out
    id_fits = rw is room

    pub id_put : (r : ℕ) (out' : List ℕ) → Put out at (figures_of id ++ (b ∷ [])) r out' → Put out at (id_text id ++ (b ∷ [])) r out'
    id_put r out' p = put_is out at (figures_of id ++ (b ∷ [])) (id_text id ++ (b ∷ [])) r out' is p
