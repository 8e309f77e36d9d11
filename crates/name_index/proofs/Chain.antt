-- An entry more in the index. Assumes nothing.
use mathlib.Core.Path.{◌≡◌, ap, sym, ◌∙◌}
use mathlib.Core.Bool.{Bool}
use mathlib.Core.List.{List}
use Prim.Native.Nat.{ℕ, suc, ◌+◌, ◌≤◌, ◌<◌}
use native.Mathlib.Omega.{arith}
use native.Mathlib.Numerals.{add-one}
use lib.Dec.{eqb}
use lib.ListN.{length, get_or, set, length-set}
use lib.Seq.{get_or-set_same, get_or-set_other}
use borrow.Author.Tests.{eq-eqb, ne_eqb}
use Rattle.name_index.specs.Index.{slot_of, latest_in, Chained}
use Rattle.name_index.proofs.Latest.{up_to, either, latest_here, latest_back, latest_alike}

-- the memory once the entry n is its slot's latest
abbrev pub entered : ℕ → ℕ → ℕ → List ℕ → List ℕ
entered slots slot n work = set (set work (slots + n) (get_or work slot 0)) slot (n + 1)

pub entered_long : (slots slot n : ℕ) (work : List ℕ) → length (entered slots slot n work) ≡ length work
entered_long slots slot n work = simp length-set

-- past the heads and the links nothing changes
pub entered_past : (slots slot n : ℕ) (work : List ℕ) → slot < slots → n < slots → (i : ℕ) → slots + slots ≤ i → get_or (entered slots slot n work) i 0 ≡ get_or work i 0
entered_past slots slot n work h k i l =
    let a : i ≡ slot → ⊥ = λ e. omega arith in
    let b : i ≡ slots + n → ⊥ = λ e. omega arith in
    get_or-set_other (set work (slots + n) (get_or work slot 0)) slot i (n + 1) 0 a ∙ get_or-set_other work (slots + n) i (get_or work slot 0) 0 b

module _ (slots : ℕ) (names : ℕ → List ℕ) (n : ℕ) (work : List ℕ) (c : Chained slots names n work) where
  -- the index goes by the first n names alone
  pub renamed : (names' : ℕ → List ℕ) → ((e : ℕ) → e < n → names e ≡ names' e) → Chained slots names' n work
  renamed names' f =
      record {
        heads = λ slot h. c.heads slot h ∙ alike slot n (omega arith);
        links = λ e h. c.links e h ∙ alike (slot_of slots (names e)) e (omega arith) ∙ ap (λ (l : List ℕ). latest_in slots names' (slot_of slots l) e) (f e h);
      }
    where
      alike : (slot m : ℕ) → m ≤ n → latest_in slots names slot m ≡ latest_in slots names' slot m
      alike slot m h =
          latest_alike (λ (e : ℕ). eqb (slot_of slots (names e)) slot) (λ (e : ℕ). eqb (slot_of slots (names' e)) slot) m
          (λ e l. ap (λ (x : List ℕ). eqb (slot_of slots x) slot) (f e (omega arith)))

  -- a store past the links changes nothing
  pub noted : (i v : ℕ) → n ≤ slots → slots + slots ≤ i → Chained slots names n (set work i v)
  noted i v k l =
      record {
        heads = λ slot h. get_or-set_other work i slot v 0 (λ e. omega arith) ∙ c.heads slot h;
        links = λ e h. get_or-set_other work i (slots + e) v 0 (λ q. omega arith) ∙ c.links e h;
      }

  module _ (slot : ℕ) (h : slot < slots) (k : n < slots) (long : slots + slots ≤ length work) (e : slot ≡ slot_of slots (names n)) where
    abbrev mid : List ℕ
    mid = set work (slots + n) (get_or work slot 0)

    abbrev in_slot : ℕ → ℕ → Bool
    in_slot s i = eqb (slot_of slots (names i)) s

    head : (s : ℕ) → s < slots → get_or (set mid slot (suc n)) s 0 ≡ latest_in slots names s (suc n)
    head s l = either (get_or (set mid slot (suc n)) s 0 ≡ latest_in slots names s (suc n)) s slot mine other
      where
        mine : s ≡ slot → get_or (set mid slot (suc n)) s 0 ≡ latest_in slots names s (suc n)
        mine q =
            rw q
            (get_or-set_same mid slot (suc n) 0 (simp length-set (omega arith))
            ∙ sym (latest_here (in_slot slot) n (eq-eqb (slot_of slots (names n)) slot (sym e))))

        other : (s ≡ slot → ⊥) → get_or (set mid slot (suc n)) s 0 ≡ latest_in slots names s (suc n)
        other q =
            get_or-set_other mid slot s (suc n) 0 q ∙ get_or-set_other work (slots + n) s (get_or work slot 0) 0 (λ x. omega arith)
            ∙ c.heads s l ∙ sym (latest_back (in_slot s) n (ne_eqb (slot_of slots (names n)) s (λ x. q (sym x ∙ sym e))))

    link : (i : ℕ) → i < suc n → get_or (set mid slot (suc n)) (slots + i) 0 ≡ latest_in slots names (slot_of slots (names i)) i
    link =
        up_to (λ (i : ℕ). get_or (set mid slot (suc n)) (slots + i) 0 ≡ latest_in slots names (slot_of slots (names i)) i) n
        (λ i l.
        get_or-set_other mid slot (slots + i) (suc n) 0 (λ x. omega arith)
        ∙ get_or-set_other work (slots + n) (slots + i) (get_or work slot 0) 0 (λ x. omega arith) ∙ c.links i l)
        (get_or-set_other mid slot (slots + n) (suc n) 0 (λ x. omega arith)
        ∙ get_or-set_same work (slots + n) (get_or work slot 0) 0 (omega arith) ∙ c.heads slot h ∙ ap (λ (s : ℕ). latest_in slots names s n) e)

    pub chained : Chained slots names (n + 1) (entered slots slot n work)
    chained = rw (add-one n) (record { heads = head; links = link })
