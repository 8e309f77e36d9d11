-- Each way in which the test of one token ends, and the loop over the tokens. Assumes nothing.
use mathlib.Core.Path.{◌≡◌, refl, sym, ◌∙◌, ap}
use mathlib.Core.Bool.{Bool, true, false, not}
use mathlib.Core.List.{List, [], ◌∷◌}
use Prim.Native.Nat.{ℕ, suc, ◌+◌, ◌-◌, ◌^◌, ◌<◌, ◌≤◌}
use native.Mathlib.Omega.{arith}
use lib.Dec.{eqb}
use lib.ListN.{length, get_or}
use borrow.Author.Tests.{lt-ltb, eq-eqb, ne_eqb, le-leb, lt-leb, not-true, not-false}
use Rattle.list.specs.Pick.{pick}
use Rattle.token.specs.Table.{no_id, is_none, places, bad_table, token_at, tokens_from}
use Rattle.token.specs.declared.Token.{Token}
use Rattle.token.proofs.Laws.{tokens_step, tokens_none}
use Rattle.premises.specs.declared.Before.{Before}
use Rattle.premises.specs.Before.{before_next}
use Rattle.premises.specs.Premises.{id_within, follows, follow, decides, fits32, Decides}

module _ (sources names line source_line source_col : ℕ) (t : Token) where
  abbrev Follows : Bool → Type 0
  Follows r = r ≡ follows sources names line source_line source_col t

  pub goes_back : t.dst_line < line → Follows false
  unfolding follows
  goes_back h = rw (lt-leb line t.dst_line h)

  -- a and b are what the code finds of the two ids
  module _ (h : line ≤ t.dst_line) (a : Bool) (ea : a ≡ id_within sources t.source_id) where
    pub bad_source : not a ≡ true → Follows false
    unfolding follows
    bad_source q = rw (le-leb line t.dst_line h, ← ea, not-true a q)

    module _ (ka : not a ≡ false) (b : Bool) (eb : b ≡ id_within names t.name_id) where
      pub bad_name : not b ≡ true → Follows false
      unfolding follows
      bad_name q = rw (le-leb line t.dst_line h, ← ea, not-false a ka, ← eb, not-true b q)

      module _ (kb : not b ≡ false) where
        opened : follows sources names line source_line source_col t
            ≡ pick (is_none t.source_id)
            (pick (is_none t.name_id) (pick (eqb t.src_line source_line) (eqb t.src_col source_col) false) false)
            true
        unfolding follows
        opened = rw (le-leb line t.dst_line h, ← ea, not-false a ka, ← eb, not-false b kb)

        pub has_source : (t.source_id ≡ no_id → ⊥) → Follows true
        has_source n = sym (opened ∙ rw (ne_eqb t.source_id no_id n))

        module _ (es : t.source_id ≡ no_id) where
          pub lone_name : (t.name_id ≡ no_id → ⊥) → Follows false
          lone_name n = sym (opened ∙ rw (eq-eqb t.source_id no_id es, ne_eqb t.name_id no_id n))

          module _ (en : t.name_id ≡ no_id) where
            pub other_line : (t.src_line ≡ source_line → ⊥) → Follows false
            other_line n =
                sym (opened ∙ rw (eq-eqb t.source_id no_id es, eq-eqb t.name_id no_id en, ne_eqb t.src_line source_line n))

            pub column : t.src_line ≡ source_line → Follows (eqb t.src_col source_col)
            column el =
                sym (opened ∙ rw (eq-eqb t.source_id no_id es, eq-eqb t.name_id no_id en, eq-eqb t.src_line source_line el))

-- the tokens before the i-th are passed
pub record Passing (table : List ℕ) (sources names i line source_line source_col : ℕ) : Type 0 where
  pub is : decides table sources names ≡ follow sources names line source_line source_col (tokens_from table i (places (length table) - i))

pub refuses : (table : List ℕ) (sources names : ℕ) (r : Bool) → r ≡ bad_table (length table) → r ≡ true → false ≡ decides table sources names
unfolding decides
refuses table sources names r e q = rw (← e, q)

pub begin : (table : List ℕ) (sources names : ℕ) (r : Bool) → r ≡ bad_table (length table) → r ≡ false → Passing table sources names 0 0 0 0
unfolding decides
begin table sources names r e q =
    let z : places (length table) ≡ places (length table) - 0 = omega arith in
    record { is = rw (← e, q) (ap (λ (n : ℕ). follow sources names 0 0 0 (tokens_from table 0 n)) z) }

module _ (table : List ℕ) (sources names i line source_line source_col : ℕ) (p : Passing table sources names i line source_line source_col) where
  pub ends : (count : ℕ) → count ≡ places (length table) → count ≤ i → true ≡ decides table sources names
  unfolding follow
  ends count ec h = sym (p.is ∙ rw (tokens_none table i (places (length table)) (omega arith)))

  module _ (count : ℕ) (ec : count ≡ places (length table)) (h : i < count) (t : Token) (et : t ≡ token_at table i) (r : Bool) (er : r ≡ follows sources names line source_line source_col t) where
    step : decides table sources names
        ≡ follow sources names line source_line source_col (t ∷ tokens_from table (i + 1) (places (length table) - (i + 1)))
    step = p.is ∙ ap (follow sources names line source_line source_col) (tokens_step table i (places (length table)) t et (omega arith))

    pub stops : not r ≡ true → false ≡ decides table sources names
    unfolding follow
    stops q = sym (step ∙ rw (← er, not-true r q))

    -- b is what the next is held to, as the code has it
    pub goes_on : not r ≡ false → (b : Before) → b ≡ before_next (record { line = line; src_line = source_line; src_col = source_col }) t
        → Passing table sources names (i + 1) b.line b.src_line b.src_col
    unfolding follow
    goes_on q b eb = record { is = step ∙ rw (← er, not-false r q, eb) }

-- ---- every number of a lent table is one of 32 bits
pub fits_all : (xs : List ℕ) → ((i : ℕ) → get_or xs i 0 < 2 ^ 32) → fits32 xs ≡ true
unfolding fits32
fits_all [] h = refl
fits_all (x ∷ xs) h = rw (lt-ltb x (2 ^ 32) (h 0)) (fits_all xs (λ i. h (suc i)))

-- no, and yes
pub says_no : (table : List ℕ) (sources names : ℕ) → false ≡ decides table sources names → Decides table sources names false
says_no table sources names e = record { says = e; sound = λ q. (let z : ◌≡◌ {A = ℕ} 0 1 = cc in absurd (omega arith)) }

pub says_yes : (table : List ℕ) (sources names : ℕ) → ((i : ℕ) → get_or table i 0 < 2 ^ 32) → true ≡ decides table sources names → Decides table sources names true
says_yes table sources names h e = record { says = e; sound = λ q. record { meets = sym e; fits = fits_all table h } }
