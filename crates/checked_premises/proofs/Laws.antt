-- One step and the steps of one token, each way in which their test ends, and the loop over the tokens. Assumes nothing.
use mathlib.Core.Path.{◌≡◌, refl, sym, ◌∙◌, ap}
use mathlib.Core.Bool.{Bool, true, false, not}
use mathlib.Core.List.{List, [], ◌∷◌}
use Prim.Native.Nat.{ℕ, ◌+◌, ◌-◌, ◌*◌, ◌/◌, ◌^◌, ◌<◌, ◌≤◌}
use native.Mathlib.Omega.{arith}
use lib.Dec.{ltb}
use Rattle.std.specs.Int.{abs_diff}
use lib.ListN.{length, get_or}
use borrow.Author.Tests.{lt-leb, le-leb, ltb-true, ltb-false, eq-eqb, ne_eqb, not-true, not-false}
use Rattle.list.specs.Pick.{pick, both}
use Rattle.list.proofs.Pick.{both_true}
use Rattle.token.specs.Table.{no_id, is_none, places, bad_table, token_at, tokens_from, tokens_of}
use Rattle.token.specs.declared.Token.{Token}
use Rattle.token.specs.declared.TokenChunk.{TokenChunk}
use Rattle.token.proofs.Laws.{tokens_step, tokens_none}
use Rattle.value.specs.Standard.{too_wide}
use Rattle.value.specs.declared.Mode.TheVariants.{Checked}
use Rattle.vlq_write.specs.Write.{vlq_value}
use Rattle.chunk.specs.Chunk.{chunk_of, fresh, base_of, fields_of, after}
use Rattle.premises.specs.Premises.{follows, follow, decides}
use Rattle.premises.proofs.Laws.{fits_all}
use Rattle.checked_premises.specs.Checked.{takes, takes_each, takes_from, takes_all, decides_checked, DecidesChecked}

-- ---- one step
-- the value n of a step of size d
sized : (d n : ℕ) → n / 2 ≡ d → (b : Bool) → ltb d 2147483648 ≡ b → b ≡ takes Checked n
unfolding takes too_wide
sized d n e true q = rw (e, lt-leb (2 ^ 31) d (ltb-true d 2147483648 q))
sized d n e false q = rw (e, le-leb (2 ^ 31) d (ltb-false d 2147483648 q))

by_way : (t : Bool) (a b : ℕ) → ltb a b ≡ t → (r : Bool) → ltb (abs_diff a b) 2147483648 ≡ r → r ≡ takes Checked (pick t ((b - a) * 2 + 1) ((a - b) * 2))
by_way true a b e r q = let h = ltb-true a b e in sized (abs_diff a b) ((b - a) * 2 + 1) (omega arith) r q
by_way false a b e r q = let h = ltb-false a b e in sized (abs_diff a b) ((a - b) * 2) (omega arith) r q

pub near_is : (a b d : ℕ) → d ≡ abs_diff a b → ltb d 2147483648 ≡ takes Checked (vlq_value a b)
unfolding vlq_value
near_is a b d e = rw e (by_way (ltb a b) a b refl (ltb (abs_diff a b) 2147483648) refl)

-- ---- the steps of one token
-- k to o are what the code finds of the steps to the column, the source, its line, its column and the name
module _ (p : TokenChunk) (t : Token) (base : ℕ) (eb : base ≡ base_of p t) (k : Bool) (ek : k ≡ takes Checked (vlq_value t.dst_col base)) where
  abbrev Each : Bool → Type 0
  Each r = r ≡ takes_each Checked (fields_of p t)

  pub far_column : not k ≡ true → Each false
  unfolding takes_each fields_of
  far_column q = rw (← eb, ← ek, not-true k q)

  module _ (hk : not k ≡ false) where
    pub bare : t.source_id ≡ no_id → Each true
    unfolding takes_each fields_of
    bare e = rw (← eb, ← ek, not-false k hk, eq-eqb t.source_id no_id e)

    module _ (es : t.source_id ≡ no_id → ⊥) (l : Bool) (el : l ≡ takes Checked (vlq_value t.source_id p.prev_source_id)) where
      pub far_source : not l ≡ true → Each false
      unfolding takes_each fields_of
      far_source q = rw (← eb, ← ek, not-false k hk, ne_eqb t.source_id no_id es, ← el, not-true l q)

      module _ (hl : not l ≡ false) (m : Bool) (em : m ≡ takes Checked (vlq_value t.src_line p.prev_src_line)) where
        pub far_src_line : not m ≡ true → Each false
        unfolding takes_each fields_of
        far_src_line q = rw (← eb, ← ek, not-false k hk, ne_eqb t.source_id no_id es, ← el, not-false l hl, ← em, not-true m q)

        module _ (hm : not m ≡ false) (n : Bool) (en : n ≡ takes Checked (vlq_value t.src_col p.prev_src_col)) where
          named : takes_each Checked (fields_of p t)
              ≡ both n (takes_each Checked (pick (is_none t.name_id) [] (vlq_value t.name_id p.prev_name_id ∷ [])))
          unfolding takes_each fields_of
          named = rw (← eb, ← ek, not-false k hk, ne_eqb t.source_id no_id es, ← el, not-false l hl, ← em, not-false m hm, ← en)

          pub far_src_column : not n ≡ true → Each false
          far_src_column q = sym (named ∙ rw (not-true n q))

          module _ (hn : not n ≡ false) where
            pub unnamed : t.name_id ≡ no_id → Each true
            unfolding takes_each
            unnamed e = sym (named ∙ rw (not-false n hn, eq-eqb t.name_id no_id e))

            pub name : (t.name_id ≡ no_id → ⊥) → (o : Bool) → o ≡ takes Checked (vlq_value t.name_id p.prev_name_id) → Each o
            unfolding takes_each
            name e true eo = sym (named ∙ rw (not-false n hn, ne_eqb t.name_id no_id e, ← eo))
            name e false eo = sym (named ∙ rw (not-false n hn, ne_eqb t.name_id no_id e, ← eo))

-- ---- the loop
-- the premises and the one on values, of the tokens after a state
abbrev joint : ℕ → ℕ → TokenChunk → List Token → Bool
joint sources names p ts = both (follow sources names p.prev_dst_line p.prev_src_line p.prev_src_col ts) (takes_from Checked p ts)

-- the tokens before the i-th are passed
pub record Passing (table : List ℕ) (sources names i : ℕ) (p : TokenChunk) : Type 0 where
  pub is : decides_checked table sources names ≡ joint sources names p (tokens_from table i (places (length table) - i))

-- the state of zeros, as its numbers
pub begun_is : (p : TokenChunk)
    → (p.start ≡ 0) × ((p.end ≡ 0) × ((p.prev_dst_line ≡ 0) × ((p.prev_dst_col ≡ 0) × ((p.prev_src_line ≡ 0) × ((p.prev_src_col ≡ 0) × ((p.prev_name_id ≡ 0) × (p.prev_source_id ≡ 0)))))))
    → p ≡ fresh 0 0
begun_is p h =
    let e : chunk_of p.start p.end p.prev_dst_line p.prev_dst_col p.prev_src_line p.prev_src_col p.prev_name_id p.prev_source_id ≡ fresh 0 0 = cc in
    e

neither : (a : Bool) → both a false ≡ false
neither true = refl
neither false = refl

pub refuses : (table : List ℕ) (sources names : ℕ) (r : Bool) → r ≡ bad_table (length table) → r ≡ true → false ≡ decides_checked table sources names
unfolding decides_checked decides
refuses table sources names r e q = rw (← e, q)

pub begin : (table : List ℕ) (sources names : ℕ) (r : Bool) → r ≡ bad_table (length table) → r ≡ false → (p : TokenChunk) → p ≡ fresh 0 0
    → Passing table sources names 0 p
unfolding decides_checked decides
begin table sources names r e q p ep =
    let z : places (length table) ≡ places (length table) - 0 = omega arith in
    record { is = rw (← e, q, ep) (ap (λ (n : ℕ). joint sources names (fresh 0 0) (tokens_from table 0 n)) z) }

module _ (table : List ℕ) (sources names i : ℕ) (p : TokenChunk) (s : Passing table sources names i p) where
  pub ends : (count : ℕ) → count ≡ places (length table) → count ≤ i → true ≡ decides_checked table sources names
  unfolding follow takes_from
  ends count ec h = sym (s.is ∙ rw (tokens_none table i (places (length table)) (omega arith)))

  module _ (count : ℕ) (ec : count ≡ places (length table)) (h : i < count) (t : Token) (et : t ≡ token_at table i)
      (a : Bool) (ea : a ≡ follows sources names p.prev_dst_line p.prev_src_line p.prev_src_col t) where
    abbrev left : List Token
    left = t ∷ tokens_from table (i + 1) (places (length table) - (i + 1))

    step : decides_checked table sources names ≡ joint sources names p left
    step = s.is ∙ ap (joint sources names p) (tokens_step table i (places (length table)) t et (omega arith))

    pub stops : not a ≡ true → false ≡ decides_checked table sources names
    unfolding follow
    stops q = sym (step ∙ rw (← ea, not-true a q))

    module _ (b : Bool) (eb : b ≡ takes_each Checked (fields_of p t)) where
      pub stops_far : not b ≡ true → false ≡ decides_checked table sources names
      unfolding takes_from
      stops_far q = sym (step ∙ rw (← eb, not-true b q) (neither (follow sources names p.prev_dst_line p.prev_src_line p.prev_src_col left)))

      pub goes_on : not a ≡ false → not b ≡ false → (p' : TokenChunk) → p' ≡ after p t → Passing table sources names (i + 1) p'
      unfolding follow takes_from after
      goes_on ka kb p' ep = record { is = step ∙ rw (← ea, not-false a ka, ← eb, not-false b kb, ep) }

-- no, and yes
pub says_no : (table : List ℕ) (sources names : ℕ) → false ≡ decides_checked table sources names → DecidesChecked table sources names false
says_no table sources names e = record { says = e; sound = λ q. (let z : ◌≡◌ {A = ℕ} 0 1 = cc in absurd (omega arith)); taken = λ q. (cc) }

pub says_yes : (table : List ℕ) (sources names : ℕ) → ((i : ℕ) → get_or table i 0 < 2 ^ 32) → true ≡ decides_checked table sources names
    → DecidesChecked table sources names true
unfolding decides_checked
says_yes table sources names h e =
    let yes : (decides table sources names ≡ true) × (takes_all Checked (tokens_of table) ≡ true) = both_true _ _ (sym e) in
    record { says = e; sound = λ q. record { meets = yes.0; fits = fits_all table h }; taken = λ q. yes.1 }
