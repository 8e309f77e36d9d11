-- The inner token that an outer one leads to, branch by branch. Assumes nothing.
use mathlib.Core.Path.{◌≡◌, sym}
use mathlib.Core.List.{List}
use Prim.Native.Nat.{ℕ, ◌<◌}
use lib.ListN.{length}
use borrow.Author.Tests.{eq-eqb, ne_eqb}
use Rattle.std.specs.Prelude.{Option, Some, None, IfSome}
use Rattle.token.specs.Table.{places, token_at, no_id}
use Rattle.token.specs.declared.Token.{Token}
use Rattle.lookup.specs.Lookup.{lookup_of}
use Rattle.lookup.proofs.Best.{best}
use Rattle.seek.specs.Seek.{Halvable}
use Rattle.compose.specs.Compose.{made_of}
use Rattle.compose.specs.Steps.{Leads}

module _ (table : List ℕ) (t : Token) (place : Option ℕ) (next : IfSome place (Halvable table)) where
  pub no_source : t.source_id ≡ no_id → Leads table t None place
  unfolding made_of
  no_source e = record { made = λ inner outer added. rw (eq-eqb t.source_id no_id e); next = next }

  module _ (s : t.source_id ≡ no_id → ⊥) where
    pub not_found : None ≡ lookup_of table t.src_line t.src_col → Leads table t None place
    unfolding made_of
    not_found e = record { made = λ inner outer added. rw (ne_eqb t.source_id no_id s, ← e); next = next }

    module _ (at : ℕ) (e : Some at ≡ lookup_of table t.src_line t.src_col) where
      pub within : at < places (length table)
      within = (best table t.src_line t.src_col at (sym e)).fits.within

      module _ (o : Token) (eo : o ≡ token_at table at) where
        pub sourceless : o.source_id ≡ no_id → Leads table t None place
        unfolding made_of
        sourceless f = record { made = λ inner outer added. rw (ne_eqb t.source_id no_id s, ← e, ← eo, eq-eqb o.source_id no_id f); next = next }

        pub sourced : (o.source_id ≡ no_id → ⊥) → Leads table t (Some o) place
        unfolding made_of
        sourced n = record { made = λ inner outer added. rw (ne_eqb t.source_id no_id s, ← e, ← eo, ne_eqb o.source_id no_id n); next = next }
