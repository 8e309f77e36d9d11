-- The loop over the outer tokens. Assumes nothing.
use mathlib.Core.Path.{◌≡◌, refl, ap, ap₂, sym, ◌∙◌, subst}
use mathlib.Core.List.{List, [], ◌∷◌, ◌++◌, append_assoc, append-nil}
use Prim.Native.Nat.{ℕ, ◌+◌, ◌-◌, ◌≤◌, ◌<◌}
use native.Mathlib.Omega.{arith}
use native.Mathlib.Nat.{sub-zero}
use lib.ListN.{length, take, drop, length-append}
use lib.Seq.{take_at, drop-append-add, drop-drop}
use Rattle.list.specs.Memory.{onto}
use Rattle.list.proofs.Memory.{onto_nil, length_onto}
use Rattle.list.proofs.Pick.{pick_ind}
use Rattle.std.specs.Prelude.{Option, Some, None, IfSome}
use Rattle.token.specs.Table.{places, token_at, tokens_from, tokens_of, put_token, flat, over, no_id, is_none}
use Rattle.token.specs.declared.Token.{Token}
use Rattle.token.proofs.Laws.{put_over, tokens_step, tokens_none}
use Rattle.seek.specs.Seek.{Halvable}
use Rattle.names.specs.Names.{NameList}
use Rattle.names.proofs.Ends.{few}
use Rattle.name_ids.specs.NameIds.{Named}
use Rattle.name_ids.specs.Answers.{Kept}
use Rattle.name_ids.proofs.Grow.{kept_none, kept_few}
use Rattle.name_ids.proofs.Stays.{gives_none, no_fewer}
use Rattle.compose.specs.declared.Known.{Known}
use Rattle.compose.specs.Compose.{Made, made_of, Composition, ahead, composed_from}
use Rattle.compose.specs.Steps.{made_by, Leads, Askable, Lists, Ready, Written}
use Rattle.compose.proofs.Made.{kept_made}

-- a longer beginning covers a shorter one
onto_onto : (a b xs : List ℕ) → length a ≤ length b → onto b (onto a xs) ≡ onto b xs
unfolding onto
onto_onto a b xs h =
    let n : ℕ = length b - length a in
    let e : length b ≡ length a + n = omega arith in
    ap (λ (l : List ℕ). b ++ l)
    (ap (λ (m : ℕ). drop m (a ++ drop (length a) xs)) e ∙ drop-append-add a (drop (length a) xs) n ∙ drop-drop n (length a) xs ∙ ap (λ (m : ℕ). drop m xs) (sym e))

-- ---- tokens before others
abbrev after : List Token → Composition → Composition
after ts r = record { tokens = ts ++ r.tokens; added = r.added }

after_ahead : (ts : List Token) (t : Token) (r : Composition) → after ts (ahead t r) ≡ after (ts ++ (t ∷ [])) r
after_ahead ts t r = ap (λ (l : List Token). result l) (sym (append_assoc ts (t ∷ []) r.tokens))
  where
    result : List Token → Composition
    result l = record { tokens = l; added = r.added }

-- the first i tokens of the result are made, and these names added
pub record Sofar (inner outer : NameList) (table tokens result₀ added₀ : List ℕ) (result added : List ℕ) (k : Known) (place : Option ℕ) (i : ℕ) : Type 0 where
  pub ts : List Token
  pub ids : List ℕ
  pub made : length ts ≡ i
  pub within : i ≤ places (length tokens)
  pub kept : Kept inner outer ids
  pub wrote : result ≡ over ts result₀
  pub lists : Lists inner outer ids added₀ k added
  pub next : IfSome place (Halvable table)
  pub is : composed_from inner outer table [] (tokens_of tokens)
      ≡ after ts (composed_from inner outer table ids (tokens_from tokens i (places (length tokens) - i)))

-- the names that are listed are the first of the list, as many as are counted
pub listed_are : (inner outer : NameList) (ids added : List ℕ) (k : Known) (added' : List ℕ) → Lists inner outer ids added k added' → take k.count added' ≡ ids
unfolding onto
listed_are inner outer ids added k added' l = ap (take k.count) l.listed ∙ take_at ids (drop (length ids) added) k.count (sym l.knows.counts)

-- no name is taken away
no_fewer_made : (inner outer : NameList) (ids : List ℕ) (t : Token) (o : Option Token) → length ids ≤ length (made_by inner outer ids t o).added
no_fewer_made inner outer ids t None = omega arith
no_fewer_made inner outer ids t (Some o) =
    pick_ind (λ (n : Named). length ids ≤ length n.added) (is_none o.name_id) (λ e. no_fewer inner outer ids t.name_id) (λ e. omega arith)

module _ (inner outer : NameList) (table tokens result₀ added₀ : List ℕ)
    (rd : Ready inner outer table tokens (length result₀) (length added₀)) where
  pub begin : (place : Option ℕ) → IfSome place (Halvable table)
      → Sofar inner outer table tokens result₀ added₀ result₀ added₀ (record { count = 0; last = no_id; given = no_id }) place 0
  unfolding flat
  begin place next =
      record {
        ts = [];
        ids = [];
        made = refl;
        within = omega arith;
        kept = kept_none inner outer;
        wrote = sym (onto_nil result₀);
        lists =
            record {
              knows = record { counts = refl; remembers = gives_none inner outer [] (omega (arith, few outer rd.second)) };
              listed = sym (onto_nil added₀);
            };
        next = next;
        is = rw (sub-zero (places (length tokens)));
      }

  module _ (result added : List ℕ) (k : Known) (place : Option ℕ) (i : ℕ) (s : Sofar inner outer table tokens result₀ added₀ result added k place i) where
    few_ids : length s.ids ≤ length added₀
    few_ids = omega (arith, kept_few inner outer s.ids s.kept, rd.roomy)

    long_added : length added ≡ length added₀
    long_added = ap length s.lists.listed ∙ length_onto s.ids added₀ few_ids

    part_is : take k.count added ≡ s.ids
    part_is = listed_are inner outer s.ids added₀ k added s.lists

    pub askable : Askable inner outer added k
    askable =
        record {
          searchable = record { first = rd.first; second = rd.second; kept = rw part_is s.kept };
          knows = rw part_is s.lists.knows;
          roomy = omega (arith, long_added, rd.roomy);
        }

    pub ended : places (length tokens) ≤ i → Written (composed_from inner outer table [] (tokens_of tokens)) result₀ added₀ k.count result added
    unfolding composed_from
    ended h =
        let e : composed_from inner outer table [] (tokens_of tokens) ≡ record { tokens = s.ts; added = s.ids }
        = s.is ∙ rw (tokens_none tokens i (places (length tokens)) h, append-nil s.ts) in
        record {
          counts = s.lists.knows.counts ∙ ap (λ (r : Composition). length r.added) (sym e);
          wrote = s.wrote ∙ ap (λ (r : Composition). over r.tokens result₀) (sym e);
          listed = s.lists.listed ∙ ap (λ (r : Composition). onto r.added added₀) (sym e);
        }

    module _ (t : Token) (o : Option Token) (place' : Option ℕ) (l : Leads table t o place') (k' : Known) (added' : List ℕ)
        (q : Lists inner outer (made_by inner outer (take k.count added) t o).added added k' added') where
      next : Made
      next = made_of inner outer table s.ids t

      next_is : made_by inner outer (take k.count added) t o ≡ next
      unfolding next
      next_is = ap (λ (ids : List ℕ). made_by inner outer ids t o) part_is ∙ l.made inner outer s.ids

      no_fewer_ids : length s.ids ≤ length next.added
      unfolding next
      no_fewer_ids = subst (λ (m : Made). length s.ids ≤ length m.added) (l.made inner outer s.ids) (no_fewer_made inner outer s.ids t o)

      lists_next : Lists inner outer next.added added k' added'
      lists_next = rw next_is at q

      kept_next : Kept inner outer next.added
      unfolding next
      kept_next = kept_made inner outer table s.ids t s.kept

      pub turn : t ≡ token_at tokens i → i < places (length tokens) → (result' : List ℕ) (u : Token)
          → u ≡ (made_by inner outer (take k.count added) t o).token → result' ≡ put_token result i u
          → Sofar inner outer table tokens result₀ added₀ result' added' k' place' (i + 1)
      unfolding next composed_from
      turn et g result' u eu ep =
          record {
            ts = s.ts ++ (u ∷ []);
            ids = next.added;
            made = length-append s.ts (u ∷ []) ∙ omega (arith, s.made);
            within = omega arith;
            kept = kept_next;
            wrote =
                ep
                ∙ ap₂ (λ (l : List ℕ) (n : ℕ). put_token l n u) s.wrote (sym s.made)
                ∙ put_over s.ts result₀ u (omega (arith, s.made, rd.fits));
            lists =
                record {
                  knows = lists_next.knows;
                  listed = lists_next.listed ∙ ap (onto next.added) s.lists.listed ∙ onto_onto s.ids next.added added₀ no_fewer_ids;
                };
            next = l.next;
            is =
                let ut : u ≡ next.token = eu ∙ ap (λ (m : Made). m.token) next_is in
                s.is
                ∙ rw (tokens_step tokens i (places (length tokens)) t et g, ut)
                (after_ahead s.ts next.token (composed_from inner outer table next.added (tokens_from tokens (i + 1) (places (length tokens) - (i + 1)))));
          }
