-- An outer name asked for: the added names, and what is remembered. Assumes nothing.
use mathlib.Core.Path.{◌≡◌, ap, sym, subst, ◌∙◌}
use mathlib.Core.List.{List, [], ◌∷◌, ◌++◌}
use Prim.Native.Nat.{ℕ, ◌+◌, ◌≤◌, ◌<◌}
use native.Mathlib.Omega.{arith}
use lib.ListN.{length, take, drop, set, length-append, take-append-drop}
use Rattle.list.specs.Memory.{onto, blit}
use Rattle.list.proofs.Memory.{blit_set, blit_onto}
use Rattle.names.specs.Names.{NameList}
use Rattle.name_ids.specs.declared.NameId.TheVariants.{Found, New}
use Rattle.name_ids.specs.NameIds.{Named, outer_named}
use Rattle.name_ids.specs.Answers.{named_by, Kept}
use Rattle.name_ids.proofs.Grow.{kept_few, kept_named}
use Rattle.name_ids.proofs.Stays.{again}
use Rattle.compose.specs.declared.Known.{Known}
use Rattle.compose.specs.Steps.{Askable, Lists}

-- the first of a list, over it
onto_take : (n : ℕ) (xs : List ℕ) → n ≡ length (take n xs) → onto (take n xs) xs ≡ xs
unfolding onto
onto_take n xs e = ap (λ (k : ℕ). take n xs ++ drop k xs) (sym e) ∙ take-append-drop n xs

-- one more name, behind them
onto_more : (id n : ℕ) (xs : List ℕ) → n ≡ length (take n xs) → n < length xs → set xs n id ≡ onto (take n xs ++ (id ∷ [])) xs
onto_more id n xs e h =
    let ids : List ℕ = take n xs in
    let b : blit (onto ids xs) (length ids) (id ∷ []) ≡ onto (ids ++ (id ∷ [])) xs
    = blit_onto ids (id ∷ []) xs (omega (arith, length-append ids (id ∷ []))) in
    blit_set xs n id h ∙ (rw (onto_take n xs e, ← e) at b)

module _ (inner outer : NameList) (added : List ℕ) (k : Known) (a : Askable inner outer added k) where
  abbrev ids : List ℕ
  ids = take k.count added

  same_list : onto ids added ≡ added
  same_list = onto_take k.count added a.knows.counts

  pub within : k.count ≤ length added
  within = omega (arith, a.knows.counts, kept_few inner outer ids a.searchable.kept, a.roomy)

  -- nothing is added
  pub the_same : Lists inner outer ids added k added
  the_same = record { knows = a.knows; listed = sym same_list }

  module _ (id : ℕ) where
    abbrev next : List ℕ
    next = (outer_named inner outer ids id).added

    -- asked for again
    pub again_is : id ≡ k.last → outer_named inner outer ids id ≡ record { id = k.given; added = ids }
    again_is e = rw e a.knows.remembers

    pub remembered : id ≡ k.last → Lists inner outer next added k added
    remembered e = subst (λ (n : Named). Lists inner outer n.added added k added) (sym (again_is e)) the_same

    abbrev answer : ℕ → Named
    answer i = record { id = i; added = next }

    -- and what it is given is remembered
    recalls : (given : ℕ) → given ≡ (outer_named inner outer ids id).id → outer_named inner outer next id ≡ record { id = given; added = next }
    recalls given e = again inner outer ids id ∙ ap (λ (i : ℕ). answer i) (sym e)

    module _ (given : ℕ) where
      pub found : named_by ids id (Found given) ≡ outer_named inner outer ids id
          → Lists inner outer next added (record { count = k.count; last = id; given = given }) added
      found e =
          let l : ids ≡ next = ap (λ (m : Named). m.added) e in
          record {
            knows = record { counts = a.knows.counts ∙ ap length l; remembers = recalls given (ap (λ (m : Named). m.id) e) };
            listed = sym same_list ∙ ap (λ (l : List ℕ). onto l added) l;
          }

      module _ (e : named_by ids id (New given) ≡ outer_named inner outer ids id) where
        more : ids ++ (id ∷ []) ≡ next
        more = ap (λ (m : Named). m.added) e

        pub has_room : k.count < length added
        has_room =
            let kept : Kept inner outer next = kept_named inner outer ids id a.searchable.kept in
            omega (arith, ap length more, length-append ids (id ∷ []), kept_few inner outer next kept, a.roomy, a.knows.counts)

        pub new : Lists inner outer next added (record { count = k.count + 1; last = id; given = given }) (set added k.count id)
        new =
            record {
              knows =
                  record {
                    counts = omega (arith, ap length more, length-append ids (id ∷ []), a.knows.counts);
                    remembers = recalls given (ap (λ (m : Named). m.id) e);
                  };
              listed = onto_more id k.count added a.knows.counts has_room ∙ ap (λ (l : List ℕ). onto l added) more;
            }
