-- One turn of the decoding loop, on the definitions alone. Assumes nothing.
use Rattle.std.specs.Prelude.{Some, None, Result, Ok, Err, ⊤}
use mathlib.Core.Path.{◌≡◌, refl, ap, sym, ◌∙◌}
use mathlib.Core.List.{List, [], ◌∷◌, ◌++◌, append_assoc, append-nil}
use Prim.Native.Nat.{ℕ, suc, ◌+◌, ◌-◌, ◌≤◌, ◌<◌}
use native.Mathlib.Omega.{arith}
use native.Mathlib.Nat.{mod-eq_of_lt}
use lib.ListN.{length, length-append}
use Rattle.list.proofs.Memory.{onto_nil}
use Rattle.code.specs.declared.Code.{Code}
use Rattle.token.specs.Table.{no_segment, with_segment, places, put_token, flat, over}
use Rattle.token.specs.declared.Token.{Token}
use Rattle.token.proofs.Laws.{put_over, length_over}
use Rattle.value.specs.declared.Mode.{Mode}
use Rattle.apply.specs.declared.State.{State}
use Rattle.step.specs.Step.{start, step_at, refused, Step}
use Rattle.step.specs.Ways.{told, Closes, Passed}
use Rattle.step.proofs.Told.{Untold, told_done, told_refused, told_put}
use Rattle.step.proofs.Ends.{closes}
use Rattle.decode.specs.Mapping.{Out, stopped, token_then, run, decoded, Decodes}
use Rattle.decode.proofs.Runs.{run_done, run_refused, run_late, run_full, run_put, put_past, run_same}

-- tokens before others
abbrev before : List Token → Out → Out
before ts o = record { tokens = ts ++ o.tokens; end = o.end; offset = o.offset }

before_ahead : (ts : List Token) (t : Token) (o : Out) → before ts (token_then t o) ≡ before (ts ++ (t ∷ [])) o
before_ahead ts t o = rw (append_assoc ts (t ∷ []) o.tokens)

module _ (mode : Mode) (sources names : ℕ) (text : List ℕ) where
  abbrev runs : ℕ → ℕ → State → Out
  runs index left s = run mode sources names text index left s

  abbrev steps : State → Step
  steps s = step_at mode sources names text s

  -- ts are decoded and stand in the table; what is left is to be decoded from s on. The tokens are no more than the bytes before, and
  -- than the place of the last of them and 1
  pub record Sofar (table₀ table : List ℕ) (s : State) (tokens : ℕ) : Type 0 where
    pub ts : List Token
    pub count : length ts ≡ tokens
    pub room : tokens ≤ places (length table₀)
    pub wrote : table ≡ over ts table₀
    pub rest : decoded mode sources names text (places (length table₀)) ≡ before ts (runs tokens (places (length table₀) - tokens) s)
    pub origin : State
    pub same : steps origin ≡ steps s
    pub behind : tokens ≤ origin.at
    pub few : tokens ≤ no_segment

  pub begin : (table₀ : List ℕ) (s : State) → s ≡ start → Sofar table₀ table₀ s 0
  unfolding flat
  begin table₀ s e =
      let z : places (length table₀) - 0 ≡ places (length table₀) = omega arith in
      record {
        ts = [];
        count = refl;
        room = omega arith;
        wrote = sym (onto_nil table₀);
        rest = rw (e, z);
        origin = s;
        same = refl;
        behind = omega arith;
        few = omega arith;
      }

  pub moves : (table₀ table : List ℕ) (s s' : State) (tokens : ℕ) → Sofar table₀ table s tokens → Passed text s s' → Sofar table₀ table s' tokens
  moves table₀ table s s' tokens f p =
      record {
        ts = f.ts;
        count = f.count;
        room = f.room;
        wrote = f.wrote;
        rest = f.rest ∙ ap (before f.ts) (run_same mode sources names text tokens (places (length table₀) - tokens) s s' (p.same mode sources names));
        origin = f.origin;
        same = f.same ∙ p.same mode sources names;
        behind = f.behind;
        few = f.few;
      }

  module _ (table₀ table : List ℕ) (s : State) (tokens : ℕ) (f : Sofar table₀ table s tokens) where
    pub long : length table ≡ length table₀
    long = rw f.wrote (length_over f.ts table₀ (omega (arith, f.count, f.room)))

    left : (end : Result ⊤ Code) (offset : ℕ) → runs tokens (places (length table₀) - tokens) s ≡ stopped end offset
        → Decodes mode sources names text table₀ (record { end = end; tokens = tokens; offset = offset }) table
    left end offset e =
        let d : decoded mode sources names text (places (length table₀)) ≡ record { tokens = f.ts; end = end; offset = offset }
        = f.rest ∙ rw (e, append-nil f.ts) in
        record { says = rw (d, f.count); wrote = rw d f.wrote }

    pub ended : Ok None ≡ told (steps s) → Decodes mode sources names text table₀ (record { end = Ok tt; tokens = tokens; offset = length text }) table
    ended e = left (Ok tt) (length text) (run_done mode sources names text tokens (places (length table₀) - tokens) s (told_done (steps s) e))

    pub fails : (code : Code) (offset : ℕ) → Err (refused code offset) ≡ told (steps s)
        → Decodes mode sources names text table₀ (record { end = Err code; tokens = tokens; offset = offset }) table
    fails code offset e = left (Err code) offset (run_refused mode sources names text tokens (places (length table₀) - tokens) s code offset (told_refused (steps s) code offset e))

    -- room is what the code counted
    module _ (t : Token) (at : ℕ) (s' : State) (e : Ok (Some (t, at, s')) ≡ told (steps s)) (room : ℕ) (er : room ≡ places (length table₀)) where
      untold : Untold (steps s) t at s'
      untold = told_put (steps s) t at s' e

      pub ends_at : Closes text s'
      ends_at = closes mode sources names text s untold.token at s' (sym untold.step)

      -- what it says is where its segment begins
      says : at < no_segment → t ≡ with_segment untold.token at
      says l = untold.is ∙ ap (with_segment untold.token) (mod-eq_of_lt (omega arith))

      pub late : no_segment ≤ at → Decodes mode sources names text table₀ (record { end = Err (Code.TooBig tokens); tokens = tokens; offset = at }) table
      late l = left (Err (Code.TooBig tokens)) at (run_late mode sources names text tokens s untold.token at s' untold.step (places (length table₀) - tokens) l)

      pub no_place : at < no_segment → room ≤ tokens → Decodes mode sources names text table₀ (record { end = Err Code.TableFull; tokens = tokens; offset = at }) table
      no_place l h =
          let z : places (length table₀) - tokens ≡ 0 = omega (arith, f.room) in
          left (Err Code.TableFull) at (rw z (run_full mode sources names text tokens s untold.token at s' untold.step l))

      pub place : tokens < room → tokens < places (length table)
      place h = rw long (omega (arith, er))

      pub less : tokens < room → room - (tokens + 1) < room - tokens
      less h = omega arith

      pub put : at < no_segment → tokens < room → (table' : List ℕ) → table' ≡ put_token table tokens t → Sofar table₀ table' s' (tokens + 1)
      put l h table' ep =
          let p : length f.ts < places (length table₀) = omega (arith, f.count) in
          let z : places (length table₀) - tokens ≡ suc (places (length table₀) - (tokens + 1)) = omega arith in
          let q = put_past mode sources names text tokens f.origin untold.token at s' (f.same ∙ untold.step) in
          let u : t ≡ with_segment untold.token at = says l in
          record {
            ts = f.ts ++ (t ∷ []);
            count = length-append f.ts (t ∷ []) ∙ omega (arith, f.count);
            room = omega arith;
            wrote = ep ∙ rw (f.wrote, ← f.count) (put_over f.ts table₀ t p);
            rest =
                f.rest
                ∙ ap (before f.ts)
                (ap (λ (n : ℕ). runs tokens n s) z
                ∙ run_put mode sources names text tokens s untold.token at s' untold.step (places (length table₀) - (tokens + 1)) l
                ∙ ap (λ (x : Token). token_then x (runs (tokens + 1) (places (length table₀) - (tokens + 1)) s')) (sym u))
                ∙ before_ahead f.ts t (runs (tokens + 1) (places (length table₀) - (tokens + 1)) s');
            origin = s';
            same = refl;
            behind = omega (arith, q.1, f.behind);
            few = omega (arith, q.0, f.behind, l);
          }
