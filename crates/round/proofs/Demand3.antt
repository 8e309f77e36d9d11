-- Demand 3, each statement of specs/Demand3.antt proved. Assumes nothing.
use Rattle.std.specs.Prelude.{Ok, is_ok}
use mathlib.Core.Path.{◌≡◌, sym, ◌∙◌, ap}
use mathlib.Core.Bool.{true, false}
use mathlib.Core.List.{List, map}
use mathlib.Core.Option.{none}
use Prim.Native.Nat.{ℕ, ◌+◌, ◌*◌, ◌≤◌}
use native.Mathlib.Omega.{arith}
use lib.ListN.{length, take, drop}
use lib.Seq.{drop-append_seam}
use Rattle.list.specs.Memory.{onto}
use Rattle.token.specs.Table.{width, first_six, SameTokens, places, tokens_of, flat, over}
use Rattle.token.specs.declared.Token.{Token}
use Rattle.token.proofs.Laws.{length_flat, length_tokens, tokens_flat}
use Rattle.token.proofs.Same.{same_length}
use Rattle.value.specs.declared.Mode.{Mode}
use Rattle.decode.specs.declared.Decoded.{Decoded}
use Rattle.decode.specs.Mapping.{Out, answer, decoded}
use Rattle.chunk.specs.Chunk.{fresh, first_back}
use Rattle.encode.specs.Encode.{bytes_out, next_out}
use Rattle.premises.specs.Premises.{SoundTable}
use Rattle.checked_premises.specs.Checked.{takes_all}
use Rattle.round.specs.Terms.{whole, Call, Cut, joined, AllDone, Early, Holds, Gives, Refused, Refuses, ReadsBack}
use Rattle.round.specs.Demand3.{ChunksJoin, WriteAndRead, CutAndRead, SurelyReadsBack, SurelyInBoth, ShortIsEarly, OneText}
use Rattle.round.proofs.Chunks.{handed, joins_whole, rest_whole, whole_bytes, whole_call}
use Rattle.round.proofs.Stops.{Outcome}
use Rattle.round.proofs.Run.{placed, same_placed, length_placed}
use Rattle.round.proofs.Round.{text_of, zeros_held, back, refused, takes_all_lenient, sound_more, never_back, not_bad, sound_tokens}
use Rattle.round.proofs.Same.{same_list}

pub chunks_join : ChunksJoin
chunks_join table ks out e out' g f u r w =
    let j = joins_whole table g ks f u in
    let q = whole_call table (length out) g f r in
    let h = handed table (whole table) out e out' w _ q in
    let z = rest_whole table g in
    record {
      done = j.done;
      bytes = j.bytes ∙ rw z (sym (h ∙ whole_bytes table));
      next = j.last ∙ rw z (sym (ap (next_out (whole table)) (w.says ∙ q)));
    }

-- tokens that agree with ts, written over a table
holds : (ts us : List Token) (table table' : List ℕ) → SameTokens us ts → table' ≡ over us table → Holds ts table table'
unfolding onto
holds ts us table table' e w =
    let n : length us ≡ length ts = same_length us ts e in
    let m : width * length ts ≡ length (flat us) = omega (arith, n, length_flat us) in
    record {
      same = rw (← n, w) (ap (map first_six) (tokens_flat us (drop (length (flat us)) table)) ∙ e);
      kept = rw (m, w) (drop-append_seam (flat us) (drop (length (flat us)) table));
    }

-- the text of a table's tokens, decoded
gives : (mode : Mode) (sources names : ℕ) (xs text : List ℕ) → SoundTable sources names xs → takes_all mode (tokens_of xs) ≡ true
    → text ≡ text_of (tokens_of xs) → Early text → Gives mode sources names xs text
gives mode sources names xs text s k q early table d table' l w =
    let ts : List Token = placed 0 0 (fresh 0 0) (tokens_of xs) in
    let n : length (tokens_of xs) ≡ places (length xs) = length_tokens xs 0 (places (length xs)) in
    let m : length (tokens_of xs) ≤ places (length table) = omega (arith, n, l) in
    let e : decoded mode sources names text (places (length table)) ≡ record { tokens = ts; end = Ok tt; offset = length text }
    = rw q (back mode sources names (places (length table)) (tokens_of xs) (sound_tokens sources names xs s) k m (rw q at early)) in
    let c : length ts ≡ places (length xs) = length_placed 0 0 (fresh 0 0) (tokens_of xs) ∙ n in (
      rw c at (w.says ∙ ap answer e),
      holds (tokens_of xs) ts table table' (same_placed 0 0 (fresh 0 0) (tokens_of xs)) (w.wrote ∙ ap (λ (o : Out). over o.tokens table) e),
    )

stops_at : (xs table : List ℕ) (r : Out) (d : Decoded) (table' : List ℕ) → d ≡ answer r → table' ≡ over r.tokens table
    → Outcome 0 0 (fresh 0 0) (tokens_of xs) r → Refused xs table d table'
stops_at xs table r d table' says wrote o =
    record {
      before = o.before;
      t = o.t;
      stopped = o.first;
      code = ap (λ (x : Decoded). x.end) says ∙ o.code;
      tokens = ap (λ (x : Decoded). x.tokens) says ∙ ap length o.tokens ∙ length_placed 0 0 (fresh 0 0) o.before;
      offset = ap (λ (x : Decoded). x.offset) says ∙ o.offset ∙ omega arith;
      wrote = holds o.before r.tokens table table' (ap (map first_six) o.tokens ∙ same_placed 0 0 (fresh 0 0) o.before) wrote;
    }

refuses : (sources names : ℕ) (xs text : List ℕ) → SoundTable sources names xs → takes_all Mode.Checked (tokens_of xs) ≡ false
    → text ≡ text_of (tokens_of xs) → Early text → Refuses sources names xs text
refuses sources names xs text s k q early table d table' l w =
    let n : length (tokens_of xs) ≡ places (length xs) = length_tokens xs 0 (places (length xs)) in
    let m : length (tokens_of xs) ≤ places (length table) = omega (arith, n, l) in
    stops_at xs table (decoded Mode.Checked sources names text (places (length table))) d table' w.says w.wrote
    (rw q (refused sources names (places (length table)) (tokens_of xs) (sound_tokens sources names xs s) k m (rw q at early)))

reads_back : (sources names : ℕ) (xs text : List ℕ) → SoundTable sources names xs → text ≡ text_of (tokens_of xs) → Early text → ReadsBack sources names xs text
reads_back sources names xs text s q early =
    record {
      lenient = gives Mode.Lenient sources names xs text s (takes_all_lenient (tokens_of xs)) q early;
      checked = λ k. gives Mode.Checked sources names xs text s k q early;
      refused = λ k. refuses sources names xs text s k q early;
    }

forth : (sources names : ℕ) (xs : List ℕ) → SoundTable sources names xs → first_back 0 0 (tokens_of xs) ≡ none
forth sources names xs s = never_back sources names 0 0 0 0 (tokens_of xs) (sound_tokens sources names xs s).meets

pub write_and_read : WriteAndRead
write_and_read sources names xs out e out' s r w =
    let q = whole_call xs (length out) (not_bad sources names xs s) (forth sources names xs s) r in (
      ap is_ok (w.says ∙ q),
      reads_back sources names xs (take (bytes_out e) out') s (handed xs (whole xs) out e out' w _ q ∙ whole_bytes xs),
    )

-- the calls over a table that meets the premises hand over its tokens' text
cut_text : (sources names : ℕ) (xs : List ℕ) (ks : List Call) → SoundTable sources names xs → Cut xs (fresh 0 0) ks → AllDone ks × (joined ks ≡ text_of (tokens_of xs))
cut_text sources names xs ks s u =
    let g = not_bad sources names xs s in
    let j = joins_whole xs g ks (forth sources names xs s) u in
    (j.done, j.bytes ∙ rw (rest_whole xs g))

pub cut_and_read : CutAndRead
cut_and_read sources names xs ks s u = let t = cut_text sources names xs ks s u in (t.0, reads_back sources names xs (joined ks) s t.1)

pub surely_reads_back : SurelyReadsBack
surely_reads_back sources names xs r ks d e u = cut_and_read sources names xs ks (d.sound e) u

pub surely_in_both : SurelyInBoth
surely_in_both sources names xs r ks d e u =
    let a = cut_and_read sources names xs ks (d.sound e) u in (a.0, λ early. let b = a.1 early in (b.lenient, b.checked (d.taken e)))

pub short_is_early : ShortIsEarly
short_is_early text l begin b = omega (arith, b.within)

pub one_text : OneText
one_text sources names sources' names' a b ks ls s t u v e =
    let x = (cut_text sources names a ks s u).1 in
    let y = (cut_text sources' names' b ls t v).1 in
    let p = sound_more sources names (sources + sources') (names + names') (omega arith) (omega arith) (tokens_of a) (sound_tokens sources names a s) in
    let q = sound_more sources' names' (sources + sources') (names + names') (omega arith) (omega arith) (tokens_of b) (sound_tokens sources' names' b t) in
    same_list (sources + sources') (names + names') 0 (fresh 0 0) (tokens_of a) (tokens_of b) zeros_held p.fits q.fits p.meets q.meets (sym x ∙ e ∙ y)
