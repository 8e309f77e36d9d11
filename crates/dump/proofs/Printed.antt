-- What is printed for an input, by its length and its first line, and where it stands. Assumes nothing.
use mathlib.Core.Path.{◌≡◌, refl, ap, sym, ◌∙◌}
use mathlib.Core.List.{List}
use Prim.Native.Nat.{ℕ, ◌-◌, ◌≤◌, ◌<◌}
use native.Mathlib.Omega.{arith}
use Rattle.std.proofs.Common.{Option, Some, None}
use lib.ListN.{length, take, drop, length-drop}
use lib.Seq.{length-take-le, take_all, take_at}
use borrow.Author.Tests.{lt-ltb, le-ltb}
use Rattle.list.specs.Memory.{onto}
use Rattle.list.specs.Put.{Put}
use Rattle.list.proofs.Memory.{length_onto}
use Rattle.list.proofs.Put.{put_onto}
use Rattle.value.specs.declared.Mode.{Mode}
use Rattle.decode.specs.Mapping.{decoded}
use Rattle.first_line.specs.FirstLine.{Reads}
use Rattle.first_line.specs.declared.FirstLine.{FirstLine}
use Rattle.first_line.proofs.Line.{reads_computed}
use Rattle.lines.specs.Lines.{line, input_line}
use Rattle.lines.specs.Parts.{PutMost}
use Rattle.dump.specs.Rendered.{report, rendered_by, rendered, Renders}

input_long : length input_line ≡ 6
unfolding line
input_long = refl

module _ (input : List ℕ) where
  -- a longer input
  pub too_long : 16384 < length input → rendered input ≡ input_line
  unfolding rendered
  too_long h = rw (lt-ltb 16384 (length input) h)

  by_line : length input ≤ 16384 → (l : Option FirstLine) → Reads input l → rendered input ≡ rendered_by input l
  unfolding rendered
  by_line h l e = rw (le-ltb 16384 (length input) h) (ap (rendered_by input) (sym (reads_computed input l e)))

  module _ (out : List ℕ) (r : ℕ) (out' : List ℕ) where
    refused : rendered input ≡ input_line → Put out 0 input_line r out' → PutMost 67682 out 0 (rendered input) r out'
    refused e p = rw e (record { put = p; few = omega (arith, input_long) })

    pub put_too_long : 16384 < length input → Put out 0 input_line r out' → PutMost 67682 out 0 (rendered input) r out'
    put_too_long h = refused (too_long h)

    module _ (h : length input ≤ 16384) where
      pub put_bad : Reads input None → Put out 0 input_line r out' → PutMost 67682 out 0 (rendered input) r out'
      put_bad f = refused (by_line h None f)

      -- the text is the rest, as the code takes it
      pub put_text : (l : FirstLine) → Reads input (Some l)
          → PutMost 67682 out 0 (report (decoded Mode.Lenient l.sources l.names (take (length input - l.text) (drop l.text input)) 1024)) r out'
          → PutMost 67682 out 0 (rendered input) r out'
      put_text l f p =
          let t : take (length input - l.text) (drop l.text input) ≡ drop l.text input = take_all (length input - l.text) (drop l.text input) (omega (arith, length-drop l.text input)) in
          let q : rendered input ≡ report (decoded Mode.Lenient l.sources l.names (take (length input - l.text) (drop l.text input)) 1024) = by_line h (Some l) f ∙ rw t in
          rw q p

    pub renders : 67682 ≤ length out → PutMost 67682 out 0 (rendered input) r out' → Renders input out r out'
    renders room p =
        let o = put_onto out (rendered input) r out' p.put in
        record { says = o.0; wrote = o.1; whole = omega (arith, p.few) }

-- the same is printed for each longer input
pub longer_same : (a b : List ℕ) → 16384 < length a → 16384 < length b → rendered a ≡ rendered b
longer_same a b h k = too_long a h ∙ sym (too_long b k)

-- what the caller hands over is the start of the lent bytes, and that is what is printed
module _ (input out : List ℕ) (r : ℕ) (out' : List ℕ) (f : Renders input out r out') where
  pub within : r ≤ length out'
  within = rw (f.wrote, length_onto (rendered input) out f.whole, f.says) f.whole

  pub part_long : r ≡ length (take r out')
  part_long = sym (length-take-le r out' within)

  pub part_is : take r out' ≡ rendered input
  unfolding onto
  part_is = rw (f.wrote, f.says) (take_at (rendered input) (drop (length (rendered input)) out) (length (rendered input)) refl)

-- the contract leaves one answer, and one content of the lent bytes
pub one_answer : (input out : List ℕ) (r s : ℕ) (x y : List ℕ) → Renders input out r x → Renders input out s y → (r ≡ s) × (x ≡ y)
one_answer input out r s x y a b = (a.says ∙ sym b.says, a.wrote ∙ sym b.wrote)
