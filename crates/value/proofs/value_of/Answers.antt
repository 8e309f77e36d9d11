-- `value::value_of` meets its contract. Assumes nothing.
use Rattle.std.specs.Prelude.{Some}
use borrow.Author.Rules.{rules}
use mathlib.Core.Path.{sym, ◌∙◌, ap}
use native.Mathlib.Omega.{arith}
use mir.Syntax.{w64}
use mir.Facts.{to_z-of_z, to_z_pos}
use Rattle.value.specs.Value.{sign_of}
use Rattle.value.proofs.Standard.{value_plain}
use Rattle.value.proofs.value_of.Goals as goal

pub returns-then-bits-ne1 : goal.returns-then-bits-ne1
returns-then-bits-ne1 c =
    let args = c.args in
    rw c.if-lost-eq0.true
    (ap Some (to_z-of_z {w = w64} (search rules) ∙ c.decode_sign.ensures ∙ ap sign_of (to_z_pos w64 {n = args.bits} (omega (arith, c.if-bits-lt4294967296.true))))
    ∙ sym (value_plain args.mode args.bits c.if-bits-lt4294967296.true c.if-bits-ne1.true))
