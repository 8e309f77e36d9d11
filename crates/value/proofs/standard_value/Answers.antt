-- `value::standard_value` meets its contract. Assumes nothing.
use Rattle.std.specs.Prelude.{Some}
use borrow.Author.Rules.{rules}
use mathlib.Core.Path.{◌≡◌, sym, ◌∙◌, ap}
use Prim.Native.Nat.{◌+◌, ◌*◌, ◌^◌}
use native.Mathlib.Omega.{arith}
use mir.Syntax.{w64}
use mir.Facts.{to_z-of_z, to_z_pos}
use Rattle.value.specs.Standard.{signed, too_wide}
use Rattle.value.specs.Value.{sign_of}
use Rattle.value.proofs.Standard.{wide, plain}
use Rattle.value.proofs.standard_value.Goals as goal

pub returns-then-lost-gt0 : goal.returns-then-lost-gt0
returns-then-lost-gt0 c = sym (wide _ (omega (arith, c.if-lost-gt0.true)))

pub returns-then-bits-ge4294967296 : goal.returns-then-bits-ge4294967296
returns-then-bits-ge4294967296 c = sym (wide _ (omega (arith, c.if-bits-ge4294967296.true)))

pub returns-then-bits-eq1 : goal.returns-then-bits-eq1
unfolding signed too_wide
returns-then-bits-eq1 c =
    let args = c.args in
    let one : args.bits + 2 ^ 64 * args.lost ≡ 1 = omega (arith, c.if-bits-eq1.true, c.if-lost-gt0.false) in rw one

pub returns : goal.returns
returns c =
    ap Some (to_z-of_z {w = w64} (search rules) ∙ c.decode_sign.ensures ∙ ap sign_of (to_z_pos w64 {n = c.args.bits} (omega (arith, c.if-bits-ge4294967296.false))))
    ∙ sym (plain c.args.bits (omega (arith, c.if-bits-ge4294967296.false)) c.if-bits-eq1.false)
    ∙ ap signed (omega (arith, c.if-lost-gt0.false))
