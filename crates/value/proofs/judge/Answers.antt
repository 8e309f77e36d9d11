-- `value::judge` meets its contract. Assumes nothing.
use Rattle.std.specs.Prelude.{Some}
use borrow.Author.Rules.{rules}
use mathlib.Core.Path.{◌∙◌, ap}
use mir.Syntax.{w64}
use mir.Facts.{to_z-of_z}
use Rattle.value.specs.Value.{sign_of, value_of}
use Rattle.value.proofs.judge.Goals as goal

pub returns-in-Lenient : goal.returns-in-Lenient
unfolding value_of
returns-in-Lenient c =
    rw c.in-Lenient.is
    (ap Some (to_z-of_z {w = w64} (search rules) ∙ c.decode_sign.ensures ∙ ap sign_of (to_z-of_z {w = w64} (search rules) ∙ c.to_signed.ensures)))

pub returns-in-Checked : goal.returns-in-Checked
unfolding value_of
returns-in-Checked c = rw c.in-Checked.is c.standard_value.ensures
