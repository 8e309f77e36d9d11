-- `decode::decode_in` meets its contract. Assumes nothing.
use Rattle.std.specs.Prelude.{◌≡◌, Option, Some, None, Ok}
use Rattle.std.proofs.Common.{rules}
use mathlib.Core.Path.{sym, ap, ◌∙◌}
use Prim.Native.Nat.{ℕ}
use native.Mathlib.Omega.{arith}
use Rattle.token.specs.declared.Token.{Token}
use Rattle.apply.specs.declared.State.{State}
use Rattle.step.specs.Step.{Step}
use Rattle.decode.proofs.Turn.{begin, moves, ended, fails, late, ends_at, no_place, put}
use Rattle.decode.proofs.decode_in.Goals as goal

-- what the step gave
told_none : (s : Step) (f : Option (Token × ℕ × State)) (r : Step) → s ≡ Ok f → f ≡ None → s ≡ r → Ok None ≡ r
told_none s f r e i w = sym (e ∙ ap Ok i) ∙ w

told_some : (s : Step) (f : Option (Token × ℕ × State)) (r : Step) (p : Token × ℕ × State) → s ≡ Ok f → f ≡ Some p → s ≡ r → Ok (Some p) ≡ r
told_some s f r p e i w = sym (e ∙ ap Ok i) ∙ w

pub loop-t-init : goal.loop-t-init
loop-t-init c = (moves _ _ _ _ _ _ _ _ _ (begin _ _ _ _ _ _ (search rules)) c.next_segment-s.ensures, c.next_segment-s.ensures.opens)

pub returns-in-Ok-None : goal.returns-in-Ok-None
returns-in-Ok-None c =
    rw c.ended.ensures
    (ended _ _ _ _ _ _ _ _ c.loop-t.invariant.0 (told_none _ _ _ c.in-Ok-None.is c.in-Ok-None.field-0-is c.take_segment.ensures))

pub returns-in-Err : goal.returns-in-Err
returns-in-Err c =
    rw c.ended-in-Err.ensures
    (fails _ _ _ _ _ _ _ _ c.loop-t.invariant.0 c.in-Err.r.code c.in-Err.r.offset (sym c.in-Err.is ∙ c.take_segment.ensures))

pub returns-then-begin-ge-LATE : goal.returns-then-begin-ge-LATE
returns-then-begin-ge-LATE c =
    rw c.ended-then-begin-ge-LATE.ensures
    (late _ _ _ _ _ _ _ _ c.loop-t.invariant.0 _ _ _ (told_some _ _ _ _ c.in-Ok-Some.is c.in-Ok-Some.field-0-is c.take_segment.ensures)
    _ c.places_in-room.ensures c.if-begin-ge-LATE.true)

pub returns-then-room-tokens : goal.returns-then-room-tokens
returns-then-room-tokens c =
    rw c.ended-then-room-tokens.ensures
    (no_place _ _ _ _ _ _ _ _ c.loop-t.invariant.0 _ _ _ (told_some _ _ _ _ c.in-Ok-Some.is c.in-Ok-Some.field-0-is c.take_segment.ensures)
    _ c.places_in-room.ensures c.if-begin-ge-LATE.false (omega (arith, c.if-room-tokens.true)))

pub next_after-s-requires : goal.next_after-s-requires
next_after-s-requires c =
    ends_at _ _ _ _ _ _ _ _ c.loop-t.invariant.0 _ _ _ (told_some _ _ _ _ c.in-Ok-Some.is c.in-Ok-Some.field-0-is c.take_segment.ensures)
    _ c.places_in-room.ensures

pub loop-t-preserved : goal.loop-t-preserved
loop-t-preserved c = (
  moves _ _ _ _ _ _ _ _ _
      (put _ _ _ _ _ _ _ _ c.loop-t.invariant.0 _ _ _ (told_some _ _ _ _ c.in-Ok-Some.is c.in-Ok-Some.field-0-is c.take_segment.ensures)
      _ c.places_in-room.ensures c.if-begin-ge-LATE.false c.if-room-tokens.false _ c.put_token.ensures)
      c.next_after-s.ensures,
  c.next_after-s.ensures.opens,
)
