-- What a step that is told gives of the step. Assumes nothing.
use Rattle.std.specs.Prelude.{Some, None, Ok, Err}
use mathlib.Core.Path.{◌≡◌, refl, sym, ap}
use Prim.Native.Nat.{ℕ, ◌%◌, ◌^◌}
use native.Mathlib.Omega.{arith}
use Rattle.code.specs.declared.Code.{Code}
use Rattle.token.specs.Table.{with_segment}
use Rattle.token.specs.declared.Token.{Token}
use Rattle.apply.specs.declared.State.{State}
use Rattle.step.specs.Ways.{told}
use Rattle.step.specs.Step.{refused, Step}

other : {A : Type 0} → ◌≡◌ {A = ℕ} 0 1 → A
other z = absurd (omega arith)

pub told_done : (r : Step) → Ok None ≡ told r → r ≡ Ok None
told_done (Ok (Some (t, begin, s))) e = other cc
told_done (Err r) e = other cc
told_done (Ok None) e = refl

pub told_refused : (r : Step) (code : Code) (offset : ℕ) → Err (refused code offset) ≡ told r → r ≡ Err (refused code offset)
told_refused (Ok (Some (t, begin, s))) code offset e = other cc
told_refused (Err r) code offset e = sym e
told_refused (Ok None) code offset e = other cc

-- the token of the step, which does not say it
pub record Untold (r : Step) (t : Token) (begin : ℕ) (s : State) : Type 0 where
  pub token : Token
  pub step : r ≡ Ok (Some (token, begin, s))
  pub is : t ≡ with_segment token (begin % 2 ^ 32)

pub told_put : (r : Step) (t : Token) (begin : ℕ) (s : State) → Ok (Some (t, begin, s)) ≡ told r → Untold r t begin s
told_put (Ok (Some (u, b, q))) t begin s e =
    let p : ◌≡◌ {A = Token × ℕ × State} (t, begin, s) (with_segment u (b % 2 ^ 32), b, q) = cc in
    let x : t ≡ with_segment u (b % 2 ^ 32) = ap (λ (w : Token × ℕ × State). w.0) p in
    let y : begin ≡ b = ap (λ (w : Token × ℕ × State). w.1) p in
    let z : s ≡ q = ap (λ (w : Token × ℕ × State). w.2) p in
    record { token = u; step = rw (y, z); is = rw y x }
told_put (Err r) t begin s e = other cc
told_put (Ok None) t begin s e = other cc
