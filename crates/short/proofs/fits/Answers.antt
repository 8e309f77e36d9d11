-- `short::fits` meets its contract. Assumes nothing.
use Rattle.std.proofs.Common.{◌≡◌, true, false, T, sym, subst, ltb-true, arith}
use Rattle.short.proofs.Laws.{fit}
use Rattle.short.proofs.fits.Goals as goal

no_true : false ≡ true → ⊥
no_true e = subst T (sym e) tt

pub returns-then-most-n : goal.returns-then-most-n
returns-then-most-n c = λ w. absurd (no_true w)

pub returns-then-all-ge4294967296 : goal.returns-then-all-ge4294967296
returns-then-all-ge4294967296 c = λ w. absurd (no_true w)

pub returns : goal.returns
returns c =
    λ w. fit c.args.n c.args.k c.args.limits.sources c.args.limits.names _ c.most.ensures (omega arith)
    c.if-all-ge4294967296.false (ltb-true _ _ w) c.if-most-n.false
