-- `token::put_token` meets its contract. Assumes nothing.
use native.Mathlib.Omega.{arith}
use lib.ListN.{length-set}
use Rattle.token.specs.Table.{put_token}
use Rattle.token.proofs.Laws.{stored}
use Rattle.token.proofs.put_token.Goals as goal

pub bounds-table-at-2 : goal.bounds-table-at-2
bounds-table-at-2 c = simp length-set (omega arith)

pub bounds-table-at-3 : goal.bounds-table-at-3
bounds-table-at-3 c = simp length-set (omega arith)

pub bounds-table-at-4 : goal.bounds-table-at-4
bounds-table-at-4 c = simp length-set (omega arith)

pub bounds-table-at-5 : goal.bounds-table-at-5
bounds-table-at-5 c = simp length-set (omega arith)

pub bounds-table-at-6 : goal.bounds-table-at-6
bounds-table-at-6 c = simp length-set (omega arith)

pub bounds-table-at-7 : goal.bounds-table-at-7
bounds-table-at-7 c = simp length-set (omega arith)

pub returns : goal.returns
unfolding put_token
returns c = stored _ _ _ _ _ _ _ _ _ (omega arith)
