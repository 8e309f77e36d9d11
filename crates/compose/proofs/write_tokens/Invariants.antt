-- `compose::write_tokens` meets its contract, by the laws of `Turn`. Assumes nothing.
use lib.ListN.{take}
use Rattle.names.specs.Names.{list_of}
use Rattle.compose.proofs.Turn.{Sofar}
use Rattle.compose.proofs.write_tokens.Given as goal

abbrev pub invariant-loop-i : goal.invariant-loop-i
invariant-loop-i g l =
    record {
      sofar : Sofar (list_of l.inner.names) (list_of l.outer.names) l.inner.table.now l.outer.table.now l.initial.res l.initial.added l.res l.added l.known l.place l.i;
      holds : g.F.Finder.Holds l.finder (list_of l.inner.names) (list_of l.outer.names) (take l.known.count l.added);
    }
