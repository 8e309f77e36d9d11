-- `premises::follows_ok` meets its contract. Assumes nothing.
use Rattle.premises.proofs.Laws.{goes_back, bad_source, bad_name, has_source, lone_name, other_line, column}
use mathlib.Core.Path.{ap}
use mathlib.Core.Bool.{not}
use Rattle.premises.proofs.follows_ok.Goals as goal

pub returns-then-t-before : goal.returns-then-t-before
returns-then-t-before c = goes_back c.args.sources c.args.names c.args.before.line c.args.before.src_line c.args.before.src_col c.args.t c.if-t-before.true

pub returns-then-not-id_within : goal.returns-then-not-id_within
returns-then-not-id_within c = bad_source c.args.sources c.args.names c.args.before.line c.args.before.src_line c.args.before.src_col c.args.t c.if-t-before.false _ c.id_within.ensures (ap not c.if-not-id_within.true)

pub returns-then-not-id_within-2 : goal.returns-then-not-id_within-2
returns-then-not-id_within-2 c = bad_name c.args.sources c.args.names c.args.before.line c.args.before.src_line c.args.before.src_col c.args.t c.if-t-before.false _ c.id_within.ensures (ap not c.if-not-id_within.false) _ c.id_within-2.ensures (ap not c.if-not-id_within-2.true)

pub returns-then-t-ne-NONE : goal.returns-then-t-ne-NONE
returns-then-t-ne-NONE c = has_source c.args.sources c.args.names c.args.before.line c.args.before.src_line c.args.before.src_col c.args.t c.if-t-before.false _ c.id_within.ensures (ap not c.if-not-id_within.false) _ c.id_within-2.ensures (ap not c.if-not-id_within-2.false) c.if-t-ne-NONE.true

pub returns-then-t-ne-NONE-2 : goal.returns-then-t-ne-NONE-2
returns-then-t-ne-NONE-2 c = lone_name c.args.sources c.args.names c.args.before.line c.args.before.src_line c.args.before.src_col c.args.t c.if-t-before.false _ c.id_within.ensures (ap not c.if-not-id_within.false) _ c.id_within-2.ensures (ap not c.if-not-id_within-2.false) c.if-t-ne-NONE.false c.if-t-ne-NONE-2.true

pub returns-then-t-before-2 : goal.returns-then-t-before-2
returns-then-t-before-2 c = other_line c.args.sources c.args.names c.args.before.line c.args.before.src_line c.args.before.src_col c.args.t c.if-t-before.false _ c.id_within.ensures (ap not c.if-not-id_within.false) _ c.id_within-2.ensures (ap not c.if-not-id_within-2.false) c.if-t-ne-NONE.false c.if-t-ne-NONE-2.false c.if-t-before-2.true

pub returns : goal.returns
returns c = column c.args.sources c.args.names c.args.before.line c.args.before.src_line c.args.before.src_col c.args.t c.if-t-before.false _ c.id_within.ensures (ap not c.if-not-id_within.false) _ c.id_within-2.ensures (ap not c.if-not-id_within-2.false) c.if-t-ne-NONE.false c.if-t-ne-NONE-2.false c.if-t-before-2.false
