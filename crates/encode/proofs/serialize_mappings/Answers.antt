use mathlib.Core.Path.{sym, ◌∙◌}
use Rattle.std.proofs.lemmas.Result.{err_from_is_err_and}
use Rattle.encode.proofs.Answer.{inside, answers_bad_table, out_of_order, out_of_table, goes_back, no_room, writable, done}
use Rattle.encode.proofs.serialize_mappings.Goals as goal

pub returns-then-bad_table : goal.returns-then-bad_table
returns-then-bad_table c = answers_bad_table _ _ _ (sym c.bad_table.ensures ∙ c.if-bad_table.true)

pub returns-then-chunk : goal.returns-then-chunk
returns-then-chunk c = out_of_order _ _ _ (sym c.bad_table.ensures ∙ c.if-bad_table.false) c.if-chunk.true

pub returns-then-places_in-chunk : goal.returns-then-places_in-chunk
returns-then-places_in-chunk c = out_of_table _ _ _ (sym c.bad_table.ensures ∙ c.if-bad_table.false) _ c.places_in.ensures c.if-chunk.false c.if-places_in-chunk.true

pub needed-requires : goal.needed-requires
needed-requires c = inside _ _ _ c.places_in.ensures c.if-chunk.false c.if-places_in-chunk.false

pub returns-in_err-needed : goal.returns-in_err-needed
returns-in_err-needed c =
    let p = err_from_is_err_and c.from_residual.result c.from_residual.ensures.1 in
    rw (p.1, p.2)
    (goes_back _ _ _ (sym c.bad_table.ensures ∙ c.if-bad_table.false) (inside _ _ _ c.places_in.ensures c.if-chunk.false c.if-places_in-chunk.false) _ c.in_err-needed.ensures)

pub returns-then-out-needed : goal.returns-then-out-needed
returns-then-out-needed c = no_room _ _ _ (sym c.bad_table.ensures ∙ c.if-bad_table.false) (inside _ _ _ c.places_in.ensures c.if-chunk.false c.if-places_in-chunk.false) _ c.in_ok-needed.ensures c.if-out-needed.true

pub write_all-requires : goal.write_all-requires
write_all-requires c = writable _ _ _ (sym c.bad_table.ensures ∙ c.if-bad_table.false) (inside _ _ _ c.places_in.ensures c.if-chunk.false c.if-places_in-chunk.false) _ c.in_ok-needed.ensures c.if-out-needed.false

pub returns : goal.returns
returns c = done _ _ _ (sym c.bad_table.ensures ∙ c.if-bad_table.false) (inside _ _ _ c.places_in.ensures c.if-chunk.false c.if-places_in-chunk.false) _ c.in_ok-needed.ensures c.if-out-needed.false _ _ c.write_all.ensures
