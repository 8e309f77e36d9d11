-- `records::move_all` meets its contract, by the laws of `Laws`. Assumes nothing.
use Rattle.std.proofs.Common.{◌≡◌, ◌<◌, List, length, get_or, slice_set, ap, ◌∙◌, arith}
use Rattle.token.specs.declared.Token.{Token}
use Rattle.translate.specs.Translate.{too_big, moved}
use Rattle.records.proofs.Laws.{no_token, mapped_to, mapped_here, mapped_next, mapped_all, all_map, all_small}
use Rattle.records.proofs.move_all.Goals as goal

pub moved-requires : goal.moved-requires
moved-requires c =
    let within : c.loop-t.t-index < length c.args.ts.now = omega (arith, c.loop-t-test.true) in
    ap (λ (ts : List Token). too_big c.args.by.line c.args.by.source c.args.by.name (get_or ts c.loop-t.t-index no_token)) c.loop-t.invariant
    ∙ ap (too_big c.args.by.line c.args.by.source c.args.by.name) (mapped_here _ _ c.loop-t.t-index no_token within)
    ∙ all_small _ _ _ 0 _ c.requires c.loop-t.t-index within

pub loop-t-preserved : goal.loop-t-preserved
loop-t-preserved c =
    let f = moved c.args.by.line c.args.by.source c.args.by.name in
    let within : c.loop-t.t-index < length c.args.ts.now = omega (arith, c.loop-t-test.true) in
    let before : get_or c.loop-t.t-items c.loop-t.t-index no_token ≡ get_or c.args.ts.now c.loop-t.t-index no_token =
    ap (λ (ts : List Token). get_or ts c.loop-t.t-index no_token) c.loop-t.invariant ∙ mapped_here f c.args.ts.now c.loop-t.t-index no_token within in
    ap (λ (t : Token). slice_set c.loop-t.t-items c.loop-t.t-index t) (c.moved.ensures ∙ ap f before)
    ∙ ap (λ (ts : List Token). slice_set ts c.loop-t.t-index (f (get_or c.args.ts.now c.loop-t.t-index no_token))) c.loop-t.invariant
    ∙ mapped_next f c.args.ts.now c.loop-t.t-index no_token within

pub returns : goal.returns
returns c =
    let f = moved c.args.by.line c.args.by.source c.args.by.name in
    let end : c.loop-t.t-index ≡ length c.args.ts.now = omega (arith, c.loop-t-test.false, c.loop-t.auto.t-index-end) in
    c.loop-t.invariant ∙ ap (mapped_to f c.args.ts.now) end ∙ mapped_all f c.args.ts.now ∙ all_map _ _ _ c.args.ts.now
