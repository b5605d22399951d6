use Rattle.std.proofs.Common.{◌++◌, map, take, drop, slice_set, get_or, ap, sym, ◌∙◌, add-one}
use Rattle.model_state.specs.StateRows.{after_write}
use Rattle.model_state.proofs.Harts.{set-mapped}
use Rattle.model_state.proofs.state.rows.end_touched.Goals as goal

pub loop-hart-preserved : goal.loop-hart-preserved
loop-hart-preserved c =
    let i = c.loop-hart.hart-index in
    let harts = c.args.harts.now in
    let hart = c.hart-item.result in
    let new = c.end_if_touched.new.hart in
    let f = after_write c.args.w c.args.a in
    ap (λ hs. slice_set hs i new) c.loop-hart.invariant
    ∙ set-mapped f harts i hart new c.loop-hart-test.true (c.hart-item.is ∙ ap (λ hs. get_or hs i hart)
    c.loop-hart.invariant) (c.end_if_touched.ensures ∙ ap f (sym c.hart-item.is))
    ∙ (λ j. map f (take (sym (add-one i) j) harts) ++ drop (sym (add-one i) j) harts)
