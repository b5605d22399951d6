use Rattle.std.proofs.Common.{◌≡◌, ◌∙◌, ◌+◌, ap, arith, suc}
use Rattle.value_fits.specs.Fitting.{placed}
use Rattle.call_arguments.specs.Placing.{placed_by, placed_within}
use Rattle.call_arguments.proofs.places.place_within.Goals as goal

pub loop-variable-preserved : goal.loop-variable-preserved
loop-variable-preserved c =
    let k = c.loop-variable.variable in
    let t = c.args.typ.now in
    let i = c.args.value.now in
    let is = c.in_ok-small.ensures in
    let more : suc k ≡ k + 1 = omega arith in
    c.in_ok-place_one.ensures ∙ (λ j. placed_by (placed t (is j) i) (is j) (c.loop-variable.invariant j))
    ∙ ap (λ n. placed_within t i n c.args.known.now) more
