use Rattle.std.proofs.Common.{◌++◌, map, take, drop, slice_set, get_or, ap, sym, ◌∙◌, add-one}
use Rattle.sail_compile.specs.parts.Cycles.{without_cycle}
use Rattle.sail_compile.proofs.CheckLemmas.{set-mapped}
use Rattle.sail_compile.proofs.checking.forget_cycles.Goals as goal

pub loop-function-preserved : goal.loop-function-preserved
loop-function-preserved c =
    let i = c.loop-function.function-index in
    let functions = c.args.functions.now in
    let function = c.function-item.result in
    let new = c.forget_cycle.new.function in
    ap (λ fs. slice_set fs i new) c.loop-function.invariant
    ∙ set-mapped without_cycle functions i function new c.loop-function-test.true (c.function-item.is ∙ ap (λ fs. get_or fs i function)
    c.loop-function.invariant) (c.forget_cycle.ensures ∙ ap without_cycle (sym c.function-item.is))
    ∙ (λ j. map without_cycle (take (sym (add-one i) j) functions) ++ drop (sym (add-one i) j) functions)
