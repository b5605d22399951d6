use Rattle.std.proofs.Common.{◌∙◌, ◌++◌, ◌∷◌, [], ap, sym, add-one, replicate}
use Rattle.value_indices.specs.declared.indices.Reading.{Reading}
use Rattle.call_arguments.specs.Aims.{aimed}
use Rattle.call_arguments.specs.declared.aims.Aim.TheVariants as Aims
use Rattle.expression_steps.proofs.Rows.{one_more_of}
use Rattle.expression_steps.proofs.aims.repeated.Goals as goal

pub loop-index-preserved : goal.loop-index-preserved
loop-index-preserved c =
    let k = c.loop-index.index in let x = aimed Aims.Due c.args.reading.now in
    let item = c.due.ensures ∙ ap (λ (r : Reading). aimed Aims.Due r) c.in_ok-copy_reading.ensures in
    c.in_ok-push.ensures.pushed ∙ (λ j. c.loop-index.invariant j ++ item j ∷ []) ∙ sym (one_more_of k x) ∙ ap (λ n. replicate n x) (sym (add-one k))
