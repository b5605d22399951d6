use Rattle.std.proofs.Common.{cond, bytes_eq, [], sym, ap, ◌∙◌}
use Rattle.std.specs.HashMap.{get_by_text}
use Rattle.shape_models.specs.Models.{or_overload, candidates}
use Rattle.shape_models.proofs.Steps.{or_named_more}
use Rattle.shape_models.proofs.overloads.put_named.Goals as goal

pub loop-overload-preserved : goal.loop-overload-preserved
loop-overload-preserved c =
    let o = c.in-Some.overload in
    λ name. c.in_ok-put_overload.ensures name
    ∙ ap (λ old. or_overload old (cond (bytes_eq o.name name) (candidates o.added) [])) (c.loop-overload.invariant name)
    ∙ sym (or_named_more (get_by_text c.args.values.now name) c.loop-overload.yielded o name)
