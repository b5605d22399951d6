use Rattle.std.proofs.Common.{◌≡◌, List, refl, ap, ◌∙◌}
use Rattle.shape_rules.specs.declared.error.ShapeError.{ShapeError}
use Rattle.shape_rules.specs.Findings.{first_failure}
use Rattle.shape_models.specs.declared.overloads.Overload.{Overload}
use Rattle.shape_models.specs.Models.{named_faults}
use Rattle.shape_models.specs.Overloads.{overload_faults}
use Rattle.shape_models.proofs.Steps.{noted_at}
use Rattle.shape_models.proofs.overloads.note_named.Goals as goal

pub loop-overload-preserved : goal.loop-overload-preserved
loop-overload-preserved c =
    let kept = c.loop-overload.first.error in
    let one : Overload → List ShapeError = λ o. overload_faults o.added in
    noted_at (λ (os : List Overload). named_faults os) one (λ x xs. refl) c.args.named.now c.loop-overload.overload-index c.overload-item.result kept
    c.note_overload.new.first.error (first_failure c.args.first.now.error (named_faults c.args.named.now)) c.loop-overload-test.true
    (c.in_ok-note_overload.ensures ∙ ap (λ (o : Overload). first_failure kept (one o)) c.overload-item.is) c.loop-overload.invariant
