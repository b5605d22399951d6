use Rattle.std.proofs.Common.{[], ◌∷◌, ◌++◌, sym, ap, ◌∙◌}
use Rattle.sail_syntax.specs.declared.definitions.Def.{Def}
use Rattle.shape_rules.specs.Findings.{first_failure}
use Rattle.shape_models.specs.Sources.{tabled_by}
use Rattle.written_types.proofs.Rows.{on_ok}
use Rattle.shapes.specs.Failures.{let_bound, let_binds, let_faults}
use Rattle.shapes.specs.Resolved.{binding_opening, let_openings}
use Rattle.shapes.proofs.lets.read_definition.Goals as goal

pub returns-in_ok-opening-in-Let-clause-openings : goal.returns-in_ok-opening-in-Let-clause-openings
returns-in_ok-opening-in-Let-clause-openings c =
    let tabled = tabled_by c.args.top.source in
    let text = c.args.top.source.definitions.now in
    let before = c.args.openings.now in
    on_ok c.push.result (λ pushed own lets are.
    pushed ∙ (λ i. before ++ c.in_ok-opening-in-Let.ensures.opening i ∷ [])
    ∙ (λ i. before ++ binding_opening c.in-Let.place
    (let_bound (c.around_top-around.ensures own lets are i) c.in-Let.place c.in-Let.pattern (c.get.ensures i)) ∷ [])
    ∙ sym (ap (λ (d : Def). before ++ let_openings tabled own text lets d) c.in-Let.is)) c.push.ensures.pushed

pub returns-in_ok-opening-in-Let-clause-binds : goal.returns-in_ok-opening-in-Let-clause-binds
returns-in_ok-opening-in-Let-clause-binds c =
    let tabled = tabled_by c.args.top.source in
    let text = c.args.top.source.definitions.now in
    let before = c.args.binds.now in
    on_ok c.push.result (λ pushed own lets are.
    c.in_ok-opening-in-Let.ensures.binds
    ∙ (λ i. before ++ (let_bound (c.around_top-around.ensures own lets are i) c.in-Let.place c.in-Let.pattern (c.get.ensures i)).binds)
    ∙ sym (ap (λ (d : Def). before ++ let_binds tabled own text lets d) c.in-Let.is)) c.push.ensures.pushed

pub returns-in_ok-opening-in-Let-clause-failures : goal.returns-in_ok-opening-in-Let-clause-failures
returns-in_ok-opening-in-Let-clause-failures c =
    let tabled = tabled_by c.args.top.source in
    let text = c.args.top.source.definitions.now in
    let kept = c.args.first.now.error in
    on_ok c.push.result (λ pushed own lets are.
    c.in_ok-opening-in-Let.ensures.failures
    ∙ (λ i. first_failure kept
    (let_bound (c.around_top-around.ensures own lets are i) c.in-Let.place c.in-Let.pattern (c.get.ensures i)).faults)
    ∙ sym (ap (λ (d : Def). first_failure kept (let_faults tabled own text lets d)) c.in-Let.is)) c.push.ensures.pushed
