use Rattle.std.proofs.Common.{◌≡◌, [], ◌++◌, ◌∙◌}
use Rattle.shape_models.specs.Models.{overloads_faults}
use Rattle.shape_models.specs.Sources.{tabled_by}
use Rattle.shapes.specs.Failures.{own_in, all_lets, lets_faults}
use Rattle.shapes.specs.Resolved.{in_text_order, all_openings}
use Rattle.shapes.specs.Parts.{all_others_faults}
use Rattle.shapes.proofs.Steps.{noted_then}
use Rattle.shapes.proofs.resolving.read_model.Goals as goal

pub returns-clause-core : goal.returns-clause-core
returns-clause-core c = λ text end are.
    let tabled = tabled_by c.args.top.source in
    let all = c.args.top.source.definitions.now in
    let state = c.in_ok-others.ensures.state in
    let openings : c.in_ok-openings.openings ≡ all_openings tabled (own_in tabled all) all (all_lets tabled all) =
    c.in_ok-openings.ensures ∙ (λ i. in_text_order all (c.in_ok-lets.ensures.openings i) (state.initials i)) in
    (λ i. record {
      types = c.args.top.source.types.now;
      exception = c.find_exception.ensures i;
      registers = state.registers i;
      register_texts = state.texts i;
      functions = c.in_ok-others.ensures.functions text end are i;
      directions = c.in_ok-others.ensures.directions i;
      openings = openings i;
      reset = c.in_ok-reset.ensures i;
      step = c.in_ok-step.ensures i;
    })

pub returns-clause-failures : goal.returns-clause-failures
returns-clause-failures c =
    let tabled = tabled_by c.args.top.source in
    let text = c.args.top.source.definitions.now in
    let own = own_in tabled text in
    let found = c.find_meanings.new.first.error in
    let lets = lets_faults tabled own text [] text in
    let others = all_others_faults tabled text in
    let overloads = overloads_faults tabled.types own text in
    let kept = c.args.first.now.error in
    noted_then kept c.read_lets.new.first.error c.read_others.new.first.error (overloads ++ lets) others
    (noted_then kept found c.read_lets.new.first.error overloads lets c.in_ok-meanings.ensures.failures c.in_ok-lets.ensures.failures)
    c.in_ok-others.ensures.failures
