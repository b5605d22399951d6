use Rattle.std.proofs.Common.{[], ◌++◌, map, ap, ◌∙◌}
use Rattle.shape_rules.specs.Findings.{first_failure}
use Rattle.shape_rules.specs.Scopes.{Setting}
use Rattle.shape_rules.specs.Written.{joined}
use Rattle.shape_models.specs.Sources.{tabled_by}
use Rattle.shape_declarations.specs.Failures.{types_faults}
use Rattle.shape_clauses.specs.Functions.{called_faults}
use Rattle.shape_clauses.specs.Mappings.{mapping_faults, directions_of}
use Rattle.shapes.specs.Failures.{own_in, all_lets, state_faults}
use Rattle.shapes.specs.Resolved.{register_of, register_text_of, initials_openings}
use Rattle.shapes.specs.Parts.{setting_in}
use Rattle.shapes.proofs.Steps.{noted_then}
use Rattle.shapes.proofs.resolving.read_others.Goals as goal

pub read_mappings-requires-clause-scope : goal.read_mappings-requires-clause-scope
read_mappings-requires-clause-scope c =
    let tabled = tabled_by c.args.top.source in
    let text = c.args.top.source.definitions.now in
    ap (λ (s : Setting). s.within) (c.around_top-around.ensures (own_in tabled text) (all_lets tabled text) c.requires.meanings)

pub returns-clause-functions : goal.returns-clause-functions
returns-clause-functions c = λ text end are.
    let tabled = tabled_by c.args.top.source in
    let all = c.args.top.source.definitions.now in
    c.in_ok-functions.ensures.functions (own_in tabled all) (all_lets tabled all) text end c.requires.meanings are

pub returns-clause-directions : goal.returns-clause-directions
returns-clause-directions c =
    let tabled = tabled_by c.args.top.source in
    let text = c.args.top.source.definitions.now in
    c.in_ok-directions.ensures.directions
    ∙ ap (λ (s : Setting). joined (map (directions_of tabled s) text))
    (c.around_top-around.ensures (own_in tabled text) (all_lets tabled text) c.requires.meanings)

pub returns-clause-state : goal.returns-clause-state
returns-clause-state c =
    let tabled = tabled_by c.args.top.source in
    let text = c.args.top.source.definitions.now in
    let same = c.around_top-around.ensures (own_in tabled text) (all_lets tabled text) c.requires.meanings in record {
      registers = c.in_ok-state.ensures.registers ∙ ap (λ (s : Setting). joined (map (register_of s) text)) same;
      texts = c.in_ok-state.ensures.texts ∙ ap (λ (s : Setting). joined (map (register_text_of s) text)) same;
      initials = c.in_ok-state.ensures.initials ∙ ap (λ (s : Setting). initials_openings s 0 text) same;
    }

pub returns-clause-failures : goal.returns-clause-failures
returns-clause-failures c =
    let tabled = tabled_by c.args.top.source in
    let text = c.args.top.source.definitions.now in
    let own = own_in tabled text in
    let lets = all_lets tabled text in
    let same = c.around_top-around.ensures own lets c.requires.meanings in
    let mappings = joined (map (mapping_faults tabled (setting_in tabled text [])) text) in
    let state = joined (map (state_faults (setting_in tabled text [])) text) in
    let called = joined (map (called_faults tabled (setting_in tabled text)) text) in
    let noted = c.note_types.new.first.error in
    let read = c.read_called.new.first.error in
    let mapped = c.read_mappings.new.first.error in
    let types = types_faults tabled text in
    let kept = c.args.first.now.error in
    noted_then kept mapped c.read_state.new.first.error ((types ++ called) ++ mappings) state
    (noted_then kept read mapped (types ++ called) mappings
    (noted_then kept noted read types called c.in_ok-note_types.ensures (c.in_ok-functions.ensures.failures own lets c.requires.meanings))
    (c.in_ok-directions.ensures.failures
    ∙ ap (λ (s : Setting). first_failure read (joined (map (mapping_faults tabled s) text))) same))
    (c.in_ok-state.ensures.failures ∙ ap (λ (s : Setting). first_failure mapped (joined (map (state_faults s) text))) same)
