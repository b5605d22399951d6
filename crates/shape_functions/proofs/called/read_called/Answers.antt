use Rattle.std.proofs.Common.{ap, map, List, ◌++◌, ◌∙◌}
use Rattle.sail_kinds.specs.declared.scope.Variable.{Variable}
use Rattle.sail_core.specs.declared.model.Function.{Function}
use Rattle.shape_rules.specs.Findings.{first_failure}
use Rattle.shape_rules.specs.Scopes.{Setting}
use Rattle.shape_rules.specs.Written.{joined}
use Rattle.shape_models.specs.Sources.{tabled_by}
use Rattle.shape_clauses.specs.Functions.{called_faults, functions_of, cycle_in}
use Rattle.shape_functions.specs.Parts.{held_setting}
use Rattle.shape_functions.proofs.Settings.{settings_are}
use Rattle.shape_functions.proofs.called.read_called.Goals as goal

pub returns-clause-functions : goal.returns-clause-functions
returns-clause-functions c = λ own lets text end m t.
    let all = c.args.source.now.definitions.now in
    c.in_ok-push_each.ensures.functions text end t
    ∙ ap (λ (before : List Function). before ++ joined (map (functions_of (tabled_by c.args.source.now) all
    (held_setting c.args.source.now c.args.meanings.now) (cycle_in c.args.tables.now text)) all)) c.new-functions.ensures
    ∙ ap (λ (s : List Variable → Setting). joined (map (functions_of (tabled_by c.args.source.now) all s (cycle_in c.args.tables.now text)) all))
    (settings_are c.args.source.now c.args.meanings.now own lets m)

pub returns-clause-failures : goal.returns-clause-failures
returns-clause-failures c = λ own lets m.
    let all = c.args.source.now.definitions.now in
    c.in_ok-push_each.ensures.failures
    ∙ ap (λ (s : List Variable → Setting). first_failure c.args.first.now.error (joined (map (called_faults (tabled_by c.args.source.now) s) all)))
    (settings_are c.args.source.now c.args.meanings.now own lets m)
