use Rattle.std.proofs.Common.{◌≡◌, ◌++◌, map, drop}
use Rattle.sail_names.specs.Known.{setting_of}
use Rattle.sail_names.specs.Uses as spec
use Rattle.used_names.specs.parts.Scopes.{IsInside}
use Rattle.used_names.proofs.expressions.+uses.Given as goal

abbrev pub invariant-push_expressions-loop-expression : goal.invariant-push_expressions-loop-expression
invariant-push_expressions-loop-expression l = (l.locals ≡ l.initial.locals)
    × (l.failures ++ spec.each (map spec.expression_failures (drop l.expression-index l.expressions)) (setting_of l.around) l.initial.locals
    ≡ l.initial.failures ++ spec.each (map spec.expression_failures l.expressions) (setting_of l.around) l.initial.locals)

abbrev pub invariant-push_suffixes-loop-suffix : goal.invariant-push_suffixes-loop-suffix
invariant-push_suffixes-loop-suffix l = (l.locals ≡ l.initial.locals)
    × (l.failures ++ spec.each (map spec.suffix_failures (drop l.suffix-index l.suffixes)) (setting_of l.around) l.initial.locals
    ≡ l.initial.failures ++ spec.each (map spec.suffix_failures l.suffixes) (setting_of l.around) l.initial.locals)

abbrev pub invariant-push_further-loop-further : goal.invariant-push_further-loop-further
invariant-push_further-loop-further l = (l.locals ≡ l.initial.locals)
    × (l.failures ++ spec.each (map spec.further_failures (drop l.further-index l.targets)) (setting_of l.around) l.initial.locals
    ≡ l.initial.failures ++ spec.each (map spec.further_failures l.targets) (setting_of l.around) l.initial.locals)

abbrev pub invariant-push_targets-loop-target : goal.invariant-push_targets-loop-target
invariant-push_targets-loop-target l = (l.locals ≡ l.initial.locals)
    × (l.failures ++ spec.each (map spec.target_failures (drop l.target-index l.targets)) (setting_of l.around) l.initial.locals
    ≡ l.initial.failures ++ spec.each (map spec.target_failures l.targets) (setting_of l.around) l.initial.locals)

abbrev pub invariant-push_statements-loop-statement : goal.invariant-push_statements-loop-statement
invariant-push_statements-loop-statement l =
    let left = map spec.statement_step (drop l.statement-index l.statements) in
    let all = map spec.statement_step l.statements in
    let setting = setting_of l.around in
    IsInside l.locals l.initial.locals
    × (l.failures ++ (spec.steps left setting l.locals).failures ≡ l.initial.failures ++ (spec.steps all setting l.initial.locals).failures)
    × ((spec.steps left setting l.locals).locals ≡ (spec.steps all setting l.initial.locals).locals)

abbrev pub invariant-push_cases-loop-case : goal.invariant-push_cases-loop-case
invariant-push_cases-loop-case l = (l.locals ≡ l.initial.locals)
    × (l.failures ++ spec.each (map spec.case_failures (drop l.case-index l.cases)) (setting_of l.around) l.initial.locals
    ≡ l.initial.failures ++ spec.each (map spec.case_failures l.cases) (setting_of l.around) l.initial.locals)

abbrev pub invariant-push_fields-loop-field : goal.invariant-push_fields-loop-field
invariant-push_fields-loop-field l = (l.locals ≡ l.initial.locals)
    × (l.failures ++ spec.fields_failures (map spec.field_of (drop l.field-index l.fields)) (setting_of l.around) l.initial.locals
    ≡ l.initial.failures ++ spec.fields_failures (map spec.field_of l.fields) (setting_of l.around) l.initial.locals)
