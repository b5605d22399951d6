use Rattle.std.proofs.Common.{◌≡◌, ◌++◌, map, drop}
use Rattle.sail_names.specs.Known.{known_of}
use Rattle.sail_names.specs.Patterns.{joined}
use Rattle.sail_cycles.specs.Callees as spec
use Rattle.sail_cycles.proofs.expressions.+callees.Given as goal

abbrev pub invariant-push_expressions-loop-expression : goal.invariant-push_expressions-loop-expression
invariant-push_expressions-loop-expression l =
    l.list ++ joined (map (spec.expression_callees l.which (known_of l.names)) (drop l.expression-index l.expressions))
    ≡ l.initial.list ++ joined (map (spec.expression_callees l.which (known_of l.names)) l.expressions)

abbrev pub invariant-push_suffixes-loop-suffix : goal.invariant-push_suffixes-loop-suffix
invariant-push_suffixes-loop-suffix l = l.list ++ joined (map (spec.suffix_callees l.which (known_of l.names)) (drop l.suffix-index l.suffixes))
    ≡ l.initial.list ++ joined (map (spec.suffix_callees l.which (known_of l.names)) l.suffixes)

abbrev pub invariant-push_further-loop-further : goal.invariant-push_further-loop-further
invariant-push_further-loop-further l = l.list ++ joined (map (spec.further_callees l.which (known_of l.names)) (drop l.further-index l.targets))
    ≡ l.initial.list ++ joined (map (spec.further_callees l.which (known_of l.names)) l.targets)

abbrev pub invariant-push_targets-loop-target : goal.invariant-push_targets-loop-target
invariant-push_targets-loop-target l = l.list ++ joined (map (spec.target_callees l.which (known_of l.names)) (drop l.target-index l.targets))
    ≡ l.initial.list ++ joined (map (spec.target_callees l.which (known_of l.names)) l.targets)

abbrev pub invariant-push_statements-loop-statement : goal.invariant-push_statements-loop-statement
invariant-push_statements-loop-statement l = l.list ++ joined (map (spec.statement_callees l.which (known_of l.names)) (drop l.statement-index l.statements))
    ≡ l.initial.list ++ joined (map (spec.statement_callees l.which (known_of l.names)) l.statements)

abbrev pub invariant-push_cases-loop-case : goal.invariant-push_cases-loop-case
invariant-push_cases-loop-case l = l.list ++ joined (map (spec.case_callees l.which (known_of l.names)) (drop l.case-index l.cases))
    ≡ l.initial.list ++ joined (map (spec.case_callees l.which (known_of l.names)) l.cases)

abbrev pub invariant-push_fields-loop-field : goal.invariant-push_fields-loop-field
invariant-push_fields-loop-field l = l.list ++ joined (map (spec.field_callees l.which (known_of l.names)) (drop l.field-index l.fields))
    ≡ l.initial.list ++ joined (map (spec.field_callees l.which (known_of l.names)) l.fields)
