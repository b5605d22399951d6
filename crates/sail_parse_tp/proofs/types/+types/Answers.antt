use Rattle.std.proofs.Common.{◌++◌, [], ◌∷◌, sym, ◌∙◌, arith}
use Rattle.sail_grammar.proofs.Steps.{exit_stop, pass_ok, pass_stop, stops_row, stops_first, stops_next, some_stops, more_stops, onward_start, onward_step}
use Rattle.sail_parse_tp.proofs.TypeRows.{
  typ_some,
  typ_none,
  and_some,
  and_none,
  comparison_some,
  comparison_set,
  comparison_set_stops,
  sum_all,
  sum_some,
  sum_none,
  product_all,
  product_some,
  product_none,
  atom_named,
  atom_named_stops,
  atom_variable,
  atom_variable_stops,
  atom_power,
  atom_power_stops,
  atom_decimal,
  atom_decimal_stops,
  atom_negation,
  atom_negation_stops,
  atom_truth,
  atom_truth_stops,
  atom_not,
  atom_not_stops,
  atom_group,
  atom_group_stops,
  atom_exists,
  atom_exists_stops,
  named_some,
  named_none,
  power_some,
  power_none,
  negation_all,
  not_all,
  group_all,
  exists_all,
  constraint_some,
  constraint_none,
  types_all,
  types_more,
  types_none,
  types_more_stops,
  types_comma_stops,
}
use Rattle.sail_parse_tp.proofs.types.+types.Goals as goal

pub typ-returns-in_err-left-clause-stop : goal.typ-returns-in_err-left-clause-stop
typ-returns-in_err-left-clause-stop t c = exit_stop _ c.from_residual.ensures.1 (stops_row (stops_first c.in_err-left.ensures.stop))

pub typ-returns-in_err-right-in-Some-clause-stop : goal.typ-returns-in_err-right-in-Some-clause-stop
typ-returns-in_err-right-in-Some-clause-stop t c = exit_stop _ c.from_residual-in_err-right-in-Some.ensures.1 (stops_row (some_stops
    c.in_ok-left.ensures.read.ends c.in-Some.ensures.read c.in_err-right-in-Some.ensures.stop))

pub typ-returns-in_ok-both-in-Some-clause-read : goal.typ-returns-in_ok-both-in-Some-clause-read
typ-returns-in_ok-both-in-Some-clause-read t c = typ_some c.in_ok-left.ensures.read c.in-Some.ensures.read c.in_ok-right-in-Some.ensures.read
    c.in_ok-both-in-Some.ensures

pub typ-returns-in-None-clause-read : goal.typ-returns-in-None-clause-read
typ-returns-in-None-clause-read t c = typ_none c.in_ok-left.ensures.read c.in-None.ensures.read

pub type_and-returns-in_err-left-clause-stop : goal.type_and-returns-in_err-left-clause-stop
type_and-returns-in_err-left-clause-stop t c = exit_stop _ c.from_residual.ensures.1 (stops_row (stops_first c.in_err-left.ensures.stop))

pub type_and-returns-in_err-right-in-Some-clause-stop : goal.type_and-returns-in_err-right-in-Some-clause-stop
type_and-returns-in_err-right-in-Some-clause-stop t c = exit_stop _ c.from_residual-in_err-right-in-Some.ensures.1 (stops_row (some_stops
    c.in_ok-left.ensures.read.ends c.in-Some.ensures.read c.in_err-right-in-Some.ensures.stop))

pub type_and-returns-in_ok-both-in-Some-clause-read : goal.type_and-returns-in_ok-both-in-Some-clause-read
type_and-returns-in_ok-both-in-Some-clause-read t c = and_some c.in_ok-left.ensures.read c.in-Some.ensures.read c.in_ok-right-in-Some.ensures.read
    c.in_ok-both-in-Some.ensures

pub type_and-returns-in-None-clause-read : goal.type_and-returns-in-None-clause-read
type_and-returns-in-None-clause-read t c = and_none c.in_ok-left.ensures.read c.in-None.ensures.read

pub comparison-returns-in_err-left-clause-stop : goal.comparison-returns-in_err-left-clause-stop
comparison-returns-in_err-left-clause-stop t c = exit_stop _ c.from_residual.ensures.1 (stops_row (stops_first c.in_err-left.ensures.stop))

pub comparison-returns-in_err-right-in-Some-clause-stop : goal.comparison-returns-in_err-right-in-Some-clause-stop
comparison-returns-in_err-right-in-Some-clause-stop t c = exit_stop _ c.from_residual-in_err-right-in-Some.ensures.1 (stops_row (some_stops
    c.in_ok-left.ensures.read.ends c.in-Some.ensures.read c.in_err-right-in-Some.ensures.stop))

pub comparison-returns-in_ok-both-in-Some-clause-read : goal.comparison-returns-in_ok-both-in-Some-clause-read
comparison-returns-in_ok-both-in-Some-clause-read t c = comparison_some c.in_ok-left.ensures.read c.in-Some.ensures.read
    c.in_ok-right-in-Some.ensures.read c.operator-operator.ensures c.in_ok-both-in-Some.ensures

pub comparison-returns-in-None-clause-read : goal.comparison-returns-in-None-clause-read
comparison-returns-in-None-clause-read t c = pass_ok _ c.in_set.ensures.read (λ x r. comparison_set c.in_ok-left.ensures.read c.in-None.ensures.read r)

pub comparison-returns-in-None-clause-stop : goal.comparison-returns-in-None-clause-stop
comparison-returns-in-None-clause-stop t c = pass_stop _ c.in_set.ensures.stop (λ e s. comparison_set_stops c.in_ok-left.ensures.read
    c.in-None.ensures.read s)

pub sum-returns-in_err-first-clause-stop : goal.sum-returns-in_err-first-clause-stop
sum-returns-in_err-first-clause-stop t c = exit_stop _ c.from_residual.ensures.1 (stops_row (stops_first c.in_err-first.ensures.stop))

pub sum-returns-clause-read : goal.sum-returns-clause-read
sum-returns-clause-read t c = pass_ok _ c.sum_more.ensures.read (λ x r. sum_all c.in_ok-first.ensures.read r)

pub sum-returns-clause-stop : goal.sum-returns-clause-stop
sum-returns-clause-stop t c = pass_stop _ c.sum_more.ensures.stop (λ e s. stops_row (stops_next c.in_ok-first.ensures.read.ends s))

pub product-returns-in_err-first-clause-stop : goal.product-returns-in_err-first-clause-stop
product-returns-in_err-first-clause-stop t c = exit_stop _ c.from_residual.ensures.1 (stops_row (stops_first c.in_err-first.ensures.stop))

pub product-returns-clause-read : goal.product-returns-clause-read
product-returns-clause-read t c = pass_ok _ c.product_more.ensures.read (λ x r. product_all c.in_ok-first.ensures.read r)

pub product-returns-clause-stop : goal.product-returns-clause-stop
product-returns-clause-stop t c = pass_stop _ c.product_more.ensures.stop (λ e s. stops_row (stops_next c.in_ok-first.ensures.read.ends s))

pub sum_more-returns-in_err-right-in-Some-clause-stop : goal.sum_more-returns-in_err-right-in-Some-clause-stop
sum_more-returns-in_err-right-in-Some-clause-stop t c = exit_stop _ c.from_residual.ensures.1 (stops_row (more_stops c.in-Some.ensures.read
    (stops_first c.in_err-right-in-Some.ensures.stop)))

pub sum_more-returns-in_ok-both-in-Some-clause-read : goal.sum_more-returns-in_ok-both-in-Some-clause-read
sum_more-returns-in_ok-both-in-Some-clause-read t c = pass_ok _ c.sum_more.ensures.read (λ x r. sum_some c.in-Some.ensures.read
    c.in_ok-right-in-Some.ensures.read c.operator-operator.ensures c.in_ok-both-in-Some.ensures r)

pub sum_more-returns-in_ok-both-in-Some-clause-stop : goal.sum_more-returns-in_ok-both-in-Some-clause-stop
sum_more-returns-in_ok-both-in-Some-clause-stop t c = pass_stop _ c.sum_more.ensures.stop (λ e s. stops_row (more_stops c.in-Some.ensures.read
    (stops_next c.in_ok-right-in-Some.ensures.read.ends s)))

pub sum_more-returns-in-None-clause-read : goal.sum_more-returns-in-None-clause-read
sum_more-returns-in-None-clause-read t c = sum_none c.in-None.ensures.read

pub product_more-returns-in_err-right-in-Some-clause-stop : goal.product_more-returns-in_err-right-in-Some-clause-stop
product_more-returns-in_err-right-in-Some-clause-stop t c = exit_stop _ c.from_residual.ensures.1 (stops_row (more_stops c.in-Some.ensures.read
    (stops_first c.in_err-right-in-Some.ensures.stop)))

pub product_more-returns-in_ok-both-in-Some-clause-read : goal.product_more-returns-in_ok-both-in-Some-clause-read
product_more-returns-in_ok-both-in-Some-clause-read t c = pass_ok _ c.product_more.ensures.read (λ x r. product_some c.in-Some.ensures.read
    c.in_ok-right-in-Some.ensures.read c.in_ok-both-in-Some.ensures r)

pub product_more-returns-in_ok-both-in-Some-clause-stop : goal.product_more-returns-in_ok-both-in-Some-clause-stop
product_more-returns-in_ok-both-in-Some-clause-stop t c = pass_stop _ c.product_more.ensures.stop (λ e s. stops_row (more_stops
    c.in-Some.ensures.read (stops_next c.in_ok-right-in-Some.ensures.read.ends s)))

pub product_more-returns-in-None-clause-read : goal.product_more-returns-in-None-clause-read
product_more-returns-in-None-clause-read t c = product_none c.in-None.ensures.read

pub atom-returns-then-sees_identifier-clause-read : goal.atom-returns-then-sees_identifier-clause-read
atom-returns-then-sees_identifier-clause-read t c = pass_ok _ c.named.ensures.read (λ x r. atom_named (sym c.sees_identifier.ensures ∙
    c.if-sees_identifier.true) r)

pub atom-returns-then-sees_identifier-clause-stop : goal.atom-returns-then-sees_identifier-clause-stop
atom-returns-then-sees_identifier-clause-stop t c = pass_stop _ c.named.ensures.stop (λ e s. atom_named_stops (sym c.sees_identifier.ensures ∙
    c.if-sees_identifier.true) s)

pub atom-returns-then-sees-clause-read : goal.atom-returns-then-sees-clause-read
atom-returns-then-sees-clause-read t c = pass_ok _ c.variable.ensures.read (λ x r. atom_variable (sym c.sees.ensures ∙ c.if-sees.true) r)

pub atom-returns-then-sees-clause-stop : goal.atom-returns-then-sees-clause-stop
atom-returns-then-sees-clause-stop t c = pass_stop _ c.variable.ensures.stop (λ e s. atom_variable_stops (sym c.sees.ensures ∙ c.if-sees.true) s)

pub atom-returns-then-sees_two-clause-read : goal.atom-returns-then-sees_two-clause-read
atom-returns-then-sees_two-clause-read t c = pass_ok _ c.power.ensures.read (λ x r. atom_power (sym c.sees_two.ensures ∙ c.if-sees_two.true) r)

pub atom-returns-then-sees_two-clause-stop : goal.atom-returns-then-sees_two-clause-stop
atom-returns-then-sees_two-clause-stop t c = pass_stop _ c.power.ensures.stop (λ e s. atom_power_stops (sym c.sees_two.ensures ∙ c.if-sees_two.true) s)

pub atom-returns-then-sees-2-clause-read : goal.atom-returns-then-sees-2-clause-read
atom-returns-then-sees-2-clause-read t c = pass_ok _ c.decimal.ensures.read (λ x r. atom_decimal (sym c.sees-else-sees_two.ensures ∙ c.if-sees-2.true) r)

pub atom-returns-then-sees-2-clause-stop : goal.atom-returns-then-sees-2-clause-stop
atom-returns-then-sees-2-clause-stop t c = pass_stop _ c.decimal.ensures.stop (λ e s. atom_decimal_stops (sym c.sees-else-sees_two.ensures ∙
    c.if-sees-2.true) s)

pub atom-returns-then-sees-3-clause-read : goal.atom-returns-then-sees-3-clause-read
atom-returns-then-sees-3-clause-read t c = pass_ok _ c.negation.ensures.read (λ x r. atom_negation (sym c.sees-else-sees-2.ensures ∙ c.if-sees-3.true) r)

pub atom-returns-then-sees-3-clause-stop : goal.atom-returns-then-sees-3-clause-stop
atom-returns-then-sees-3-clause-stop t c = pass_stop _ c.negation.ensures.stop (λ e s. atom_negation_stops (sym c.sees-else-sees-2.ensures ∙
    c.if-sees-3.true) s)

pub atom-returns-then-sees_any-clause-read : goal.atom-returns-then-sees_any-clause-read
atom-returns-then-sees_any-clause-read t c = pass_ok _ c.truth.ensures.read (λ x r. atom_truth (sym c.sees_any.ensures ∙ c.if-sees_any.true) r)

pub atom-returns-then-sees_any-clause-stop : goal.atom-returns-then-sees_any-clause-stop
atom-returns-then-sees_any-clause-stop t c = pass_stop _ c.truth.ensures.stop (λ e s. atom_truth_stops (sym c.sees_any.ensures ∙ c.if-sees_any.true) s)

pub atom-returns-then-sees-4-clause-read : goal.atom-returns-then-sees-4-clause-read
atom-returns-then-sees-4-clause-read t c = pass_ok _ c.not.ensures.read (λ x r. atom_not (sym c.sees-else-sees_any.ensures ∙ c.if-sees-4.true) r)

pub atom-returns-then-sees-4-clause-stop : goal.atom-returns-then-sees-4-clause-stop
atom-returns-then-sees-4-clause-stop t c = pass_stop _ c.not.ensures.stop (λ e s. atom_not_stops (sym c.sees-else-sees_any.ensures ∙ c.if-sees-4.true) s)

pub atom-returns-then-sees-5-clause-read : goal.atom-returns-then-sees-5-clause-read
atom-returns-then-sees-5-clause-read t c = pass_ok _ c.group.ensures.read (λ x r. atom_group (sym c.sees-else-sees-4.ensures ∙ c.if-sees-5.true) r)

pub atom-returns-then-sees-5-clause-stop : goal.atom-returns-then-sees-5-clause-stop
atom-returns-then-sees-5-clause-stop t c = pass_stop _ c.group.ensures.stop (λ e s. atom_group_stops (sym c.sees-else-sees-4.ensures ∙ c.if-sees-5.true) s)

pub atom-returns-else-sees-5-clause-read : goal.atom-returns-else-sees-5-clause-read
atom-returns-else-sees-5-clause-read t c = pass_ok _ c.exists.ensures.read (λ x r. atom_exists (sym c.sees_identifier.ensures ∙
    c.if-sees_identifier.false) (sym c.sees.ensures ∙ c.if-sees.false) (sym c.sees_two.ensures ∙
    c.if-sees_two.false) (sym c.sees-else-sees_two.ensures ∙ c.if-sees-2.false) (sym c.sees-else-sees-2.ensures ∙
    c.if-sees-3.false) (sym c.sees_any.ensures ∙ c.if-sees_any.false) (sym c.sees-else-sees_any.ensures ∙
    c.if-sees-4.false) (sym c.sees-else-sees-4.ensures ∙ c.if-sees-5.false) r)

pub atom-returns-else-sees-5-clause-stop : goal.atom-returns-else-sees-5-clause-stop
atom-returns-else-sees-5-clause-stop t c = pass_stop _ c.exists.ensures.stop (λ e s. atom_exists_stops (sym c.sees_identifier.ensures ∙
    c.if-sees_identifier.false) (sym c.sees.ensures ∙ c.if-sees.false) (sym c.sees_two.ensures ∙
    c.if-sees_two.false) (sym c.sees-else-sees_two.ensures ∙ c.if-sees-2.false) (sym c.sees-else-sees-2.ensures ∙
    c.if-sees-3.false) (sym c.sees_any.ensures ∙ c.if-sees_any.false) (sym c.sees-else-sees_any.ensures ∙
    c.if-sees-4.false) (sym c.sees-else-sees-4.ensures ∙ c.if-sees-5.false) s)

pub named-returns-in_err-token-clause-stop : goal.named-returns-in_err-token-clause-stop
named-returns-in_err-token-clause-stop t c = exit_stop _ c.from_residual.ensures.1 (stops_row (stops_first c.in_err-token.ensures.stop))

pub named-returns-in_err-arguments-in-Some-clause-stop : goal.named-returns-in_err-arguments-in-Some-clause-stop
named-returns-in_err-arguments-in-Some-clause-stop t c = exit_stop _ c.from_residual-in_err-arguments-in-Some.ensures.1 (stops_row (some_stops
    c.in_ok-token.ensures.read c.in-Some.ensures.read (stops_first c.in_err-arguments-in-Some.ensures.stop)))

pub named-returns-in_err-rest-in-Some-clause-stop : goal.named-returns-in_err-rest-in-Some-clause-stop
named-returns-in_err-rest-in-Some-clause-stop t c = exit_stop _ c.from_residual-in_err-rest-in-Some.ensures.1 (stops_row (some_stops
    c.in_ok-token.ensures.read c.in-Some.ensures.read (stops_next c.in_ok-arguments-in-Some.ensures.read.ends c.in_err-rest-in-Some.ensures.stop)))

pub named-returns-in_ok-rest-in-Some-clause-read : goal.named-returns-in_ok-rest-in-Some-clause-read
named-returns-in_ok-rest-in-Some-clause-read t c = named_some c.in_ok-token.ensures.read c.in_ok-name.ensures c.in-Some.ensures.read
    c.in_ok-arguments-in-Some.ensures.read c.in_ok-rest-in-Some.ensures.read

pub named-returns-in-None-clause-read : goal.named-returns-in-None-clause-read
named-returns-in-None-clause-read t c = named_none c.in_ok-token.ensures.read c.in_ok-name.ensures c.in-None.ensures.read c.new.ensures

pub power-returns-in_err-base-clause-stop : goal.power-returns-in_err-base-clause-stop
power-returns-in_err-base-clause-stop t c = exit_stop _ c.from_residual.ensures.1 (stops_row (stops_first c.in_err-base.ensures.stop))

pub power-returns-in_err-exponent-in-Some-clause-stop : goal.power-returns-in_err-exponent-in-Some-clause-stop
power-returns-in_err-exponent-in-Some-clause-stop t c = exit_stop _ c.from_residual-in_err-exponent-in-Some.ensures.1 (stops_row (some_stops
    c.in_ok-base.ensures.read c.in-Some.ensures.read c.in_err-exponent-in-Some.ensures.stop))

pub power-returns-in_ok-power-in-Some-clause-read : goal.power-returns-in_ok-power-in-Some-clause-read
power-returns-in_ok-power-in-Some-clause-read t c = power_some c.in_ok-base.ensures.read c.in-Some.ensures.read c.in_ok-exponent-in-Some.ensures.read
    c.in_ok-power-in-Some.ensures

pub power-returns-in-None-clause-read : goal.power-returns-in-None-clause-read
power-returns-in-None-clause-read t c = power_none c.in_ok-base.ensures.read c.in-None.ensures.read c.number_type.ensures

pub negation-returns-in_err-sign-clause-stop : goal.negation-returns-in_err-sign-clause-stop
negation-returns-in_err-sign-clause-stop t c = exit_stop _ c.from_residual.ensures.1 (stops_row (stops_first c.in_err-sign.ensures.stop))

pub negation-returns-in_err-operand-clause-stop : goal.negation-returns-in_err-operand-clause-stop
negation-returns-in_err-operand-clause-stop t c = exit_stop _ c.from_residual-in_err-operand.ensures.1 (stops_row (stops_next
    c.in_ok-sign.ensures.read c.in_err-operand.ensures.stop))

pub negation-returns-clause-read : goal.negation-returns-clause-read
negation-returns-clause-read t c = negation_all c.in_ok-sign.ensures.read c.in_ok-operand.ensures.read c.in_ok-negation.ensures

pub not-returns-in_err-word-clause-stop : goal.not-returns-in_err-word-clause-stop
not-returns-in_err-word-clause-stop t c = exit_stop _ c.from_residual.ensures.1 (stops_row (stops_first c.in_err-word.ensures.stop))

pub not-returns-in_err-after_bracket-clause-stop : goal.not-returns-in_err-after_bracket-clause-stop
not-returns-in_err-after_bracket-clause-stop t c = exit_stop _ c.from_residual-in_err-after_bracket.ensures.1 (stops_row (stops_next
    c.in_ok-word.ensures.read (stops_first c.in_err-after_bracket.ensures.stop)))

pub not-returns-in_err-operand-clause-stop : goal.not-returns-in_err-operand-clause-stop
not-returns-in_err-operand-clause-stop t c = exit_stop _ c.from_residual-in_err-operand.ensures.1 (stops_row (stops_next c.in_ok-word.ensures.read
    (stops_next c.in_ok-after_bracket.ensures.read (stops_first c.in_err-operand.ensures.stop))))

pub not-returns-in_err-rest-clause-stop : goal.not-returns-in_err-rest-clause-stop
not-returns-in_err-rest-clause-stop t c = exit_stop _ c.from_residual-in_err-rest.ensures.1 (stops_row (stops_next c.in_ok-word.ensures.read
    (stops_next c.in_ok-after_bracket.ensures.read (stops_next c.in_ok-operand.ensures.read.ends (c.in_err-rest.ensures.stop)))))

pub not-returns-clause-read : goal.not-returns-clause-read
not-returns-clause-read t c = not_all c.in_ok-word.ensures.read c.in_ok-after_bracket.ensures.read c.in_ok-operand.ensures.read
    c.in_ok-rest.ensures.read c.in_ok-negation.ensures

pub group-returns-in_err-bracket-clause-stop : goal.group-returns-in_err-bracket-clause-stop
group-returns-in_err-bracket-clause-stop t c = exit_stop _ c.from_residual.ensures.1 (stops_row (stops_first c.in_err-bracket.ensures.stop))

pub group-returns-in_err-parts-clause-stop : goal.group-returns-in_err-parts-clause-stop
group-returns-in_err-parts-clause-stop t c = exit_stop _ c.from_residual-in_err-parts.ensures.1 (stops_row (stops_next c.in_ok-bracket.ensures.read
    (stops_first c.in_err-parts.ensures.stop)))

pub group-returns-in_err-rest-clause-stop : goal.group-returns-in_err-rest-clause-stop
group-returns-in_err-rest-clause-stop t c = exit_stop _ c.from_residual-in_err-rest.ensures.1 (stops_row (stops_next c.in_ok-bracket.ensures.read
    (stops_next c.in_ok-parts.ensures.read.ends (c.in_err-rest.ensures.stop))))

pub group-returns-clause-read : goal.group-returns-clause-read
group-returns-clause-read t c = group_all c.in_ok-bracket.ensures.read c.in_ok-parts.ensures.read c.in_ok-rest.ensures.read c.grouped.ensures

pub exists-returns-in_err-bracket-clause-stop : goal.exists-returns-in_err-bracket-clause-stop
exists-returns-in_err-bracket-clause-stop t c = exit_stop _ c.from_residual.ensures.1 (stops_row (stops_first c.in_err-bracket.ensures.stop))

pub exists-returns-in_err-token-clause-stop : goal.exists-returns-in_err-token-clause-stop
exists-returns-in_err-token-clause-stop t c = exit_stop _ c.from_residual-in_err-token.ensures.1 (stops_row (stops_next c.in_ok-bracket.ensures.read
    (stops_first c.in_err-token.ensures.stop)))

pub exists-returns-in_err-variables-clause-stop : goal.exists-returns-in_err-variables-clause-stop
exists-returns-in_err-variables-clause-stop t c = exit_stop _ c.from_residual-in_err-variables.ensures.1 (stops_row (stops_next
    c.in_ok-bracket.ensures.read (stops_next c.in_ok-token.ensures.read (stops_first c.in_err-variables.ensures.stop))))

pub exists-returns-in_err-constraint-clause-stop : goal.exists-returns-in_err-constraint-clause-stop
exists-returns-in_err-constraint-clause-stop t c = exit_stop _ c.from_residual-in_err-constraint.ensures.1 (stops_row (stops_next
    c.in_ok-bracket.ensures.read (stops_next c.in_ok-token.ensures.read (stops_next c.in_ok-variables.ensures.read.ends (stops_first
    c.in_err-constraint.ensures.stop)))))

pub exists-returns-in_err-after_dot-clause-stop : goal.exists-returns-in_err-after_dot-clause-stop
exists-returns-in_err-after_dot-clause-stop t c = exit_stop _ c.from_residual-in_err-after_dot.ensures.1 (stops_row (stops_next
    c.in_ok-bracket.ensures.read (stops_next c.in_ok-token.ensures.read (stops_next c.in_ok-variables.ensures.read.ends (stops_next
    c.in_ok-constraint.ensures.read.ends (stops_first c.in_err-after_dot.ensures.stop))))))

pub exists-returns-in_err-part-clause-stop : goal.exists-returns-in_err-part-clause-stop
exists-returns-in_err-part-clause-stop t c = exit_stop _ c.from_residual-in_err-part.ensures.1 (stops_row (stops_next c.in_ok-bracket.ensures.read
    (stops_next c.in_ok-token.ensures.read (stops_next c.in_ok-variables.ensures.read.ends (stops_next c.in_ok-constraint.ensures.read.ends
    (stops_next c.in_ok-after_dot.ensures.read (stops_first c.in_err-part.ensures.stop)))))))

pub exists-returns-in_err-rest-clause-stop : goal.exists-returns-in_err-rest-clause-stop
exists-returns-in_err-rest-clause-stop t c = exit_stop _ c.from_residual-in_err-rest.ensures.1 (stops_row (stops_next c.in_ok-bracket.ensures.read
    (stops_next c.in_ok-token.ensures.read (stops_next c.in_ok-variables.ensures.read.ends (stops_next c.in_ok-constraint.ensures.read.ends
    (stops_next c.in_ok-after_dot.ensures.read (stops_next c.in_ok-part.ensures.read.ends (c.in_err-rest.ensures.stop))))))))

pub exists-returns-clause-read : goal.exists-returns-clause-read
exists-returns-clause-read t c = exists_all c.in_ok-bracket.ensures.read c.in_ok-token.ensures.read (c.in_ok-push.ensures.pushed ∙
    (λ i. c.new-first.ensures i ++ c.in_ok-name.ensures i ∷ [])) c.in_ok-variables.ensures.read c.in_ok-constraint.ensures.read
    c.in_ok-after_dot.ensures.read c.in_ok-part.ensures.read c.in_ok-rest.ensures.read c.in_ok-exists.ensures

pub constraint-returns-in_err-condition-in-Some-clause-stop : goal.constraint-returns-in_err-condition-in-Some-clause-stop
constraint-returns-in_err-condition-in-Some-clause-stop t c = exit_stop _ c.from_residual.ensures.1 (more_stops c.in-Some.ensures.read
    c.in_err-condition-in-Some.ensures.stop)

pub constraint-returns-in_ok-condition-in-Some-2-clause-read : goal.constraint-returns-in_ok-condition-in-Some-2-clause-read
constraint-returns-in_ok-condition-in-Some-2-clause-read t c = constraint_some c.in-Some.ensures.read c.in_ok-condition-in-Some.ensures.read
    c.in_ok-condition-in-Some-2.ensures

pub constraint-returns-in-None-clause-read : goal.constraint-returns-in-None-clause-read
constraint-returns-in-None-clause-read t c = constraint_none c.in-None.ensures.read

pub types-returns-in_err-first-clause-stop : goal.types-returns-in_err-first-clause-stop
types-returns-in_err-first-clause-stop t c = exit_stop _ c.from_residual.ensures.1 (stops_row (stops_first c.in_err-first.ensures.stop))

pub types-returns-clause-read : goal.types-returns-clause-read
types-returns-clause-read t c = pass_ok _ c.types_tail.ensures.read (λ x r. types_all c.in_ok-first.ensures.read (c.in_ok-push.ensures.pushed ∙
    (λ i. c.new-list.ensures i ++ c.in_ok-first.first ∷ [])) r)

pub types-returns-clause-stop : goal.types-returns-clause-stop
types-returns-clause-stop t c = pass_stop _ c.types_tail.ensures.stop (λ e s. stops_row (stops_next c.in_ok-first.ensures.read.ends s))

pub types_tail-returns-in_err-after_comma-clause-stop : goal.types_tail-returns-in_err-after_comma-clause-stop
types_tail-returns-in_err-after_comma-clause-stop t c = exit_stop _ c.from_residual.ensures.1 (c.types.invariant.onward.stops _ (types_comma_stops
    (sym c.sees.ensures ∙ c.types-test.true) c.in_err-after_comma.ensures.stop))

pub types_tail-returns-in_err-next-clause-stop : goal.types_tail-returns-in_err-next-clause-stop
types_tail-returns-in_err-next-clause-stop t c = exit_stop _ c.from_residual-in_err-next.ensures.1 (c.types.invariant.onward.stops _ (stops_row
    (more_stops c.in_ok-after_comma.ensures.read (stops_first c.in_err-next.ensures.stop))))

pub types_tail-types-init : goal.types_tail-types-init
types_tail-types-init t c = record { onward = onward_start _ _ _ _; fewer = omega arith }

pub types_tail-types-preserved : goal.types_tail-types-preserved
types_tail-types-preserved t c = record {
  onward = onward_step c.types.invariant.onward (λ x rest r. types_more c.types.list
      c.in_ok-after_comma.ensures.read c.in_ok-next.ensures.read c.in_ok-push.ensures.pushed r) (λ e s. types_more_stops
      c.in_ok-after_comma.ensures.read c.in_ok-next.ensures.read s);
  fewer = omega (arith, c.in_ok-after_comma.ensures.shorter, c.in_ok-next.ensures.shorter, c.types.invariant.fewer);
}

pub types_tail-returns-clause-read : goal.types_tail-returns-clause-read
types_tail-returns-clause-read t c = c.types.invariant.onward.reads _ _ (types_none c.types.list (sym c.sees.ensures ∙ c.types-test.false))
