use Rattle.std.proofs.Common.{◌++◌, [], ◌∷◌, sym, ◌∙◌, arith}
use Rattle.sail_grammar.proofs.Steps.{
  exit_stop,
  pass_ok,
  pass_stop,
  stops_row,
  stops_first,
  stops_next,
  some_stops,
  more_stops,
  onward_start,
  onward_step,
}
use Rattle.sail_parse_tp.proofs.PatternRows.{
  pattern_all,
  concat_some,
  concat_none,
  concat_none_stops,
  appended_some,
  appended_none,
  appends_more,
  appends_none,
  appends_more_stops,
  appends_at_stops,
  typed_some,
  typed_none,
  named_some,
  named_none,
  named_stops,
  group_all,
  list_none,
  list_some,
  list_stops,
  brackets_none,
  brackets_some,
  brackets_stops,
  vector_all,
  patterns_all,
  patterns_more,
  patterns_none,
  patterns_more_stops,
  patterns_comma_stops,
  base_wildcard,
  base_wildcard_stops,
  base_constant,
  base_constant_stops,
  base_negative,
  base_negative_stops,
  base_named,
  base_named_stops,
  base_group,
  base_group_stops,
  base_vector,
  base_vector_stops,
  base_list,
  base_list_stops,
}
use Rattle.sail_parse_tp.proofs.patterns.+patterns.Goals as goal

pub pattern-returns-in_err-part-clause-stop : goal.pattern-returns-in_err-part-clause-stop
pattern-returns-in_err-part-clause-stop t c = exit_stop _ c.from_residual.ensures.1 (stops_row (stops_first c.in_err-part.ensures.stop))

pub pattern-returns-clause-read : goal.pattern-returns-clause-read
pattern-returns-clause-read t c = pass_ok _ c.named_as.ensures.read (λ x r. pattern_all c.place-place.ensures c.in_ok-part.ensures.read
    c.in_ok-part.ensures.shorter r)

pub pattern-returns-clause-stop : goal.pattern-returns-clause-stop
pattern-returns-clause-stop t c = pass_stop _ c.named_as.ensures.stop (λ e s. stops_row (stops_next c.in_ok-part.ensures.read.ends s))

pub concat-returns-in_err-first-clause-stop : goal.concat-returns-in_err-first-clause-stop
concat-returns-in_err-first-clause-stop t c = exit_stop _ c.from_residual.ensures.1 (stops_row (stops_first c.in_err-first.ensures.stop))

pub concat-returns-in_err-tail-in-Some-clause-stop : goal.concat-returns-in_err-tail-in-Some-clause-stop
concat-returns-in_err-tail-in-Some-clause-stop t c = exit_stop _ c.from_residual-in_err-tail-in-Some.ensures.1 (stops_row (some_stops
    c.in_ok-first.ensures.read.ends c.in-Some.ensures.read c.in_err-tail-in-Some.ensures.stop))

pub concat-returns-in_ok-list-in-Some-clause-read : goal.concat-returns-in_ok-list-in-Some-clause-read
concat-returns-in_ok-list-in-Some-clause-read t c = concat_some c.in_ok-first.ensures.read c.in-Some.ensures.read c.in_ok-tail-in-Some.ensures.read
    c.in_ok-list-in-Some.ensures

pub concat-returns-in-None-clause-read : goal.concat-returns-in-None-clause-read
concat-returns-in-None-clause-read t c = pass_ok _ c.appended.ensures.read (λ x r. concat_none c.in_ok-first.ensures.read c.in-None.ensures.read r)

pub concat-returns-in-None-clause-stop : goal.concat-returns-in-None-clause-stop
concat-returns-in-None-clause-stop t c = pass_stop _ c.appended.ensures.stop (λ e s. concat_none_stops c.in_ok-first.ensures.read
    c.in-None.ensures.read s)

pub appended-returns-in_err-second-in-Some-clause-stop : goal.appended-returns-in_err-second-in-Some-clause-stop
appended-returns-in_err-second-in-Some-clause-stop t c = exit_stop _ c.from_residual.ensures.1 (stops_row (more_stops c.in-Some.ensures.read
    (stops_first c.in_err-second-in-Some.ensures.stop)))

pub appended-returns-in_err-more-in-Some-clause-stop : goal.appended-returns-in_err-more-in-Some-clause-stop
appended-returns-in_err-more-in-Some-clause-stop t c = exit_stop _ c.from_residual-in_err-more-in-Some.ensures.1 (stops_row (more_stops
    c.in-Some.ensures.read (stops_next c.in_ok-second-in-Some.ensures.read.ends c.in_err-more-in-Some.ensures.stop)))

pub appended-returns-in_ok-whole-in-Some-clause-read : goal.appended-returns-in_ok-whole-in-Some-clause-read
appended-returns-in_ok-whole-in-Some-clause-read t c = appended_some c.in-Some.ensures.read c.in_ok-second-in-Some.ensures.read c.new.ensures
    c.in_ok-more-in-Some.ensures.read c.in_ok-whole-in-Some.ensures

pub appended-returns-in-None-clause-read : goal.appended-returns-in-None-clause-read
appended-returns-in-None-clause-read t c = appended_none c.in-None.ensures.read

pub appends-returns-in_err-sign-clause-stop : goal.appends-returns-in_err-sign-clause-stop
appends-returns-in_err-sign-clause-stop t c = exit_stop _ c.from_residual.ensures.1 (c.parts.invariant.onward.stops _ (appends_at_stops (sym
    c.sees.ensures ∙ c.parts-test.true) c.in_err-sign.ensures.stop))

pub appends-returns-in_err-part-clause-stop : goal.appends-returns-in_err-part-clause-stop
appends-returns-in_err-part-clause-stop t c = exit_stop _ c.from_residual-in_err-part.ensures.1 (c.parts.invariant.onward.stops _ (stops_row
    (more_stops c.in_ok-sign.ensures.read (stops_first c.in_err-part.ensures.stop))))

pub appends-parts-init : goal.appends-parts-init
appends-parts-init t c = record { onward = onward_start _ _ _ _; fewer = omega arith }

pub appends-parts-preserved : goal.appends-parts-preserved
appends-parts-preserved t c = record {
  onward = onward_step c.parts.invariant.onward (λ x rest r. appends_more c.parts.list c.in_ok-sign.ensures.read c.in_ok-part.ensures.read
      c.in_ok-push.ensures.pushed r) (λ e s. appends_more_stops c.in_ok-sign.ensures.read c.in_ok-part.ensures.read s);
  fewer = omega (arith, c.in_ok-sign.ensures.shorter, c.in_ok-part.ensures.shorter, c.parts.invariant.fewer);
}

pub appends-returns-clause-read : goal.appends-returns-clause-read
appends-returns-clause-read t c = c.parts.invariant.onward.reads _ _ (appends_none c.parts.list (sym c.sees.ensures ∙ c.parts-test.false))

pub typed-returns-in_err-part-clause-stop : goal.typed-returns-in_err-part-clause-stop
typed-returns-in_err-part-clause-stop t c = exit_stop _ c.from_residual.ensures.1 (stops_row (stops_first c.in_err-part.ensures.stop))

pub typed-returns-in_err-annotation-in-Some-clause-stop : goal.typed-returns-in_err-annotation-in-Some-clause-stop
typed-returns-in_err-annotation-in-Some-clause-stop t c = exit_stop _ c.from_residual-in_err-annotation-in-Some.ensures.1 (stops_row (some_stops
    c.in_ok-part.ensures.read.ends c.in-Some.ensures.read c.in_err-annotation-in-Some.ensures.stop))

pub typed-returns-in_ok-annotated-in-Some-clause-read : goal.typed-returns-in_ok-annotated-in-Some-clause-read
typed-returns-in_ok-annotated-in-Some-clause-read t c = typed_some c.place-place.ensures c.in_ok-part.ensures.read c.in_ok-part.ensures.shorter
    c.in-Some.ensures.read c.in_ok-annotation-in-Some.ensures.read c.in_ok-annotated-in-Some.ensures

pub typed-returns-in-None-clause-read : goal.typed-returns-in-None-clause-read
typed-returns-in-None-clause-read t c = typed_none c.in_ok-part.ensures.read c.in-None.ensures.read

pub base-returns-then-sees-clause-read : goal.base-returns-then-sees-clause-read
base-returns-then-sees-clause-read t c = pass_ok _ c.wildcard.ensures.read (λ x r. base_wildcard (sym c.sees.ensures ∙ c.if-sees.true) r)

pub base-returns-then-sees-clause-stop : goal.base-returns-then-sees-clause-stop
base-returns-then-sees-clause-stop t c = pass_stop _ c.wildcard.ensures.stop (λ e s. base_wildcard_stops (sym c.sees.ensures ∙ c.if-sees.true) s)

pub base-returns-then-sees_literal-clause-read : goal.base-returns-then-sees_literal-clause-read
base-returns-then-sees_literal-clause-read t c = pass_ok _ c.constant.ensures.read (λ x r. base_constant (sym c.sees_literal.ensures ∙
    c.if-sees_literal.true) r)

pub base-returns-then-sees_literal-clause-stop : goal.base-returns-then-sees_literal-clause-stop
base-returns-then-sees_literal-clause-stop t c = pass_stop _ c.constant.ensures.stop (λ e s. base_constant_stops (sym c.sees_literal.ensures ∙
    c.if-sees_literal.true) s)

pub base-returns-then-sees-2-clause-read : goal.base-returns-then-sees-2-clause-read
base-returns-then-sees-2-clause-read t c = pass_ok _ c.negative.ensures.read (λ x r. base_negative (sym c.sees-else-sees_literal.ensures ∙
    c.if-sees-2.true) r)

pub base-returns-then-sees-2-clause-stop : goal.base-returns-then-sees-2-clause-stop
base-returns-then-sees-2-clause-stop t c = pass_stop _ c.negative.ensures.stop (λ e s. base_negative_stops (sym c.sees-else-sees_literal.ensures ∙
    c.if-sees-2.true) s)

pub base-returns-then-sees_identifier-clause-read : goal.base-returns-then-sees_identifier-clause-read
base-returns-then-sees_identifier-clause-read t c = pass_ok _ c.named.ensures.read (λ x r. base_named (sym c.sees_identifier.ensures ∙
    c.if-sees_identifier.true) r)

pub base-returns-then-sees_identifier-clause-stop : goal.base-returns-then-sees_identifier-clause-stop
base-returns-then-sees_identifier-clause-stop t c = pass_stop _ c.named.ensures.stop (λ e s. base_named_stops (sym c.sees_identifier.ensures ∙
    c.if-sees_identifier.true) s)

pub base-returns-then-sees-3-clause-read : goal.base-returns-then-sees-3-clause-read
base-returns-then-sees-3-clause-read t c = pass_ok _ c.group.ensures.read (λ x r. base_group (sym c.sees-else-sees_identifier.ensures ∙
    c.if-sees-3.true) r)

pub base-returns-then-sees-3-clause-stop : goal.base-returns-then-sees-3-clause-stop
base-returns-then-sees-3-clause-stop t c = pass_stop _ c.group.ensures.stop (λ e s. base_group_stops (sym c.sees-else-sees_identifier.ensures ∙
    c.if-sees-3.true) s)

pub base-returns-then-sees-4-clause-read : goal.base-returns-then-sees-4-clause-read
base-returns-then-sees-4-clause-read t c = pass_ok _ c.vector.ensures.read (λ x r. base_vector (sym c.sees-else-sees-3.ensures ∙ c.if-sees-4.true) r)

pub base-returns-then-sees-4-clause-stop : goal.base-returns-then-sees-4-clause-stop
base-returns-then-sees-4-clause-stop t c = pass_stop _ c.vector.ensures.stop (λ e s. base_vector_stops (sym c.sees-else-sees-3.ensures ∙
    c.if-sees-4.true) s)

pub base-returns-else-sees-4-clause-read : goal.base-returns-else-sees-4-clause-read
base-returns-else-sees-4-clause-read t c = pass_ok _ c.list.ensures.read (λ x r. base_list (sym c.sees.ensures ∙
    c.if-sees.false) (sym c.sees_literal.ensures ∙ c.if-sees_literal.false) (sym c.sees-else-sees_literal.ensures ∙
    c.if-sees-2.false) (sym c.sees_identifier.ensures ∙ c.if-sees_identifier.false) (sym c.sees-else-sees_identifier.ensures ∙
    c.if-sees-3.false) (sym c.sees-else-sees-3.ensures ∙ c.if-sees-4.false) r)

pub base-returns-else-sees-4-clause-stop : goal.base-returns-else-sees-4-clause-stop
base-returns-else-sees-4-clause-stop t c = pass_stop _ c.list.ensures.stop (λ e s. base_list_stops (sym c.sees.ensures ∙
    c.if-sees.false) (sym c.sees_literal.ensures ∙ c.if-sees_literal.false) (sym c.sees-else-sees_literal.ensures ∙
    c.if-sees-2.false) (sym c.sees_identifier.ensures ∙ c.if-sees_identifier.false) (sym c.sees-else-sees_identifier.ensures ∙
    c.if-sees-3.false) (sym c.sees-else-sees-3.ensures ∙ c.if-sees-4.false) s)

pub named-returns-in_err-token-clause-stop : goal.named-returns-in_err-token-clause-stop
named-returns-in_err-token-clause-stop t c = exit_stop _ c.from_residual.ensures.1 (stops_row (stops_first c.in_err-token.ensures.stop))

pub named-returns-in_err-arguments-clause-stop : goal.named-returns-in_err-arguments-clause-stop
named-returns-in_err-arguments-clause-stop t c = exit_stop _ c.from_residual-in_err-arguments.ensures.1 (named_stops c.in_ok-token.ensures.read (sym
    c.sees.ensures ∙ c.if-sees.true) c.in_err-arguments.ensures.stop)

pub named-returns-in_ok-arguments-clause-read : goal.named-returns-in_ok-arguments-clause-read
named-returns-in_ok-arguments-clause-read t c = named_some c.in_ok-token.ensures.read c.in_ok-name.ensures (sym c.sees.ensures ∙
    c.if-sees.true) c.in_ok-arguments.ensures.read

pub named-returns-else-sees-clause-read : goal.named-returns-else-sees-clause-read
named-returns-else-sees-clause-read t c = named_none c.in_ok-token.ensures.read c.in_ok-name.ensures (sym c.sees.ensures ∙ c.if-sees.false)

pub group-returns-in_err-parts-clause-stop : goal.group-returns-in_err-parts-clause-stop
group-returns-in_err-parts-clause-stop t c = exit_stop _ c.from_residual.ensures.1 (c.in_err-parts.ensures.stop)

pub group-returns-clause-read : goal.group-returns-clause-read
group-returns-clause-read t c = group_all c.place-place.ensures c.in_ok-parts.ensures.read c.grouped.ensures

pub pattern_list-returns-in_err-after_bracket-clause-stop : goal.pattern_list-returns-in_err-after_bracket-clause-stop
pattern_list-returns-in_err-after_bracket-clause-stop t c = exit_stop _ c.from_residual.ensures.1 (stops_row (stops_first
    c.in_err-after_bracket.ensures.stop))

pub pattern_list-returns-in-Some-clause-read : goal.pattern_list-returns-in-Some-clause-read
pattern_list-returns-in-Some-clause-read t c = list_none c.in_ok-after_bracket.ensures.read c.in-Some.ensures.read c.new.ensures

pub pattern_list-returns-in_err-parts-in-None-clause-stop : goal.pattern_list-returns-in_err-parts-in-None-clause-stop
pattern_list-returns-in_err-parts-in-None-clause-stop t c = exit_stop _ c.from_residual-in_err-parts-in-None.ensures.1 (list_stops
    c.in_ok-after_bracket.ensures.read c.in-None.ensures.read (stops_first c.in_err-parts-in-None.ensures.stop))

pub pattern_list-returns-in_err-rest-in-None-clause-stop : goal.pattern_list-returns-in_err-rest-in-None-clause-stop
pattern_list-returns-in_err-rest-in-None-clause-stop t c = exit_stop _ c.from_residual-in_err-rest-in-None.ensures.1 (list_stops
    c.in_ok-after_bracket.ensures.read c.in-None.ensures.read (stops_next c.in_ok-parts-in-None.ensures.read.ends c.in_err-rest-in-None.ensures.stop))

pub pattern_list-returns-in_ok-rest-in-None-clause-read : goal.pattern_list-returns-in_ok-rest-in-None-clause-read
pattern_list-returns-in_ok-rest-in-None-clause-read t c = list_some c.in_ok-after_bracket.ensures.read c.in-None.ensures.read
    c.in_ok-parts-in-None.ensures.read c.in_ok-rest-in-None.ensures.read

pub vector-returns-in_err-bracket-clause-stop : goal.vector-returns-in_err-bracket-clause-stop
vector-returns-in_err-bracket-clause-stop t c = exit_stop _ c.from_residual.ensures.1 (stops_row (stops_first c.in_err-bracket.ensures.stop))

pub vector-returns-in_err-parts-clause-stop : goal.vector-returns-in_err-parts-clause-stop
vector-returns-in_err-parts-clause-stop t c = exit_stop _ c.from_residual-in_err-parts.ensures.1 (stops_row (stops_next c.in_ok-bracket.ensures.read
    (stops_first c.in_err-parts.ensures.stop)))

pub vector-returns-in_err-rest-clause-stop : goal.vector-returns-in_err-rest-clause-stop
vector-returns-in_err-rest-clause-stop t c = exit_stop _ c.from_residual-in_err-rest.ensures.1 (stops_row (stops_next c.in_ok-bracket.ensures.read
    (stops_next c.in_ok-parts.ensures.read.ends c.in_err-rest.ensures.stop)))

pub vector-returns-clause-read : goal.vector-returns-clause-read
vector-returns-clause-read t c = vector_all c.in_ok-bracket.ensures.read c.in_ok-parts.ensures.read c.in_ok-rest.ensures.read

pub list-returns-in_err-bracket-clause-stop : goal.list-returns-in_err-bracket-clause-stop
list-returns-in_err-bracket-clause-stop t c = exit_stop _ c.from_residual.ensures.1 (stops_row (stops_first c.in_err-bracket.ensures.stop))

pub list-returns-in-Some-clause-read : goal.list-returns-in-Some-clause-read
list-returns-in-Some-clause-read t c = brackets_none c.in_ok-bracket.ensures.read c.in-Some.ensures.read c.new-none.ensures

pub list-returns-in_err-parts-in-None-clause-stop : goal.list-returns-in_err-parts-in-None-clause-stop
list-returns-in_err-parts-in-None-clause-stop t c = exit_stop _ c.from_residual-in_err-parts-in-None.ensures.1 (brackets_stops
    c.in_ok-bracket.ensures.read c.in-None.ensures.read (stops_first c.in_err-parts-in-None.ensures.stop))

pub list-returns-in_err-rest-in-None-clause-stop : goal.list-returns-in_err-rest-in-None-clause-stop
list-returns-in_err-rest-in-None-clause-stop t c = exit_stop _ c.from_residual-in_err-rest-in-None.ensures.1 (brackets_stops
    c.in_ok-bracket.ensures.read c.in-None.ensures.read (stops_next c.in_ok-parts-in-None.ensures.read.ends c.in_err-rest-in-None.ensures.stop))

pub list-returns-in_ok-rest-in-None-clause-read : goal.list-returns-in_ok-rest-in-None-clause-read
list-returns-in_ok-rest-in-None-clause-read t c = brackets_some c.in_ok-bracket.ensures.read c.in-None.ensures.read
    c.in_ok-parts-in-None.ensures.read c.in_ok-rest-in-None.ensures.read

pub patterns-returns-in_err-first-clause-stop : goal.patterns-returns-in_err-first-clause-stop
patterns-returns-in_err-first-clause-stop t c = exit_stop _ c.from_residual.ensures.1 (stops_row (stops_first c.in_err-first.ensures.stop))

pub patterns-returns-clause-read : goal.patterns-returns-clause-read
patterns-returns-clause-read t c = pass_ok _ c.patterns_tail.ensures.read (λ x r. patterns_all c.in_ok-first.ensures.read
    (c.in_ok-push.ensures.pushed ∙ (λ i. c.new-list.ensures i ++ c.in_ok-first.first ∷ [])) r)

pub patterns-returns-clause-stop : goal.patterns-returns-clause-stop
patterns-returns-clause-stop t c = pass_stop _ c.patterns_tail.ensures.stop (λ e s. stops_row (stops_next c.in_ok-first.ensures.read.ends s))

pub patterns_tail-returns-in_err-after_comma-clause-stop : goal.patterns_tail-returns-in_err-after_comma-clause-stop
patterns_tail-returns-in_err-after_comma-clause-stop t c = exit_stop _ c.from_residual.ensures.1 (c.patterns.invariant.onward.stops _
    (patterns_comma_stops (sym c.sees.ensures ∙ c.patterns-test.true) c.in_err-after_comma.ensures.stop))

pub patterns_tail-returns-in_err-next-clause-stop : goal.patterns_tail-returns-in_err-next-clause-stop
patterns_tail-returns-in_err-next-clause-stop t c = exit_stop _ c.from_residual-in_err-next.ensures.1 (c.patterns.invariant.onward.stops _ (stops_row
    (more_stops c.in_ok-after_comma.ensures.read (stops_first c.in_err-next.ensures.stop))))

pub patterns_tail-patterns-init : goal.patterns_tail-patterns-init
patterns_tail-patterns-init t c = record { onward = onward_start _ _ _ _; fewer = omega arith }

pub patterns_tail-patterns-preserved : goal.patterns_tail-patterns-preserved
patterns_tail-patterns-preserved t c = record {
  onward = onward_step c.patterns.invariant.onward (λ x rest r. patterns_more c.patterns.list c.in_ok-after_comma.ensures.read
      c.in_ok-next.ensures.read c.in_ok-push.ensures.pushed r) (λ e s. patterns_more_stops c.in_ok-after_comma.ensures.read c.in_ok-next.ensures.read
      s);
  fewer = omega (arith, c.in_ok-after_comma.ensures.shorter, c.in_ok-next.ensures.shorter, c.patterns.invariant.fewer);
}

pub patterns_tail-returns-clause-read : goal.patterns_tail-returns-clause-read
patterns_tail-returns-clause-read t c = c.patterns.invariant.onward.reads _ _ (patterns_none c.patterns.list (sym c.sees.ensures ∙
    c.patterns-test.false))
