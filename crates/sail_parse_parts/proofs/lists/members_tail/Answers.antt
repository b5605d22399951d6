use Rattle.std.proofs.Common.{sym, ◌∙◌, arith}
use Rattle.sail_grammar.proofs.Steps.{exit_stop, onward_step}
use Rattle.sail_parse_parts.proofs.ListRows.{member_more, members_end, members_none, member_more_stops}
use Rattle.sail_parse_parts.proofs.ListRows.{member_comma_stops, member_stops}
use Rattle.sail_parse_parts.proofs.lists.members_tail.Goals as goal

pub returns-in_err-after_comma-clause-stop : goal.returns-in_err-after_comma-clause-stop
returns-in_err-after_comma-clause-stop c =
    exit_stop _ c.from_residual.ensures.1 (c.members.invariant.onward.stops _
    (member_comma_stops (sym c.sees.ensures ∙ c.members-test.true) c.in_err-after_comma.ensures.stop))

pub returns-in_err-next-clause-stop : goal.returns-in_err-next-clause-stop
returns-in_err-next-clause-stop c =
    exit_stop _ c.from_residual-in_err-next.ensures.1 (c.members.invariant.onward.stops _
    (member_stops c.in_ok-after_comma.ensures.read (sym c.sees_identifier.ensures ∙ c.if-sees_identifier.true) c.in_err-next.ensures.stop))

pub members-preserved : goal.members-preserved
members-preserved c = record {
  onward = onward_step c.members.invariant.onward (λ x rest r. member_more c.members.list c.in_ok-after_comma.ensures.read
      (sym c.sees_identifier.ensures ∙ c.if-sees_identifier.true) c.in_ok-next.ensures.read c.in_ok-push.ensures.pushed r)
      (λ e s. member_more_stops c.in_ok-after_comma.ensures.read (sym c.sees_identifier.ensures ∙ c.if-sees_identifier.true) c.in_ok-next.ensures.read
      s);
  fewer = omega (arith, c.in_ok-after_comma.ensures.shorter, c.in_ok-next.ensures.shorter, c.members.invariant.fewer);
}

pub returns-else-sees_identifier-clause-read : goal.returns-else-sees_identifier-clause-read
returns-else-sees_identifier-clause-read c =
    c.members.invariant.onward.reads _ _ (members_end c.members.list c.in_ok-after_comma.ensures.read
    (sym c.sees_identifier.ensures ∙ c.if-sees_identifier.false))

pub returns-clause-read : goal.returns-clause-read
returns-clause-read c = c.members.invariant.onward.reads _ _ (members_none c.members.list (sym c.sees.ensures ∙ c.members-test.false))
