use Rattle.std.proofs.Common.{sym, ◌∙◌}
use Rattle.sail_grammar.proofs.Steps.{exit_stop}
use Rattle.sail_parse_tp.proofs.TypeRows.{set_limited, set_none, set_some, set_stops}
use Rattle.sail_parse_tp.proofs.types.in_set.Goals as goal

pub returns-in-Limited-clause-read : goal.returns-in-Limited-clause-read
returns-in-Limited-clause-read c = set_limited c.in-Limited.is

pub returns-in_err-member-in-Full-clause-stop : goal.returns-in_err-member-in-Full-clause-stop
returns-in_err-member-in-Full-clause-stop c = exit_stop _ c.from_residual.ensures.1 (set_stops c.in-Full.is (sym c.sees.ensures ∙
    c.if-sees.true) c.in_err-member-in-Full.ensures.stop)

pub returns-in_ok-member-in-Full-clause-read : goal.returns-in_ok-member-in-Full-clause-read
returns-in_ok-member-in-Full-clause-read c = set_some c.in-Full.is (sym c.sees.ensures ∙ c.if-sees.true) c.in_ok-member-in-Full.ensures.read

pub returns-else-sees-clause-read : goal.returns-else-sees-clause-read
returns-else-sees-clause-read c = set_none c.in-Full.is (sym c.sees.ensures ∙ c.if-sees.false)
