use Rattle.std.proofs.Common.{◌++◌, [], ◌∷◌, ◌∙◌}
use Rattle.sail_grammar.proofs.Steps.{exit_stop, stops_first, stops_next}
use Rattle.sail_parse_parts.proofs.ListRows.{braced, braced_stops, barred, barred_stops}
use Rattle.sail_parse_parts.proofs.lists.enum_members.Goals as goal

pub returns-in_err-list-in-Some-clause-stop : goal.returns-in_err-list-in-Some-clause-stop
returns-in_err-list-in-Some-clause-stop c =
    exit_stop _ c.from_residual.ensures.1 (braced_stops c.in-Some.ensures.read (stops_first c.in_err-list-in-Some.ensures.stop))

pub returns-in_err-rest-in-Some-clause-stop : goal.returns-in_err-rest-in-Some-clause-stop
returns-in_err-rest-in-Some-clause-stop c =
    exit_stop _ c.from_residual-in_err-rest-in-Some.ensures.1 (braced_stops c.in-Some.ensures.read
    (stops_next c.in_ok-list-in-Some.ensures.read.ends c.in_err-rest-in-Some.ensures.stop))

pub returns-in_ok-rest-in-Some-clause-read : goal.returns-in_ok-rest-in-Some-clause-read
returns-in_ok-rest-in-Some-clause-read c = braced c.in-Some.ensures.read c.in_ok-list-in-Some.ensures.read c.in_ok-rest-in-Some.ensures.read

pub returns-in_err-token-in-None-clause-stop : goal.returns-in_err-token-in-None-clause-stop
returns-in_err-token-in-None-clause-stop c =
    exit_stop _ c.from_residual-in_err-token-in-None.ensures.1 (barred_stops c.in-None.ensures.read (stops_first c.in_err-token-in-None.ensures.stop))

pub returns-in_err-list-in-None-clause-stop : goal.returns-in_err-list-in-None-clause-stop
returns-in_err-list-in-None-clause-stop c =
    exit_stop _ c.from_residual-in_err-list-in-None.ensures.1 (barred_stops c.in-None.ensures.read
    (stops_next c.in_ok-token-in-None.ensures.read c.in_err-list-in-None.ensures.stop))

pub returns-in_ok-list-in-None-clause-read : goal.returns-in_ok-list-in-None-clause-read
returns-in_ok-list-in-None-clause-read c =
    barred c.in-None.ensures.read c.in_ok-token-in-None.ensures.read
    (c.in_ok-push-in-None.ensures.pushed ∙ (λ i. c.new-list.ensures i ++ c.in_ok-name-in-None.ensures i ∷ [])) c.in_ok-list-in-None.ensures.read
