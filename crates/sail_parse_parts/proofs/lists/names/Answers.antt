use Rattle.std.proofs.Common.{◌++◌, [], ◌∷◌, ◌∙◌}
use Rattle.sail_grammar.proofs.Steps.{exit_stop, pass_ok, pass_stop, stops_row, stops_first, stops_next}
use Rattle.sail_parse_parts.proofs.ListRows.{names_all}
use Rattle.sail_parse_parts.proofs.lists.names.Goals as goal

pub returns-in_err-token-clause-stop : goal.returns-in_err-token-clause-stop
returns-in_err-token-clause-stop c = exit_stop _ c.from_residual.ensures.1 (stops_row (stops_first c.in_err-token.ensures.stop))

pub returns-clause-read : goal.returns-clause-read
returns-clause-read c =
    pass_ok _ c.names_tail.ensures.read (λ x r. names_all c.in_ok-token.ensures.read
    (c.in_ok-push.ensures.pushed ∙ (λ i. c.new-list.ensures i ++ c.in_ok-name.ensures i ∷ [])) r)

pub returns-clause-stop : goal.returns-clause-stop
returns-clause-stop c = pass_stop _ c.names_tail.ensures.stop (λ e s. stops_row (stops_next c.in_ok-token.ensures.read s))
