use Rattle.sail_grammar.proofs.Steps.{exit_stop, stops_row, stops_first, stops_next}
use Rattle.sail_definitions.proofs.DefinitionRows.{enum_definition_all}
use Rattle.sail_definitions.proofs.definition.enum_definition.Goals as goal

pub returns-in_err-word-clause-stop : goal.returns-in_err-word-clause-stop
returns-in_err-word-clause-stop c = exit_stop _ c.from_residual.ensures.1 (stops_row (stops_first c.in_err-word.ensures.stop))

pub returns-in_err-token-clause-stop : goal.returns-in_err-token-clause-stop
returns-in_err-token-clause-stop c =
    exit_stop _ c.from_residual-in_err-token.ensures.1 (stops_row (stops_next c.in_ok-word.ensures.read (stops_first c.in_err-token.ensures.stop)))

pub returns-in_err-after_sign-clause-stop : goal.returns-in_err-after_sign-clause-stop
returns-in_err-after_sign-clause-stop c =
    exit_stop _ c.from_residual-in_err-after_sign.ensures.1 (stops_row
    (stops_next c.in_ok-word.ensures.read (stops_next c.in_ok-token.ensures.read (stops_first c.in_err-after_sign.ensures.stop))))

pub returns-in_err-members-clause-stop : goal.returns-in_err-members-clause-stop
returns-in_err-members-clause-stop c =
    exit_stop _ c.from_residual-in_err-members.ensures.1 (stops_row (stops_next c.in_ok-word.ensures.read
    (stops_next c.in_ok-token.ensures.read (stops_next c.in_ok-after_sign.ensures.read c.in_err-members.ensures.stop))))

pub returns-clause-read : goal.returns-clause-read
returns-clause-read c =
    enum_definition_all c.in_ok-word.ensures.read c.in_ok-token.ensures.read c.in_ok-after_sign.ensures.read c.in_ok-members.ensures.read
    c.in_ok-name.ensures
