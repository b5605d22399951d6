use Rattle.sail_grammar.proofs.Steps.{exit_stop, stops_row, stops_first, stops_next}
use Rattle.sail_definitions.proofs.DefinitionRows.{alias_all}
use Rattle.sail_definitions.proofs.definition.alias.Goals as goal

pub returns-in_err-word-clause-stop : goal.returns-in_err-word-clause-stop
returns-in_err-word-clause-stop c = exit_stop _ c.from_residual.ensures.1 (stops_row (stops_first c.in_err-word.ensures.stop))

pub returns-in_err-token-clause-stop : goal.returns-in_err-token-clause-stop
returns-in_err-token-clause-stop c =
    exit_stop _ c.from_residual-in_err-token.ensures.1 (stops_row (stops_next c.in_ok-word.ensures.read (stops_first c.in_err-token.ensures.stop)))

pub returns-in_err-variables-clause-stop : goal.returns-in_err-variables-clause-stop
returns-in_err-variables-clause-stop c =
    exit_stop _ c.from_residual-in_err-variables.ensures.1 (stops_row
    (stops_next c.in_ok-word.ensures.read (stops_next c.in_ok-token.ensures.read (stops_first c.in_err-variables.ensures.stop))))

pub returns-in_err-kind-clause-stop : goal.returns-in_err-kind-clause-stop
returns-in_err-kind-clause-stop c =
    exit_stop _ c.from_residual-in_err-kind.ensures.1 (stops_row (stops_next c.in_ok-word.ensures.read
    (stops_next c.in_ok-token.ensures.read (stops_next c.in_ok-variables.ensures.read.ends (stops_first c.in_err-kind.ensures.stop)))))

pub returns-in_err-after_sign-clause-stop : goal.returns-in_err-after_sign-clause-stop
returns-in_err-after_sign-clause-stop c =
    exit_stop _ c.from_residual-in_err-after_sign.ensures.1 (stops_row
    (stops_next c.in_ok-word.ensures.read (stops_next c.in_ok-token.ensures.read
    (stops_next c.in_ok-variables.ensures.read.ends (stops_next c.in_ok-kind.ensures.read.ends (stops_first c.in_err-after_sign.ensures.stop))))))

pub returns-in_err-typ-clause-stop : goal.returns-in_err-typ-clause-stop
returns-in_err-typ-clause-stop c =
    exit_stop _ c.from_residual-in_err-typ.ensures.1 (stops_row (stops_next c.in_ok-word.ensures.read
    (stops_next c.in_ok-token.ensures.read (stops_next c.in_ok-variables.ensures.read.ends
    (stops_next c.in_ok-kind.ensures.read.ends (stops_next c.in_ok-after_sign.ensures.read c.in_err-typ.ensures.stop))))))

pub returns-clause-read : goal.returns-clause-read
returns-clause-read c =
    alias_all c.in_ok-word.ensures.read c.in_ok-token.ensures.read c.in_ok-variables.ensures.read c.in_ok-kind.ensures.read
    c.in_ok-after_sign.ensures.read c.in_ok-typ.ensures.read c.in_ok-name.ensures
