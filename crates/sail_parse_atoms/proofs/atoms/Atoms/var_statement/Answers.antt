use Rattle.sail_grammar.proofs.Steps.{exit_stop, stops_row, stops_first, stops_next, some_stops}
use Rattle.sail_parse_atoms.proofs.BlockRows as B
use Rattle.sail_parse_atoms.proofs.atoms.Atoms.var_statement.Goals as goal

pub returns-in_err-word-clause-stop : goal.returns-in_err-word-clause-stop
returns-in_err-word-clause-stop g c = exit_stop _ c.from_residual.ensures.1 (stops_row (stops_first c.in_err-word.ensures.stop))

pub returns-in_err-token-clause-stop : goal.returns-in_err-token-clause-stop
returns-in_err-token-clause-stop g c =
    exit_stop _ c.from_residual-in_err-token.ensures.1 (stops_row (stops_next c.in_ok-word.ensures.read (stops_first c.in_err-token.ensures.stop)))

pub returns-in_err-typ-clause-stop : goal.returns-in_err-typ-clause-stop
returns-in_err-typ-clause-stop g c =
    exit_stop _ c.from_residual-in_err-typ.ensures.1 (stops_row (stops_next c.in_ok-word.ensures.read
    (stops_next c.in_ok-token.ensures.read (stops_first c.in_err-typ.ensures.stop))))

pub returns-in_err-after_equal-clause-stop : goal.returns-in_err-after_equal-clause-stop
returns-in_err-after_equal-clause-stop g c =
    exit_stop _ c.from_residual-in_err-after_equal.ensures.1 (stops_row (stops_next c.in_ok-word.ensures.read
    (stops_next c.in_ok-token.ensures.read (stops_next c.in_ok-typ.ensures.read.ends (stops_first c.in_err-after_equal.ensures.stop)))))

pub returns-in_err-initial-clause-stop : goal.returns-in_err-initial-clause-stop
returns-in_err-initial-clause-stop g c =
    exit_stop _ c.from_residual-in_err-initial.ensures.1 (stops_row (stops_next c.in_ok-word.ensures.read
    (stops_next c.in_ok-token.ensures.read (stops_next c.in_ok-typ.ensures.read.ends
    (stops_next c.in_ok-after_equal.ensures.read (stops_first c.in_err-initial.ensures.stop))))))

pub returns-in_err-body-in-Some-clause-stop : goal.returns-in_err-body-in-Some-clause-stop
returns-in_err-body-in-Some-clause-stop g c =
    exit_stop _ c.from_residual-in_err-body-in-Some.ensures.1 (stops_row (stops_next c.in_ok-word.ensures.read
    (stops_next c.in_ok-token.ensures.read (stops_next c.in_ok-typ.ensures.read.ends
    (stops_next c.in_ok-after_equal.ensures.read (some_stops c.in_ok-initial.ensures.read.ends c.in-Some.ensures.read c.in_err-body-in-Some.ensures.stop))))))

pub returns-in_ok-made-in-Some-clause-read : goal.returns-in_ok-made-in-Some-clause-read
returns-in_ok-made-in-Some-clause-read g c =
    B.var_statement_some c.in_ok-word.ensures.read c.in_ok-token.ensures.read c.in_ok-typ.ensures.read c.in_ok-after_equal.ensures.read
    c.in_ok-initial.ensures.read c.in_ok-name.ensures c.in-Some.ensures.read c.in_ok-body-in-Some.ensures.read c.in_ok-made-in-Some.ensures

pub returns-in-None-clause-read : goal.returns-in-None-clause-read
returns-in-None-clause-read g c =
    B.var_statement_none c.in_ok-word.ensures.read c.in_ok-token.ensures.read c.in_ok-typ.ensures.read c.in_ok-after_equal.ensures.read
    c.in_ok-initial.ensures.read c.in_ok-name.ensures c.in-None.ensures.read
