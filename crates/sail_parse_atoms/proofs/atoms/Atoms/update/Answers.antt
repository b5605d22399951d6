use Rattle.sail_grammar.proofs.Steps.{exit_stop, stops_row, stops_first, stops_next}
use Rattle.sail_parse_atoms.proofs.AtomRows as A
use Rattle.sail_parse_atoms.proofs.atoms.Atoms.update.Goals as goal

pub returns-in_err-after_with-clause-stop : goal.returns-in_err-after_with-clause-stop
returns-in_err-after_with-clause-stop g c = exit_stop _ c.from_residual.ensures.1 (stops_row (stops_first c.in_err-after_with.ensures.stop))

pub returns-in_err-first-clause-stop : goal.returns-in_err-first-clause-stop
returns-in_err-first-clause-stop g c =
    exit_stop _ c.from_residual-in_err-first.ensures.1 (stops_row (stops_next c.in_ok-after_with.ensures.read (stops_first c.in_err-first.ensures.stop)))

pub returns-in_err-last-clause-stop : goal.returns-in_err-last-clause-stop
returns-in_err-last-clause-stop g c =
    exit_stop _ c.from_residual-in_err-last.ensures.1 (stops_row (stops_next c.in_ok-after_with.ensures.read
    (stops_next c.in_ok-first.ensures.read.ends (stops_first c.in_err-last.ensures.stop))))

pub returns-in_err-after_equal-clause-stop : goal.returns-in_err-after_equal-clause-stop
returns-in_err-after_equal-clause-stop g c =
    exit_stop _ c.from_residual-in_err-after_equal.ensures.1 (stops_row (stops_next c.in_ok-after_with.ensures.read
    (stops_next c.in_ok-first.ensures.read.ends (stops_next c.in_ok-last.ensures.read.ends (stops_first c.in_err-after_equal.ensures.stop)))))

pub returns-in_err-value-clause-stop : goal.returns-in_err-value-clause-stop
returns-in_err-value-clause-stop g c =
    exit_stop _ c.from_residual-in_err-value.ensures.1 (stops_row (stops_next c.in_ok-after_with.ensures.read
    (stops_next c.in_ok-first.ensures.read.ends (stops_next c.in_ok-last.ensures.read.ends
    (stops_next c.in_ok-after_equal.ensures.read c.in_err-value.ensures.stop)))))

pub returns-clause-read : goal.returns-clause-read
returns-clause-read g c =
    A.update_all c.in_ok-after_with.ensures.read c.in_ok-first.ensures.read c.in_ok-last.ensures.read c.in_ok-after_equal.ensures.read
    c.in_ok-value.ensures.read c.in_ok-index.ensures c.in_ok-made.ensures
