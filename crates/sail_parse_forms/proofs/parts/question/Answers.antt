use Rattle.sail_grammar.proofs.Steps.{exit_stop, stops_row, stops_first, stops_next}
use Rattle.sail_parse_forms.proofs.PartRows as P
use Rattle.sail_parse_forms.proofs.parts.question.Goals as goal

pub returns-in_err-word-clause-stop : goal.returns-in_err-word-clause-stop
returns-in_err-word-clause-stop c = exit_stop _ c.from_residual.ensures.1 (stops_row (stops_first c.in_err-word.ensures.stop))

pub returns-in_err-after_bracket-clause-stop : goal.returns-in_err-after_bracket-clause-stop
returns-in_err-after_bracket-clause-stop c =
    exit_stop _ c.from_residual-in_err-after_bracket.ensures.1
    (stops_row (stops_next c.in_ok-word.ensures.read (stops_first c.in_err-after_bracket.ensures.stop)))

pub returns-in_err-typ-clause-stop : goal.returns-in_err-typ-clause-stop
returns-in_err-typ-clause-stop c =
    exit_stop _ c.from_residual-in_err-typ.ensures.1
    (stops_row (stops_next c.in_ok-word.ensures.read (stops_next c.in_ok-after_bracket.ensures.read (stops_first c.in_err-typ.ensures.stop))))

pub returns-in_err-rest-clause-stop : goal.returns-in_err-rest-clause-stop
returns-in_err-rest-clause-stop c =
    exit_stop _ c.from_residual-in_err-rest.ensures.1
    (stops_row (stops_next c.in_ok-word.ensures.read (stops_next c.in_ok-after_bracket.ensures.read
    (stops_next c.in_ok-typ.ensures.read.ends c.in_err-rest.ensures.stop))))

pub returns-clause-read : goal.returns-clause-read
returns-clause-read c =
    P.question_all c.in_ok-word.ensures.read c.in_ok-after_bracket.ensures.read c.in_ok-typ.ensures.read c.in_ok-rest.ensures.read
    c.asking_of-asking.ensures c.in_ok-made.ensures
