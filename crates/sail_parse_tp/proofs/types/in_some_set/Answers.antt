use Rattle.std.proofs.Common.{◌++◌, [], ◌∷◌, ◌∙◌}
use Rattle.sail_grammar.specs.Leaves.{number_of}
use Rattle.sail_grammar.proofs.Steps.{exit_stop, stops_row, stops_first, stops_next}
use Rattle.sail_parse_tp.proofs.TypeRows.{in_some_set_all}
use Rattle.sail_parse_tp.proofs.types.in_some_set.Goals as goal

pub returns-in_err-word-clause-stop : goal.returns-in_err-word-clause-stop
returns-in_err-word-clause-stop c = exit_stop _ c.from_residual.ensures.1 (stops_row (stops_first c.in_err-word.ensures.stop))

pub returns-in_err-after_bracket-clause-stop : goal.returns-in_err-after_bracket-clause-stop
returns-in_err-after_bracket-clause-stop c =
    exit_stop _ c.from_residual-in_err-after_bracket.ensures.1 (stops_row (stops_next c.in_ok-word.ensures.read (stops_first
    c.in_err-after_bracket.ensures.stop)))

pub returns-in_err-first-clause-stop : goal.returns-in_err-first-clause-stop
returns-in_err-first-clause-stop c =
    exit_stop _ c.from_residual-in_err-first.ensures.1
    (stops_row (stops_next c.in_ok-word.ensures.read (stops_next c.in_ok-after_bracket.ensures.read (stops_first c.in_err-first.ensures.stop))))

pub returns-in_err-choices-clause-stop : goal.returns-in_err-choices-clause-stop
returns-in_err-choices-clause-stop c =
    exit_stop _ c.from_residual-in_err-choices.ensures.1
    (stops_row (stops_next c.in_ok-word.ensures.read (stops_next c.in_ok-after_bracket.ensures.read
    (stops_next c.in_ok-first.ensures.read (stops_first c.in_err-choices.ensures.stop)))))

pub returns-in_err-rest-clause-stop : goal.returns-in_err-rest-clause-stop
returns-in_err-rest-clause-stop c =
    exit_stop _ c.from_residual-in_err-rest.ensures.1
    (stops_row (stops_next c.in_ok-word.ensures.read (stops_next c.in_ok-after_bracket.ensures.read
    (stops_next c.in_ok-first.ensures.read (stops_next c.in_ok-choices.ensures.read.ends c.in_err-rest.ensures.stop)))))

pub returns-clause-read : goal.returns-clause-read
returns-clause-read c =
    in_some_set_all c.args.left c.in_ok-word.ensures.read c.in_ok-after_bracket.ensures.read c.in_ok-first.ensures.read
    (c.in_ok-push_number.ensures ∙ (λ i. c.new-list.ensures i ++ number_of c.in_ok-first.first.now.text ∷ []))
    c.in_ok-choices.ensures.read c.in_ok-rest.ensures.read c.in_ok-member.ensures
