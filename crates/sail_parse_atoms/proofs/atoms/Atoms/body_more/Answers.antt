use Rattle.std.proofs.Common.{◌++◌, [], ◌∷◌, ◌∙◌}
use Rattle.sail_grammar.specs.RowName as N
use Rattle.sail_grammar.specs.Form.{Row}
use Rattle.sail_grammar.specs.Parsing.{Reading}
use Rattle.sail_parse_atoms.specs.Behind.{statements_behind}
use Rattle.sail_grammar.proofs.Steps.{exit_stop, pass_ok, pass_stop, more_stops}
use Rattle.sail_parse_atoms.proofs.BlockRows as B
use Rattle.sail_parse_atoms.proofs.atoms.Atoms.body_more.Goals as goal

pub returns-in-Some-clause-read : goal.returns-in-Some-clause-read
returns-in-Some-clause-read g c =
    pass_ok {P = λ x. Reading (Row N.Statements) (statements_behind c.args.place c.push.new.self) c.in-Some.after_sign.now x.0 x.1.now}
    c.statements.result c.statements.ensures.read (λ x r. B.rest_some {place = c.args.place}
    (c.in_ok-push.ensures.pushed ∙ (λ i. c.new-list.ensures i ++ c.args.first ∷ [])) c.in-Some.ensures.read r)

pub returns-in-Some-clause-stop : goal.returns-in-Some-clause-stop
returns-in-Some-clause-stop g c = pass_stop _ c.statements.ensures.stop (λ e s. more_stops c.in-Some.ensures.read s)

pub returns-in_err-rest-in-None-clause-stop : goal.returns-in_err-rest-in-None-clause-stop
returns-in_err-rest-in-None-clause-stop g c =
    exit_stop _ c.from_residual-in_err-rest-in-None.ensures.1 (B.rest_close_stops c.in-None.ensures.read c.in_err-rest-in-None.ensures.stop)

pub returns-in_ok-made-in-None-clause-read : goal.returns-in_ok-made-in-None-clause-read
returns-in_ok-made-in-None-clause-read g c =
    B.rest_close (c.in_ok-push.ensures.pushed ∙ (λ i. c.new-list.ensures i ++ c.args.first ∷ [])) c.in-None.ensures.read c.in_ok-rest-in-None.ensures.read
    c.in_ok-made-in-None.ensures
