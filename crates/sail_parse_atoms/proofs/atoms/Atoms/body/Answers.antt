use Rattle.std.proofs.Common.{sym, refl, ◌∙◌}
use Rattle.sail_lex.specs.declared.kind.TokenKind.TheVariants as K
use Rattle.sail_grammar.specs.RowName as N
use Rattle.sail_grammar.specs.Form.{Row, ◌or◌, ◌then◌}
use Rattle.sail_grammar.specs.Table.{word}
use Rattle.sail_grammar.specs.Parsing.{Reading}
use Rattle.sail_parse_atoms.specs.Behind.{block_behind}
use Rattle.sail_grammar.proofs.Steps.{exit_stop, pass_ok, pass_stop}
use Rattle.sail_parse_atoms.proofs.BlockRows as B
use Rattle.sail_parse_atoms.proofs.atoms.Atoms.body.Goals as goal

pub returns-in_err-first-clause-stop : goal.returns-in_err-first-clause-stop
returns-in_err-first-clause-stop g c = exit_stop _ c.from_residual.ensures.1 (B.body_stops c.in_err-first.ensures.stop)

pub returns-in-None-clause-read : goal.returns-in-None-clause-read
returns-in-None-clause-read g c =
    pass_ok {P = λ x. Reading (word K.Semicolon then Row N.Statements or word K.CloseBrace) (block_behind c.args.place c.in_ok-first.first)
    c.in_ok-first.after_first.now x.0 x.1.now} c.body_more.result c.body_more.ensures.read
    (λ x r. B.body_rest {place = c.args.place} c.in_ok-first.ensures.read c.in-None.ensures.read r)

pub returns-in-None-clause-stop : goal.returns-in-None-clause-stop
returns-in-None-clause-stop g c = pass_stop _ c.body_more.ensures.stop (λ e s. B.body_rest_stops c.in_ok-first.ensures.read c.in-None.ensures.read s)

pub returns-in-None-evaluated-clause-stop : goal.returns-in-None-evaluated-clause-stop
returns-in-None-evaluated-clause-stop g c =
    B.body_unfit c.in_ok-first.ensures.read (sym c.evaluated.ensures ∙ c.in-None-evaluated.is) c.in-Some.ensures.read refl

pub returns-in_err-values-in-Some-evaluated-clause-stop : goal.returns-in_err-values-in-Some-evaluated-clause-stop
returns-in_err-values-in-Some-evaluated-clause-stop g c =
    exit_stop _ c.from_residual-in_err-values-in-Some-evaluated.ensures.1 (B.body_values_stops c.in_ok-first.ensures.read
    (sym c.evaluated.ensures ∙ c.in-Some-evaluated.is) c.in-Some.ensures.read c.in_err-values-in-Some-evaluated.ensures.stop)

pub returns-in_err-rest-in-Some-evaluated-clause-stop : goal.returns-in_err-rest-in-Some-evaluated-clause-stop
returns-in_err-rest-in-Some-evaluated-clause-stop g c =
    exit_stop _ c.from_residual-in_err-rest-in-Some-evaluated.ensures.1 (B.body_close_stops c.in_ok-first.ensures.read
    (sym c.evaluated.ensures ∙ c.in-Some-evaluated.is) c.in-Some.ensures.read c.in_ok-values-in-Some-evaluated.ensures.read
    c.in_err-rest-in-Some-evaluated.ensures.stop)

pub returns-in_ok-made-in-Some-evaluated-clause-read : goal.returns-in_ok-made-in-Some-evaluated-clause-read
returns-in_ok-made-in-Some-evaluated-clause-read g c =
    B.body_with c.in_ok-first.ensures.read (sym c.evaluated.ensures ∙ c.in-Some-evaluated.is) c.in-Some.ensures.read
    c.in_ok-values-in-Some-evaluated.ensures.read c.in_ok-rest-in-Some-evaluated.ensures.read c.in_ok-made-in-Some-evaluated.ensures
