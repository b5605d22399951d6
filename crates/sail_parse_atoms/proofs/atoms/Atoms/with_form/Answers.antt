use Rattle.std.proofs.Common.{sym, refl, ◌∙◌}
use Rattle.sail_grammar.proofs.Steps.{exit_stop, stops_first, stops_next}
use Rattle.sail_parse_atoms.proofs.BlockRows as B
use Rattle.sail_parse_atoms.proofs.atoms.Atoms.with_form.Goals as goal

pub returns-in_err-bracket-clause-stop : goal.returns-in_err-bracket-clause-stop
returns-in_err-bracket-clause-stop g c = exit_stop _ c.from_residual.ensures.1 (B.with_bracket_stops c.in_err-bracket.ensures.stop)

pub returns-then-sees-clause-stop : goal.returns-then-sees-clause-stop
returns-then-sees-clause-stop g c = B.with_empty c.in_ok-bracket.ensures.read (sym c.sees.ensures ∙ c.if-sees.true) refl refl

pub returns-in_err-first-clause-stop : goal.returns-in_err-first-clause-stop
returns-in_err-first-clause-stop g c =
    exit_stop _ c.from_residual-in_err-first.ensures.1 (B.with_statement_stops c.in_ok-bracket.ensures.read (sym c.sees.ensures ∙ c.if-sees.false) refl
    c.in_err-first.ensures.stop)

pub returns-then-sees_any-clause-stop : goal.returns-then-sees_any-clause-stop
returns-then-sees_any-clause-stop g c =
    B.with_forbidden c.in_ok-bracket.ensures.read (sym c.sees.ensures ∙ c.if-sees.false) c.in_ok-first.ensures.read
    (sym c.sees_any.ensures ∙ c.if-sees_any.true) refl refl

pub returns-in-None-clause-stop : goal.returns-in-None-clause-stop
returns-in-None-clause-stop g c =
    B.with_unfit c.in_ok-bracket.ensures.read (sym c.sees.ensures ∙ c.if-sees.false) c.in_ok-first.ensures.read
    (sym c.sees_any.ensures ∙ c.if-sees_any.false) (sym c.evaluated.ensures ∙ c.in-None.is) refl

pub returns-in_err-after_with-in-Some-clause-stop : goal.returns-in_err-after_with-in-Some-clause-stop
returns-in_err-after_with-in-Some-clause-stop g c =
    exit_stop _ c.from_residual-in_err-after_with-in-Some.ensures.1 (B.with_rest_stops c.in_ok-bracket.ensures.read (sym c.sees.ensures ∙ c.if-sees.false)
    c.in_ok-first.ensures.read (sym c.sees_any.ensures ∙ c.if-sees_any.false) (sym c.evaluated.ensures ∙ c.in-Some.is)
    (stops_first c.in_err-after_with-in-Some.ensures.stop))

pub returns-in_err-values-in-Some-clause-stop : goal.returns-in_err-values-in-Some-clause-stop
returns-in_err-values-in-Some-clause-stop g c =
    exit_stop _ c.from_residual-in_err-values-in-Some.ensures.1 (B.with_rest_stops c.in_ok-bracket.ensures.read (sym c.sees.ensures ∙ c.if-sees.false)
    c.in_ok-first.ensures.read (sym c.sees_any.ensures ∙ c.if-sees_any.false) (sym c.evaluated.ensures ∙ c.in-Some.is)
    (stops_next c.in_ok-after_with-in-Some.ensures.read (stops_first c.in_err-values-in-Some.ensures.stop)))

pub returns-in_err-rest-in-Some-clause-stop : goal.returns-in_err-rest-in-Some-clause-stop
returns-in_err-rest-in-Some-clause-stop g c =
    exit_stop _ c.from_residual-in_err-rest-in-Some.ensures.1 (B.with_rest_stops c.in_ok-bracket.ensures.read (sym c.sees.ensures ∙ c.if-sees.false)
    c.in_ok-first.ensures.read (sym c.sees_any.ensures ∙ c.if-sees_any.false) (sym c.evaluated.ensures ∙ c.in-Some.is)
    (stops_next c.in_ok-after_with-in-Some.ensures.read (stops_next c.in_ok-values-in-Some.ensures.read.ends c.in_err-rest-in-Some.ensures.stop)))

pub returns-in_ok-made-in-Some-clause-read : goal.returns-in_ok-made-in-Some-clause-read
returns-in_ok-made-in-Some-clause-read g c =
    B.with_all c.in_ok-bracket.ensures.read (sym c.sees.ensures ∙ c.if-sees.false) c.in_ok-first.ensures.read (sym c.sees_any.ensures ∙ c.if-sees_any.false)
    (sym c.evaluated.ensures ∙ c.in-Some.is) c.in_ok-after_with-in-Some.ensures.read c.in_ok-values-in-Some.ensures.read c.in_ok-rest-in-Some.ensures.read
    c.in_ok-made-in-Some.ensures
