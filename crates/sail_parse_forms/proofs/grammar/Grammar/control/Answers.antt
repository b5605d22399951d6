use Rattle.std.proofs.Common.{sym, refl, ◌∙◌}
use Rattle.sail_grammar.proofs.Steps.{pass_ok, pass_stop}
use Rattle.sail_parse_forms.proofs.ControlRows as C
use Rattle.sail_parse_forms.proofs.grammar.Grammar.control.Goals as goal

pub returns-in-Full-clause-read : goal.returns-in-Full-clause-read
returns-in-Full-clause-read g c = pass_ok _ c.control_form.ensures.read (λ x r. C.control_full c.in-Full.is r)

pub returns-in-Full-clause-stop : goal.returns-in-Full-clause-stop
returns-in-Full-clause-stop g c = pass_stop _ c.control_form.ensures.stop (λ e s. C.control_full_stops c.in-Full.is s)

pub returns-then-sees_any-clause-stop : goal.returns-then-sees_any-clause-stop
returns-then-sees_any-clause-stop g c = C.control_forbidden c.in-Limited.is (sym c.sees_any.ensures ∙ c.if-sees_any.true) refl refl

pub returns-else-sees_any-clause-stop : goal.returns-else-sees_any-clause-stop
returns-else-sees_any-clause-stop g c = C.control_unfit c.in-Limited.is (sym c.sees_any.ensures ∙ c.if-sees_any.false) refl
