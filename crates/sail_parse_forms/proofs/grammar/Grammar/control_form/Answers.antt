use Rattle.std.proofs.Common.{sym, ◌∙◌}
use Rattle.sail_grammar.proofs.Steps.{pass_ok, pass_stop}
use Rattle.sail_parse_forms.proofs.ControlRows as C
use Rattle.sail_parse_forms.proofs.grammar.Grammar.control_form.Goals as goal

pub returns-then-sees-clause-read : goal.returns-then-sees-clause-read
returns-then-sees-clause-read g c = pass_ok _ c.try_exp.ensures.read (λ x r. C.control_try (sym c.sees.ensures ∙ c.if-sees.true) r)

pub returns-then-sees-clause-stop : goal.returns-then-sees-clause-stop
returns-then-sees-clause-stop g c = pass_stop _ c.try_exp.ensures.stop (λ e s. C.control_try_stops (sym c.sees.ensures ∙ c.if-sees.true) s)

pub returns-then-sees-2-clause-read : goal.returns-then-sees-2-clause-read
returns-then-sees-2-clause-read g c = pass_ok _ c.foreach.ensures.read (λ x r. C.control_foreach (sym c.sees-else-sees.ensures ∙ c.if-sees-2.true) r)

pub returns-then-sees-2-clause-stop : goal.returns-then-sees-2-clause-stop
returns-then-sees-2-clause-stop g c = pass_stop _ c.foreach.ensures.stop (λ e s. C.control_foreach_stops (sym c.sees-else-sees.ensures ∙ c.if-sees-2.true) s)

pub returns-then-sees-3-clause-read : goal.returns-then-sees-3-clause-read
returns-then-sees-3-clause-read g c = pass_ok _ c.while_loop.ensures.read (λ x r. C.control_while (sym c.sees-else-sees-2.ensures ∙ c.if-sees-3.true) r)

pub returns-then-sees-3-clause-stop : goal.returns-then-sees-3-clause-stop
returns-then-sees-3-clause-stop g c = pass_stop _ c.while_loop.ensures.stop (λ e s. C.control_while_stops (sym c.sees-else-sees-2.ensures ∙ c.if-sees-3.true) s)

pub returns-then-sees-4-clause-read : goal.returns-then-sees-4-clause-read
returns-then-sees-4-clause-read g c = pass_ok _ c.repeat_loop.ensures.read (λ x r. C.control_repeat (sym c.sees-else-sees-3.ensures ∙ c.if-sees-4.true) r)

pub returns-then-sees-4-clause-stop : goal.returns-then-sees-4-clause-stop
returns-then-sees-4-clause-stop g c =
    pass_stop _ c.repeat_loop.ensures.stop (λ e s. C.control_repeat_stops (sym c.sees-else-sees-3.ensures ∙ c.if-sees-4.true) s)

pub returns-else-sees-4-clause-read : goal.returns-else-sees-4-clause-read
returns-else-sees-4-clause-read g c =
    pass_ok _ c.leave.ensures.read (λ x r. C.control_leave (sym c.sees.ensures ∙ c.if-sees.false) (sym c.sees-else-sees.ensures ∙ c.if-sees-2.false)
    (sym c.sees-else-sees-2.ensures ∙ c.if-sees-3.false) (sym c.sees-else-sees-3.ensures ∙ c.if-sees-4.false) r)

pub returns-else-sees-4-clause-stop : goal.returns-else-sees-4-clause-stop
returns-else-sees-4-clause-stop g c =
    pass_stop _ c.leave.ensures.stop (λ e s. C.control_leave_stops (sym c.sees.ensures ∙ c.if-sees.false) (sym c.sees-else-sees.ensures ∙ c.if-sees-2.false)
    (sym c.sees-else-sees-2.ensures ∙ c.if-sees-3.false) (sym c.sees-else-sees-3.ensures ∙ c.if-sees-4.false) s)
