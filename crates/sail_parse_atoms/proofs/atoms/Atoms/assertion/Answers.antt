use Rattle.std.proofs.Common.{refl, sym, ◌∙◌}
use Rattle.sail_grammar.proofs.Steps.{pass_ok, pass_stop}
use Rattle.sail_parse_atoms.proofs.AtomRows as A
use Rattle.sail_parse_atoms.proofs.atoms.Atoms.assertion.Goals as goal

pub returns-in-Full-clause-read : goal.returns-in-Full-clause-read
returns-in-Full-clause-read g c = pass_ok _ c.assert_form.ensures.read (λ x r. A.assertion_full c.in-Full.is r)

pub returns-in-Full-clause-stop : goal.returns-in-Full-clause-stop
returns-in-Full-clause-stop g c = pass_stop _ c.assert_form.ensures.stop (λ e s. A.assertion_full_stops c.in-Full.is s)

pub returns-then-sees-clause-stop : goal.returns-then-sees-clause-stop
returns-then-sees-clause-stop g c = A.assertion_forbidden c.in-Limited.is (sym c.sees.ensures ∙ c.if-sees.true) refl refl

pub returns-else-sees-clause-stop : goal.returns-else-sees-clause-stop
returns-else-sees-clause-stop g c = A.assertion_unfit c.in-Limited.is (sym c.sees.ensures ∙ c.if-sees.false) refl
