use Rattle.std.proofs.Common.{◌∙◌, sym, ap}
use Rattle.lowered_pieces.specs.Mapped.{fixed_end}
use Rattle.lowered_steps.specs.Hands.{types_of}
use Rattle.lowered_steps.specs.declared.hands.Ends.{Ends}
use Rattle.lowered_ends.proofs.ends.fixed_end.Goals as goal

pub returns-in-Unsaid : goal.returns-in-Unsaid
returns-in-Unsaid c =
    ap (λ (e : Ends). fixed_end (types_of e)) (sym c.in-Unsaid.is)

pub returns-in-Cases : goal.returns-in-Cases
returns-in-Cases c =
    c.fixed_case.ensures ∙ ap (λ (e : Ends). fixed_end (types_of e)) (sym c.in-Cases.is)

pub returns-in-One : goal.returns-in-One
returns-in-One c =
    ap (λ (e : Ends). fixed_end (types_of e)) (sym c.in-One.is)
