use Rattle.std.proofs.Common.{◌∙◌, sym, ap}
use Rattle.lowered_pieces.specs.Forms.{has_ends}
use Rattle.lowered_steps.specs.Hands.{types_of}
use Rattle.lowered_steps.specs.declared.hands.Ends.{Ends}
use Rattle.lowered_ends.proofs.able.is_said.Goals as goal

pub returns-in-Unsaid : goal.returns-in-Unsaid
returns-in-Unsaid c =
    ap (λ (e : Ends). has_ends (types_of e)) (sym c.in-Unsaid.is)

pub returns-in-Cases : goal.returns-in-Cases
returns-in-Cases c =
    c.has_cases.ensures ∙ ap (λ (e : Ends). has_ends (types_of e)) (sym c.in-Cases.is)

pub returns-in-One : goal.returns-in-One
returns-in-One c =
    ap (λ (e : Ends). has_ends (types_of e)) (sym c.in-One.is)
