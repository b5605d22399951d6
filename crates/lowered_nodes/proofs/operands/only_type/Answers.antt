use Rattle.std.proofs.Common.{◌≡◌, ◌-◌, sym, ap, subst}
use Rattle.lowered_nodes.specs.Walk.{only_number}
use Rattle.lowered_steps.specs.Hands.{types_of}
use Rattle.lowered_steps.specs.declared.hands.Ends.{Ends}
use Rattle.std.specs.Prelude.{IfOk}
use Rattle.lowered_nodes.proofs.operands.only_type.Goals as goal

pub returns-in-Unsaid : goal.returns-in-Unsaid
returns-in-Unsaid c =
    ap (λ (e : Ends). only_number c.args.setting.now (types_of e)) (sym c.in-Unsaid.is)

pub returns-in-Cases : goal.returns-in-Cases
returns-in-Cases c =
    subst (λ (e : Ends). IfOk c.only_case.result (λ k. k ≡ only_number c.args.setting.now (types_of e))) (sym c.in-Cases.is) c.only_case.ensures

pub returns-in-One : goal.returns-in-One
returns-in-One c =
    subst (λ (e : Ends). IfOk c.number.result (λ k. k ≡ only_number c.args.setting.now (types_of e))) (sym c.in-One.is) c.number.ensures
