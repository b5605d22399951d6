use Rattle.std.proofs.Common.{◌∙◌, ◌++◌, ap, map}
use Rattle.model_state.specs.declared.state.Register.{Register}
use Rattle.checked_meaning.specs.Items.{fixed_typ}
use Rattle.lowered_types.specs.Table.{type_in}
use Rattle.jib_lower.proofs.lowering.register_numbers.Goals as goal

pub returns : goal.returns
returns c =
    c.in_ok-push_registers.ensures
    ∙ ap (λ ns. ns ++ map (λ (r : Register). type_in c.args.numbered.now (fixed_typ c.args.core.now.types r.typ)) c.as_slice-registers.result.now)
    c.new-numbers.ensures
    ∙ ap (map (λ (r : Register). type_in c.args.numbered.now (fixed_typ c.args.core.now.types r.typ))) c.as_slice-registers.ensures
