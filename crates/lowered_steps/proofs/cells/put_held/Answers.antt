use Rattle.lowered_steps.proofs.Celled.{held_is, register_held, variable_held}
use Rattle.lowered_steps.proofs.cells.put_held.Goals as goal

pub returns-in_ok-gives-in-Register : goal.returns-in_ok-gives-in-Register
returns-in_ok-gives-in-Register c =
    held_is c.put_register.result c.args.setting.now c.args.coding.now c.put_register.new.self c.args.holder _ c.args.stand.now c.args.case.now
    c.in-Register.is
    (register_held c.put_register.result c.args.setting.now c.args.coding.now c.put_register.new.self c.in-Register.register c.args.stand.now
    c.args.case.now.gives c.in_ok-gives-in-Register.gives c.in_ok-gives-in-Register.ensures c.put_register.ensures)

pub returns-in_ok-gives-in-Variable : goal.returns-in_ok-gives-in-Variable
returns-in_ok-gives-in-Variable c =
    held_is c.put_copy.result c.args.setting.now c.args.coding.now c.put_copy.new.self c.args.holder _ c.args.stand.now c.args.case.now c.in-Variable.is
    (variable_held c.put_copy.result c.args.setting.now c.args.coding.now c.put_copy.new.self c.in-Variable.name.now c.args.stand.now
    c.args.case.now.gives _ c.in_ok-gives-in-Variable.gives c.place_in-from.ensures c.in_ok-gives-in-Variable.ensures c.put_copy.ensures)
