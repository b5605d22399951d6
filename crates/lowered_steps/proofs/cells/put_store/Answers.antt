use Rattle.lowered_steps.proofs.Celled.{register_put, stored_is, variable_put}
use Rattle.lowered_steps.proofs.cells.put_store.Goals as goal

pub returns-in_ok-number-in-Register : goal.returns-in_ok-number-in-Register
returns-in_ok-number-in-Register c =
    stored_is c.put_write.result c.args.setting.now c.args.coding.now c.put_write.new.self c.args.holder _ c.args.stand.now c.args.typ.now c.in-Register.is
    (register_put c.put_write.result c.args.setting.now c.args.coding.now c.put_write.new.self c.in-Register.register c.args.stand.now c.args.typ.now
    c.in_ok-number-in-Register.number c.in_ok-number-in-Register.ensures c.put_write.ensures)

pub returns-in-Variable : goal.returns-in-Variable
returns-in-Variable c =
    stored_is c.put_kept.result c.args.setting.now c.args.coding.now c.put_kept.new.coding c.args.holder _ c.args.stand.now c.args.typ.now c.in-Variable.is
    (variable_put c.put_kept.result c.args.setting.now c.args.coding.now c.put_kept.new.coding c.in-Variable.name.now c.args.stand.now c.args.typ.now _ _
    c.place_in-place.ensures c.reads_as-types.ensures c.put_kept.ensures)
