use Rattle.lowered_steps.proofs.Celled.{renewed_put}
use Rattle.lowered_steps.proofs.cells.put_renewed.Goals as goal

pub returns : goal.returns
returns c =
    renewed_put c.put_store.result c.args.setting.now c.args.coding.now c.put_store.new.coding c.args.cell.now c.args.indexes c.args.given c.args.part
    c.args.stand.now c.args.typ.now c.put_replaced.new.coding c.put_notes.new.coding c.in_ok-put_replaced.ensures c.in_ok-put_notes.ensures
    c.put_store.ensures
