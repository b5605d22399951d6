use Rattle.lowered_steps.proofs.Celled.{typed_part, typed_whole}
use Rattle.lowered_steps.proofs.cells.put_typed.Goals as goal

pub returns-in-empty : goal.returns-in-empty
returns-in-empty c =
    typed_whole c.put_store.result c.args.setting.now c.args.coding.now c.put_store.new.coding c.args.cell.now c.args.indexes c.args.stand.now
    c.args.typ.now c.in-empty.len_below c.put_store.ensures

pub returns-in_ok-part-in-len1-up : goal.returns-in_ok-part-in-len1-up
returns-in_ok-part-in-len1-up c =
    typed_part c.put_part.result c.args.setting.now c.args.coding.now c.put_part.new.coding c.args.cell.now c.args.indexes c.args.stand.now c.args.typ.now
    c.in_ok-next-in-len1-up.next c.in_ok-part-in-len1-up.part c.in-len1-up.len_at_least c.in_ok-next-in-len1-up.ensures c.in_ok-part-in-len1-up.ensures
    c.put_part.ensures
