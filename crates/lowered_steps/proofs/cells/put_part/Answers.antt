use Rattle.std.proofs.Common.{length, refl}
use Rattle.lowered_steps.proofs.Celled.{part_cases}
use Rattle.lowered_steps.proofs.cells.put_part.Goals as goal

pub returns : goal.returns
returns c =
    part_cases c.end_arms.result c.args.setting.now c.args.coding.now c.end_arms.new.coding c.args.cell.now c.args.indexes c.args.given c.args.part
    c.args.stand.now c.cases-cases.result.now c.begin_arms.new.coding c.put_renewed_rest.new.coding c.in_ok-end.end (length c.cases-cases.result.now)
    c.cases-cases.ensures refl c.in_ok-end.ensures.end c.in_ok-end.ensures.code c.in_ok-put_renewed_rest.ensures c.end_arms.ensures
