use Rattle.std.proofs.Common.{◌∙◌, ◌+◌, sym, ap, subst}
use Rattle.lowered_pieces.proofs.Emitting.{emits_none}
use Rattle.lowered_steps.proofs.Tailed.{tail_is, throws, ends, binds, moves, stays, wraps}
use Rattle.lowered_pieces.specs.Emitted.{Emits}
use Rattle.lowered_pieces.specs.Writes.{takes_all, takes_in}
use Rattle.lowered_steps.specs.Cells.{cell_code_of, cell_count, cells_of, several_count, several_of}
use Rattle.lowered_steps.specs.Tails.{tail_of}
use Rattle.lowered_steps.proofs.Celled.{behind_put}
use Rattle.lowered_steps.proofs.tails.+put_tail.Goals as goal

pub returns-in-Stays : goal.returns-in-Stays
returns-in-Stays t c =
    subst (λ v. Emits c.args.coding.now c.args.coding.now (λ name l. (tail_of c.args.setting.now name v).code c.args.typ.now l)
    (λ name. (tail_of c.args.setting.now name v).labels)) (sym c.in-Stays.is) (emits_none c.args.coding.now)

pub returns-in_ok-put_copy-in-Throws : goal.returns-in_ok-put_copy-in-Throws
returns-in_ok-put_copy-in-Throws t c =
    tail_is c.put_goto.result c.args.coding.now c.put_goto.new.self c.args.setting.now c.args.typ.now c.args.tail.now _ c.in-Throws.is
    (throws c.put_goto.result c.args.coding.now c.put_goto.new.self c.args.setting.now c.in-Throws.stand.now c.args.typ.now c.in_ok-number-in-Throws.number
    c.in_ok-number-in-Throws.ensures c.put_copy.new.self c.in_ok-put_copy-in-Throws.ensures c.put_goto.ensures)

pub returns-in_ok-number-in-Returns : goal.returns-in_ok-number-in-Returns
returns-in_ok-number-in-Returns t c =
    tail_is c.put_end.result c.args.coding.now c.put_end.new.self c.args.setting.now c.args.typ.now c.args.tail.now _ c.in-Returns.is
    (ends c.put_end.result c.args.coding.now c.put_end.new.self c.args.setting.now c.in-Returns.stand.now c.args.typ.now c.in_ok-number-in-Returns.number
    c.in_ok-number-in-Returns.ensures c.put_end.ensures)

pub returns-in_ok-count_names-in-Binds : goal.returns-in_ok-count_names-in-Binds
returns-in_ok-count_names-in-Binds t c =
    tail_is c.put_kept.result c.args.coding.now c.put_kept.new.coding c.args.setting.now c.args.typ.now c.args.tail.now _ c.in-Binds.is
    (binds c.put_kept.result c.args.coding.now c.put_kept.new.coding c.args.setting.now c.in-Binds.stand.now c.args.typ.now c.in-Binds.text.now _
    c.reads_as-types.ensures c.in_ok-count_names-in-Binds.field-0 c.in_ok-count_names-in-Binds.ensures c.put_kept.ensures)

pub returns-in-Meets : goal.returns-in-Meets
returns-in-Meets t c =
    tail_is c.put_met.result c.args.coding.now c.put_met.new.coding c.args.setting.now c.args.typ.now c.args.tail.now _ c.in-Meets.is
    (c.put_met.ensures)

pub returns-in_ok-put_unit-in-Gives : goal.returns-in_ok-put_unit-in-Gives
returns-in_ok-put_unit-in-Gives t c =
    let setting = c.args.setting.now in let s = c.in-Gives.stand.now in let at = s.temp + takes_in c.in-Gives.cell.now.suffixes.now in
    tail_is c.put_tail.result c.args.coding.now c.put_tail.new.coding setting c.args.typ.now c.args.tail.now _ c.in-Gives.is
    (behind_put c.put_tail.result setting c.args.coding.now c.put_tail.new.coding
    (λ name. cell_code_of setting name c.in-Gives.cell.now s.temp (record s { temp = at })) (λ name. cell_count setting name c.in-Gives.cell.now) s
    c.in-Gives.behind.now c.put_cell.new.coding c.put_unit.new.coding
    (subst (λ k. Emits c.args.coding.now c.put_cell.new.coding (λ name. cell_code_of setting name c.in-Gives.cell.now s.temp (record s { temp = k }))
    (λ name. cell_count setting name c.in-Gives.cell.now)) (c.in_ok-given-in-Gives.ensures ∙ ap (λ k. s.temp + k) c.in_ok-takes-in-Gives.ensures)
    c.in_ok-put_cell-in-Gives.ensures)
    c.in_ok-put_unit-in-Gives.ensures c.put_tail.ensures)

pub returns-in_ok-put_unit-in-Shares : goal.returns-in_ok-put_unit-in-Shares
returns-in_ok-put_unit-in-Shares t c =
    let setting = c.args.setting.now in let s = c.in-Shares.stand.now in let cells = cells_of c.in-Shares.targets.now in
    tail_is c.put_tail-in-Shares.result c.args.coding.now c.put_tail-in-Shares.new.coding setting c.args.typ.now c.args.tail.now _ c.in-Shares.is
    (behind_put c.put_tail-in-Shares.result setting c.args.coding.now c.put_tail-in-Shares.new.coding
    (λ name. several_of setting name cells 0 s.temp (record s { temp = s.temp + takes_all cells }) c.args.typ.now)
    (λ name. several_count setting name cells) s c.in-Shares.behind.now c.put_several.new.coding c.put_unit-in-Shares.new.coding
    (subst (λ k. Emits c.args.coding.now c.put_several.new.coding (λ name. several_of setting name cells 0 s.temp (record s { temp = k }) c.args.typ.now)
    (λ name. several_count setting name cells)) (c.in_ok-given-in-Shares.ensures ∙ ap (λ k. s.temp + k) c.in_ok-takes-in-Shares.ensures)
    c.in_ok-put_several-in-Shares.ensures)
    c.in_ok-put_unit-in-Shares.ensures c.put_tail-in-Shares.ensures)

pub returns-in_ok-put_apply_one-in-Wraps : goal.returns-in_ok-put_apply_one-in-Wraps
returns-in_ok-put_apply_one-in-Wraps t c =
    tail_is c.put_tail-in-Wraps.result c.args.coding.now c.put_tail-in-Wraps.new.coding c.args.setting.now c.args.typ.now c.args.tail.now _ c.in-Wraps.is
    (wraps c.put_tail-in-Wraps.result c.args.coding.now c.put_tail-in-Wraps.new.coding c.args.setting.now c.in-Wraps.stand.now c.args.typ.now
    c.in-Wraps.behind.now c.in-Wraps.option.now c.in-Wraps.payload.now c.in_ok-from-in-Wraps.from c.in_ok-number-in-Wraps.number
    c.in_ok-gives-in-Wraps.gives c.put_retype.new.coding c.put_apply_one.new.self c.in_ok-from-in-Wraps.ensures c.in_ok-number-in-Wraps.ensures
    c.in_ok-gives-in-Wraps.ensures c.in_ok-put_retype-in-Wraps.ensures c.in_ok-put_apply_one-in-Wraps.ensures c.put_tail-in-Wraps.ensures)

pub returns-then-temp-stand : goal.returns-then-temp-stand
returns-then-temp-stand t c =
    tail_is c.put_tail-then-temp-stand.result c.args.coding.now c.put_tail-then-temp-stand.new.coding c.args.setting.now c.args.typ.now c.args.tail.now _
    c.in-Moves.is
    (stays c.put_tail-then-temp-stand.result c.args.coding.now c.put_tail-then-temp-stand.new.coding c.args.setting.now c.in-Moves.stand.now c.args.typ.now
    c.in-Moves.temp c.in-Moves.behind.now c.if-temp-stand.true
    c.put_tail-then-temp-stand.ensures)

pub returns-in_ok-put_copy-in-Moves : goal.returns-in_ok-put_copy-in-Moves
returns-in_ok-put_copy-in-Moves t c =
    tail_is c.put_tail-else-temp-stand.result c.args.coding.now c.put_tail-else-temp-stand.new.coding c.args.setting.now c.args.typ.now c.args.tail.now _
    c.in-Moves.is
    (moves c.put_tail-else-temp-stand.result c.args.coding.now c.put_tail-else-temp-stand.new.coding c.args.setting.now c.in-Moves.stand.now c.args.typ.now
    c.in_ok-number-in-Moves.number c.in_ok-number-in-Moves.ensures c.in-Moves.temp c.in-Moves.behind.now c.put_copy-else-temp-stand.new.self
    c.if-temp-stand.false
    c.in_ok-put_copy-in-Moves.ensures c.put_tail-else-temp-stand.ensures)
