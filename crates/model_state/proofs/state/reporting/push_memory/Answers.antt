use Rattle.std.proofs.Common.{◌≡◌, ◌*◌, ap, ◌∙◌}
use Rattle.model_state.specs.Report.{changed_row_text}
use Rattle.model_state.proofs.Reported.{rows_step, row_put, row_left}
use Rattle.model_state.proofs.state.reporting.push_memory.Goals as goal
use Rattle.model_state.proofs.state.reporting.push_memory.Goals.{then-is_changed_row+in_ok-push_row, else-is_changed_row}

pub loop-row-preserved : goal.loop-row-preserved
loop-row-preserved g c =
    let base = g.M.Memory.base c.args.memory.now in
    let now = g.M.Memory.bytes c.args.memory.now in
    let placed = c.args.start.now.bytes in
    let row = c.loop-row.row in
    let out = c.loop-row.out.items in
    elim c.if-is_changed_row.branch [
      | then-is_changed_row+in_ok-push_row w ↦ rows_step (λ row. changed_row_text base placed now (16 * row)) row _ out _ _ c.loop-row-test.true
          (ap (λ v. v.items) w.out-is ∙ row_put base placed now (16 * row) c.is_changed_row.result out _
          c.is_changed_row.ensures w.if-is_changed_row.true w.in_ok-push_row.ensures) c.loop-row.invariant
      | else-is_changed_row w ↦ rows_step (λ row. changed_row_text base placed now (16 * row)) row _ out _ _ c.loop-row-test.true
          (ap (λ v. v.items) w.out-is ∙ row_left base placed now (16 * row) c.is_changed_row.result out
          c.is_changed_row.ensures w.if-is_changed_row.false) c.loop-row.invariant
    ]
