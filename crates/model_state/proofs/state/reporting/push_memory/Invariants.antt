use Rattle.std.proofs.Common.{◌≡◌, ◌*◌, ◌-◌, ◌++◌, length}
use Rattle.std.specs.List.{flat_map, range_with_len}
use Rattle.model_state.specs.Report.{changed_row_text, memory_text}
use Rattle.model_state.proofs.state.reporting.push_memory.Given as goal

abbrev pub invariant-loop-row : goal.invariant-loop-row
invariant-loop-row g l =
    let base = g.M.Memory.base l.memory in let now = g.M.Memory.bytes l.memory in
    l.out.items ++ flat_map (λ row. changed_row_text base l.start.bytes now (16 * row)) (range_with_len l.row (l.end - l.row))
    ≡ l.fn.out.items ++ memory_text base l.start.bytes now
