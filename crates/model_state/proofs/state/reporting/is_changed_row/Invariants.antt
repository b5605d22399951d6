use Rattle.std.proofs.Common.{◌≡◌, not}
use Rattle.std.specs.List.{list_any}
use Rattle.model_state.specs.Report.{byte_at, same_byte, is_changed}
use Rattle.model_state.proofs.Reported.{places_from}
use Rattle.model_state.proofs.state.reporting.is_changed_row.Given as goal

abbrev pub invariant-loop-k : goal.invariant-loop-k
invariant-loop-k g l =
    let base = g.M.Memory.base l.memory in let now = g.M.Memory.bytes l.memory in
    list_any (λ at. not (same_byte (byte_at base now at) (byte_at base l.start.bytes at))) (places_from l.row l.k) ≡ is_changed base l.start.bytes now l.row
