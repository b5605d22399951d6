use Rattle.std.proofs.Common.{◌≡◌, ◌++◌}
use Rattle.std.specs.List.{flat_map}
use Rattle.model_state.specs.Report.{byte_at, byte_text, bytes_text}
use Rattle.model_state.proofs.Reported.{places_from}
use Rattle.model_state.proofs.state.reporting.push_bytes.Given as goal

abbrev pub invariant-loop-k : goal.invariant-loop-k
invariant-loop-k g l =
    let base = g.M.Memory.base l.memory in let now = g.M.Memory.bytes l.memory in
    l.out.items ++ flat_map (λ at. byte_text (byte_at base now at)) (places_from l.row l.k) ≡ l.fn.out.items ++ bytes_text base now l.row
