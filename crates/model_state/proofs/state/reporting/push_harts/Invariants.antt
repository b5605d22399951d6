use Rattle.std.proofs.Common.{◌≡◌, ◌++◌, drop}
use Rattle.model_state.specs.Report.{harts_from, harts_text}
use Rattle.model_state.proofs.state.reporting.push_harts.Given as goal

abbrev pub invariant-loop-number : goal.invariant-loop-number
invariant-loop-number g l =
    l.out.items ++ harts_from l.state.types l.state.registers l.number (drop l.number l.state.harts) ≡ l.fn.out.items ++ harts_text l.state
