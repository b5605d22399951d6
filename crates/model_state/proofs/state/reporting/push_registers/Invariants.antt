use Rattle.std.proofs.Common.{◌≡◌, ◌++◌, drop}
use Rattle.model_state.specs.Report.{registers_text}
use Rattle.model_state.proofs.state.reporting.push_registers.Given as goal

abbrev pub invariant-loop-register : goal.invariant-loop-register
invariant-loop-register l = record {
  same : l.index ≡ l.register-index;
  text : l.out.items ++ registers_text l.types (drop l.index l.registers) (drop l.index l.values) ≡ l.fn.out.items ++
      registers_text l.types l.registers l.values;
}
