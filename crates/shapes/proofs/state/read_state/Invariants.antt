use Rattle.std.proofs.Common.{◌≡◌, ◌++◌, map, drop}
use Rattle.shape_rules.specs.Around.{setting_of}
use Rattle.shape_rules.specs.Findings.{first_failure}
use Rattle.shape_rules.specs.Written.{joined}
use Rattle.shapes.specs.Failures.{state_faults}
use Rattle.shapes.specs.Resolved.{register_of, register_text_of, initials_openings}
use Rattle.shapes.proofs.state.read_state.Given as goal

abbrev pub invariant-loop-definition : goal.invariant-loop-definition
invariant-loop-definition l = record {
  registers : l.state.registers ++ joined (map (register_of (setting_of l.around)) (drop l.definition-index l.definitions))
      ≡ joined (map (register_of (setting_of l.around)) l.definitions);
  texts : l.state.texts ++ joined (map (register_text_of (setting_of l.around)) (drop l.definition-index l.definitions))
      ≡ joined (map (register_text_of (setting_of l.around)) l.definitions);
  initials : l.state.initials ++ initials_openings (setting_of l.around) l.number (drop l.definition-index l.definitions)
      ≡ initials_openings (setting_of l.around) 0 l.definitions;
  failures : first_failure l.first.error (joined (map (state_faults (setting_of l.around)) (drop l.definition-index l.definitions)))
      ≡ first_failure l.initial.first.error (joined (map (state_faults (setting_of l.around)) l.definitions));
}
