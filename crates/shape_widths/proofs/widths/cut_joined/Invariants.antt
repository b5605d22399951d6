use Rattle.std.proofs.Common.{◌≡◌, ◌++◌, map, drop}
use Rattle.shape_rules.specs.Around.{setting_of}
use Rattle.shape_rules.specs.Findings.{first_failure}
use Rattle.shape_rules.specs.Patterns.{width_faults}
use Rattle.shape_widths.specs.Known.{widths_of}
use Rattle.shape_widths.specs.Parts.{further}
use Rattle.shape_widths.proofs.widths.cut_joined.Given as goal

abbrev pub invariant-loop-next : goal.invariant-loop-next
invariant-loop-next l = record {
  cut : l.cut ++ map (λ p. p.width (setting_of l.around) (widths_of l.widths)) (map further (drop l.next-index l.parts))
      ≡ l.initial.cut ++ map (λ p. p.width (setting_of l.around) (widths_of l.widths)) (map further l.parts);
  failures : first_failure l.first.error (width_faults l.is_behind (setting_of l.around) (widths_of l.widths) (map further (drop l.next-index l.parts)))
      ≡ first_failure l.fn.first.error (width_faults l.fn.is_behind (setting_of l.around) (widths_of l.widths) (map further l.parts));
}
