use Rattle.std.proofs.Common.{◌≡◌, drop}
use Rattle.size_values.specs.Hanging.{fields_open}
use Rattle.size_values.proofs.hanging.fields_open.Given as goal

abbrev pub invariant-loop-field : goal.invariant-loop-field
invariant-loop-field l = fields_open l.marks (drop l.field-index l.fields) l.constants ≡ fields_open l.marks l.fields l.constants
