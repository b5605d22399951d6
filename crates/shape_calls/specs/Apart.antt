-- Failures of a part that are noted apart from those before it.
use Rattle.std.specs.Prelude.{Option, Some, None}
use Rattle.shape_rules.specs.declared.error.ShapeError.{ShapeError}
use Rattle.shape_rules.specs.Findings.{earlier}

-- the first of what was kept, and of what was noted apart
abbrev pub note_of : Option ShapeError → Option ShapeError → Option ShapeError
note_of kept None = kept
note_of kept (Some e) = earlier kept e
