-- Whether the shapes of gathered definitions that have tables fail, and the refusal then.
use Rattle.std.specs.Prelude.{List, Option}
use Rattle.sail_base.specs.declared.refusal.Refusal.{Refusal}
use Rattle.sail_syntax.specs.declared.definitions.Def.{Def}
use Rattle.shape_rules.specs.Findings.{place_of}
use Rattle.shape_rules.specs.declared.error.ShapeError.{ShapeError}
use Rattle.shapes.specs.Failures.{refusal}
use Rattle.shapes.specs.Tabled.{tabled_of}
use Rattle.sail_compile.specs.Refusals.{shape_refusal}
use Rattle.sail_compile.specs.Variables.{names_at}

-- the first failure of the shapes, if there is one
abbrev pub why_unshaped : List Def → Option ShapeError
why_unshaped text = refusal (tabled_of text) text

-- a failure of shapes as a refusal: its shapes print by the types of the text, and by the names of the Type variables around it
abbrev pub shape_refusal_in : List Def → ShapeError → Refusal
shape_refusal_in text e = shape_refusal (tabled_of text).types (names_at text (place_of e)) e
