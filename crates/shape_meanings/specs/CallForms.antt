-- Calls of builtins by their names, and of mappings, over whatever their arguments are.
use Rattle.std.specs.Prelude.{◌≡◌, true, List, [], ◌∷◌, map, Some}
use Rattle.sail_types.specs.Rows.{row_members}
use Rattle.sail_types.specs.declared.rows.Row.{Row}
use Rattle.sail_types.specs.declared.shapes.Shape.{Shape}
use Rattle.sail_syntax.specs.declared.name.Name.{Name}
use Rattle.sail_core.specs.Run.{in_turn, ◌then◌}
use Rattle.sail_meaning.specs.World as Source
use Rattle.sail_meaning.specs.Expressions.{each}
use Rattle.shape_rules.specs.declared.callees.Candidate.{Candidate}
use Rattle.shape_rules.specs.declared.callees.Mapping.{Mapping}
use Rattle.shape_rules.specs.declared.callees.Meant.TheVariants as M
use Rattle.shape_rules.specs.Scopes.{Setting, Locals}
use Rattle.shape_rules.specs.Calls.{Elaborate, member_candidate, one_called, row_called}
use Rattle.shape_rules.specs.Targets.{Part, elaborations}
use Rattle.shape_rules.specs.Values.{as_one, does_convert, mapping_called, unit_found}
use Rattle.shape_meanings.specs.Parts.{AreRight}
use Rattle.shape_meanings.specs.Sound.{Right}

abbrev pub RowsAreRight : Type 0
RowsAreRight =
    (setting : Setting) (locals : Locals) (want : Shape) (name : Name) (row : Row) (es : List Elaborate) (ms : List Source.Meaning)
    → setting.value name.text ≡ Some (M.Row row) → AreRight setting locals es ms
    → (row_called name.place name.text (map member_candidate (row_members setting.types row)) (unit_found name.place) es setting locals want).faults ≡ []
    → Right setting locals want (row_called name.place name.text (map member_candidate (row_members setting.types row)) (unit_found name.place) es
    setting locals want)
    (λ w. in_turn (each ms w) then w.call name.place name.text)

-- a mapping that goes one way
abbrev pub ConversionsAreRight : Type 0
ConversionsAreRight =
    (setting : Setting) (locals : Locals) (want : Shape) (name : Name) (f : Candidate) (args : List Part) (ms : List Source.Meaning)
    → setting.value name.text ≡ Some (M.Callee f) → does_convert f.doing ≡ true → AreRight setting locals (elaborations args) ms
    → (one_called name.place f ((as_one name.place args).elaborate ∷ []) setting locals want).faults ≡ []
    → Right setting locals want (one_called name.place f ((as_one name.place args).elaborate ∷ []) setting locals want)
    (λ w. in_turn (each ms w) then w.call name.place name.text)

-- one that goes both ways
abbrev pub MappingsAreRight : Type 0
MappingsAreRight =
    (setting : Setting) (locals : Locals) (want : Shape) (name : Name) (m : Mapping) (args : List Part) (ms : List Source.Meaning)
    → setting.value name.text ≡ Some (M.Mapping m) → AreRight setting locals (elaborations args) ms
    → (mapping_called name.place m (as_one name.place args) setting locals want).faults ≡ []
    → Right setting locals want (mapping_called name.place m (as_one name.place args) setting locals want)
    (λ w. in_turn (each ms w) then w.call name.place name.text)
