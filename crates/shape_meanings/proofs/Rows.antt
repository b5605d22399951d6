-- Calls of builtins by their names.
use Rattle.std.proofs.Common.{◌≡◌, ℕ, List, [], ◌∷◌, map, refl, subst, Some}
use Rattle.sail_types.specs.Rows.{row_members}
use Rattle.sail_types.specs.declared.members.Member.{Member}
use Rattle.sail_types.specs.declared.rows.Row.{Row}
use Rattle.sail_types.specs.declared.shapes.Shape.{Shape}
use Rattle.sail_types.specs.declared.values.Value.{Value}
use Rattle.sail_syntax.specs.declared.name.Name.{Name}
use Rattle.sail_core.specs.Run.{in_turn, ◌then◌}
use Rattle.sail_core.specs.Making as Core
use Rattle.sail_meaning.specs.Text.{builtin}
use Rattle.sail_meaning.specs.Choice.{builtins, called_of}
use Rattle.sail_meaning.specs.World as Source
use Rattle.sail_meaning.specs.Expressions.{each}
use Rattle.shape_rules.specs.declared.callees.Meant.TheVariants as M
use Rattle.shape_rules.specs.Scopes.{Setting, Locals, thrown_shape}
use Rattle.shape_rules.specs.Calls.{Elaborate, member_candidate, row_called}
use Rattle.shape_rules.specs.Values.{unit_found}
use Rattle.shape_meanings.specs.Worlds.{Describes, NameCalled, StandForEach, Distinct}
use Rattle.shape_meanings.specs.Parts.{AreRight}
use Rattle.shape_meanings.specs.Sound.{Right}
use Rattle.shape_meanings.proofs.Callees.{alone_right}
use Rattle.shape_meanings.proofs.Calling.{over_right}

-- a builtin's name, with its members
abbrev pub RowThere : Setting → List ℕ → List Member → Type 0
RowThere setting name ms =
    (registers : List Shape) (wc : Core.World Value) (ws : Source.World) (d : Describes setting registers wc ws)
    → (ws.text.called name ≡ Some (called_of (builtins ms)))
    × StandForEach setting.types registers (thrown_shape setting) wc d.apply (map member_candidate ms) (builtins ms)
    × Distinct (map member_candidate ms)

pub row_is : (setting : Setting) (name : List ℕ) (row : Row) → setting.value name ≡ Some (M.Row row) → RowThere setting name (row_members setting.types row)
row_is setting name row is registers wc ws d = subst (NameCalled setting registers wc ws d.apply name) is (d.names name)

members_right : (setting : Setting) (locals : Locals) (want : Shape) (name : Name) (members : List Member) (es : List Elaborate) (ms : List Source.Meaning)
    → RowThere setting name.text members → AreRight setting locals es ms
    → (row_called name.place name.text (map member_candidate members) (unit_found name.place) es setting locals want).faults ≡ []
    → Right setting locals want (row_called name.place name.text (map member_candidate members) (unit_found name.place) es setting locals want)
    (λ w. in_turn (each ms w) then w.call name.place name.text)
members_right setting locals want name [] es ms there right e =
    over_right setting locals want name [] es ms (λ registers wc ws d. let t = there registers wc ws d in ([], t.0, t.1, t.2)) right e
members_right setting locals want name (m ∷ []) es ms there right e =
    alone_right setting locals want name (member_candidate m) es ms
    (λ registers wc ws d. let t = there registers wc ws d in (builtin m.row m.params, t.0, t.1.0)) refl right e
members_right setting locals want name (m ∷ n ∷ members) es ms there right e =
    over_right setting locals want name (map member_candidate (m ∷ n ∷ members)) es ms
    (λ registers wc ws d. let t = there registers wc ws d in (builtins (m ∷ n ∷ members), t.0, t.1, t.2)) right e

pub row_right : (setting : Setting) (locals : Locals) (want : Shape) (name : Name) (row : Row) (es : List Elaborate) (ms : List Source.Meaning)
    → setting.value name.text ≡ Some (M.Row row) → AreRight setting locals es ms
    → (row_called name.place name.text (map member_candidate (row_members setting.types row)) (unit_found name.place) es setting locals want).faults ≡ []
    → Right setting locals want (row_called name.place name.text (map member_candidate (row_members setting.types row)) (unit_found name.place) es
    setting locals want)
    (λ w. in_turn (each ms w) then w.call name.place name.text)
row_right setting locals want name row es ms is right e =
    members_right setting locals want name (row_members setting.types row) es ms (row_is setting name.text row is) right e
