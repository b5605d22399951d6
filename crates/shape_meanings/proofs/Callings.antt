-- A call by name, whatever the name means.
use Rattle.std.proofs.Common.{◌≡◌, List, [], ◌∷◌, sym, ◌∙◌, refl, subst, Bool, true, false, Option, Some, if◌then◌else◌}
use Rattle.sail_types.specs.declared.shapes.Shape.{Shape}
use Rattle.sail_syntax.specs.declared.name.Name.{Name}
use Rattle.sail_core.specs.Run.{in_turn, ◌then◌}
use Rattle.shape_joins.proofs.Order.{no}
use Rattle.sail_meaning.specs.World as Source
use Rattle.sail_meaning.specs.Expressions.{each}
use Rattle.sail_names.specs.declared.names.Global.{Global}
use Rattle.sail_names.specs.declared.names.Global.TheVariants as G
use Rattle.sail_names.specs.Known as Tables
use Rattle.sail_names.specs.Known.{is_global_callee}
use Rattle.shape_rules.specs.declared.callees.Candidate.{Candidate}
use Rattle.shape_rules.specs.declared.callees.Meant.{Meant}
use Rattle.shape_rules.specs.declared.callees.Meant.TheVariants as M
use Rattle.shape_rules.specs.Scopes.{Setting, Locals}
use Rattle.shape_rules.specs.Calls.{one_called, arguments_for}
use Rattle.shape_rules.specs.Targets.{Part, elaborations}
use Rattle.shape_rules.specs.Values.{as_one, does_convert, unit_found, name_called}
use Rattle.shape_meanings.specs.Naming.{MeantAs}
use Rattle.shape_meanings.specs.Parts.{AreRight}
use Rattle.shape_meanings.specs.Sound.{Right}
use Rattle.shape_meanings.proofs.Callees.{callee_right}
use Rattle.shape_meanings.proofs.Calling.{overload_right}
use Rattle.shape_meanings.proofs.Rows.{row_right}
use Rattle.shape_meanings.proofs.Mappings.{conversion_right, mapping_right}

-- what a call of a name means
abbrev called_meant : Name → List Source.Meaning → Source.Meaning
called_meant name ms w = in_turn (each ms w) then w.call name.place name.text

abbrev CallRight : Setting → Locals → Shape → Name → List Part → List Source.Meaning → Option Meant → Type 0
CallRight setting locals want name args ms meant =
    (name_called name meant args setting locals want).faults ≡ [] → Right setting locals want (name_called name meant args setting locals want)
    (called_meant name ms)

-- a callee that takes its arguments one by one, or a mapping of one way
callee_by : (setting : Setting) (locals : Locals) (want : Shape) (name : Name) (f : Candidate) (args : List Part) (ms : List Source.Meaning) (b : Bool)
    → setting.value name.text ≡ Some (M.Callee f) → does_convert f.doing ≡ b → AreRight setting locals (elaborations args) ms
    → ((if b then one_called name.place f ((as_one name.place args).elaborate ∷ [])
    else one_called name.place f (arguments_for (unit_found name.place) f.params (elaborations args))) setting locals want).faults ≡ []
    → Right setting locals want ((if b then one_called name.place f ((as_one name.place args).elaborate ∷ [])
    else one_called name.place f (arguments_for (unit_found name.place) f.params (elaborations args))) setting locals want) (called_meant name ms)
callee_by setting locals want name f args ms true is converts right e = conversion_right setting locals want name f args ms is converts right e
callee_by setting locals want name f args ms false is plain right e = callee_right setting locals want name f (elaborations args) ms is plain right e

callee_sound : (setting : Setting) (locals : Locals) (want : Shape) (name : Name) (f : Candidate) (args : List Part) (ms : List Source.Meaning)
    → setting.value name.text ≡ Some (M.Callee f) → AreRight setting locals (elaborations args) ms → CallRight setting locals want name args ms
    (Some (M.Callee f))
callee_sound setting locals want name f args ms is right e = callee_by setting locals want name f args ms (does_convert f.doing) is refl right e

name_sound : (setting : Setting) (names : Tables.Setting) (locals : Locals) (want : Shape) (name : Name) (args : List Part) (ms : List Source.Meaning)
    (o : Option Global) (meant : Option Meant)
    → MeantAs names o meant → is_global_callee names.allowed o ≡ true → setting.value name.text ≡ meant → AreRight setting locals (elaborations args) ms
    → CallRight setting locals want name args ms meant
name_sound setting names locals want name args ms (Some G.Constructor) meant m h is right =
    subst (CallRight setting locals want name args ms) (sym m.1) (callee_sound setting locals want name m.0 args ms (is ∙ m.1) right)
name_sound setting names locals want name args ms (Some (G.Function n)) meant m h is right =
    let k = m h in
    subst (CallRight setting locals want name args ms) (sym k.1) (callee_sound setting locals want name k.0 args ms (is ∙ k.1) right)
name_sound setting names locals want name args ms (Some (G.Direction n)) meant m h is right =
    let k = m h in
    subst (CallRight setting locals want name args ms) (sym k.1) (callee_sound setting locals want name k.0 args ms (is ∙ k.1) right)
name_sound setting names locals want name args ms (Some G.Builtin) meant m h is right =
    subst (CallRight setting locals want name args ms) (sym m.1) (row_right setting locals want name m.0 (elaborations args) ms (is ∙ m.1) right)
name_sound setting names locals want name args ms (Some G.StateBuiltin) meant m h is right =
    subst (CallRight setting locals want name args ms) (sym m.1) (row_right setting locals want name m.0 (elaborations args) ms (is ∙ m.1) right)
name_sound setting names locals want name args ms (Some (G.Mapping n)) meant m h is right =
    let k = m h in
    subst (CallRight setting locals want name args ms) (sym k.1) (mapping_right setting locals want name k.0 args ms (is ∙ k.1) right)
name_sound setting names locals want name args ms (Some (G.Overload ns)) meant m h is right =
    let k = m h in
    subst (CallRight setting locals want name args ms) (sym k.1) (overload_right setting locals want name k.0 (elaborations args) ms (is ∙ k.1) right)
name_sound setting names locals want name args ms o meant m h is right = no h

-- a call of a name that the tables know as a callee
pub called_right : (setting : Setting) (names : Tables.Setting) (locals : Locals) (want : Shape) (name : Name) (args : List Part) (ms : List Source.Meaning)
    → MeantAs names (names.known.value name.text) (setting.value name.text) → is_global_callee names.allowed (names.known.value name.text) ≡ true
    → AreRight setting locals (elaborations args) ms
    → (name_called name (setting.value name.text) args setting locals want).faults ≡ []
    → Right setting locals want (name_called name (setting.value name.text) args setting locals want)
    (λ w. in_turn (each ms w) then w.call name.place name.text)
called_right setting names locals want name args ms m h right =
    name_sound setting names locals want name args ms (names.known.value name.text) (setting.value name.text) m h refl right
