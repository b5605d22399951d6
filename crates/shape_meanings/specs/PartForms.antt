-- Parts of values, values with another part, and assignments.
use Rattle.std.specs.Prelude.{◌≡◌, ℕ, true, false, List, [], ◌∷◌, ◌++◌, Option, Some, None}
use Rattle.sail_base.specs.declared.place.Place.{Place}
use Rattle.sail_types.specs.Named.{fields}
use Rattle.sail_types.specs.Sums.{and_then}
use Rattle.sail_types.specs.declared.shapes.Shape.{Shape}
use Rattle.sail_types.specs.declared.table.Field.{Field as TypeField}
use Rattle.sail_types.specs.declared.table.Types.{Types}
use Rattle.sail_syntax.specs.declared.name.Name.{Name}
use Rattle.sail_core.specs.Run.{gives, needs, in_turn, ◌then◌}
use Rattle.sail_meaning.specs.World as Source
use Rattle.sail_meaning.specs.Named.{struct_with}
use Rattle.sail_meaning.specs.Expressions.{Field, each, fields_of, name_of, names_of, struct_made, values_of}
use Rattle.sail_meaning.specs.Targets as Written
use Rattle.sail_meaning.specs.Targets.{Suffix, name_spot, call_spot, suffixes_of, with_fields, tuple_spot, part_spot, spots_of, ways_of, assigned}
use Rattle.shape_rules.specs.declared.callees.Meant.{Meant}
use Rattle.shape_rules.specs.declared.callees.Meant.TheVariants as M
use Rattle.shape_rules.specs.declared.locals.Local.{Local}
use Rattle.shape_rules.specs.Scopes.{Setting, Locals, local_of}
use Rattle.shape_rules.specs.Targets.{Part, IndexPart, SuffixPart, Aimed, TargetPart, leaves_open, name_aimed, each_aimed, tuple_aimed, part_aimed}
use Rattle.shape_rules.specs.Targets.{walked}
use Rattle.shape_rules.specs.Calls.{Elaborate}
use Rattle.shape_rules.specs.Values.{FieldPart, part_found, update_found, struct_place, struct_found, with_found}
use Rattle.shape_rules.specs.Statements.{FurtherPart, assign_to, chained_faults}
use Rattle.shape_meanings.specs.Whole.{IsSettled, below}
use Rattle.shape_meanings.specs.Parts.{IsRight, IndexIs, SuffixesAre, FieldsAre, NamesApart}
use Rattle.shape_meanings.specs.Aims.{AimIs, BaseIs, AimsAre, FurtherAre, Leads}

-- `e[i]`, `e[h .. l]`, `e.f`
abbrev pub PartsAreRight : Type 0
PartsAreRight =
    (setting : Setting) (locals : Locals) (first : Place) (base : Part) (suffixes : List SuffixPart) (m : Source.Meaning) (ms : List Suffix)
    → IsRight setting locals base.elaborate m → SuffixesAre setting locals suffixes ms
    → IsRight setting locals (part_found first base suffixes) (λ w. m w then suffixes_of ms w)

-- `[v with i = e]`, `[v with h .. l = e]`
abbrev pub UpdatesAreRight : Type 0
UpdatesAreRight =
    (setting : Setting) (locals : Locals) (place : Place) (base : Part) (index : IndexPart) (value : Part) (ma : Source.Meaning) (mi : Suffix)
    (mv : Source.Meaning)
    → IsRight setting locals base.elaborate ma → IndexIs setting locals index mi → IsRight setting locals value.elaborate mv
    → IsRight setting locals (update_found place base index value) (λ w. ma w then λ old. mi w then λ way. mv w then λ v. needs (way.put_in old v))

-- `{ e with f = v, .. }`
abbrev pub WithsAreRight : Type 0
WithsAreRight =
    (setting : Setting) (locals : Locals) (place : Place) (base : Part) (fs : List FieldPart) (ma : Source.Meaning) (ms : List Field)
    → IsRight setting locals base.elaborate ma → FieldsAre setting locals fs ms
    → IsRight setting locals (with_found place base fs) (λ w. ma w then λ v. fields_of ms w then λ found. needs (with_fields w.text.types found v))

-- `struct { f = v, .. }`, with a name or without, of a struct that has these fields
abbrev pub StructsAreRight : Type 0
StructsAreRight =
    (setting : Setting) (locals : Locals) (place : Place) (name : Option Name) (fs : List FieldPart) (ms : List Field) (i : ℕ)
    (known : List TypeField)
    → struct_place setting name fs ≡ Some i → fields setting.types i ≡ Some known → NamesApart fs → FieldsAre setting locals fs ms
    → IsRight setting locals (struct_found place name fs)
    (λ w. fields_of ms w then λ found. needs (and_then (struct_with w.text.types (name_of name) (names_of ms))
    (struct_made w (names_of ms) (values_of found))))

-- ---- targets: a `var` of a settled shape, a register, a tuple

abbrev pub VariableTargetsAreRight : Type 0
VariableTargetsAreRight =
    (setting : Setting) (locals : Locals) (name : Name) (l : Local) (meant : Option Meant) → local_of name.text locals ≡ Some l
    → IsSettled setting.types l.shape
    → AimIs setting locals (name_aimed name (Some l) meant) (λ w. gives (name_spot w name.text))
    × BaseIs setting locals (name_aimed name (Some l) meant) (λ w. gives (name_spot w name.text))

abbrev pub RegisterTargetsAreRight : Type 0
RegisterTargetsAreRight =
    (setting : Setting) (locals : Locals) (name : Name) (r : ℕ) (s : Shape) → local_of name.text locals ≡ None
    → setting.value name.text ≡ Some (M.Register r s)
    → AimIs setting locals (name_aimed name None (Some (M.Register r s))) (λ w. gives (name_spot w name.text))
    × BaseIs setting locals (name_aimed name None (Some (M.Register r s))) (λ w. gives (name_spot w name.text))

abbrev pub TupleTargetsAreRight : Type 0
TupleTargetsAreRight =
    (setting : Setting) (locals : Locals) (place : Place) (ts : List TargetPart) (ms : List Written.Target) → AimsAre setting locals ts ms
    → (tuple_aimed place (each_aimed ts setting locals)).faults ≡ []
    → AimIs setting locals (tuple_aimed place (each_aimed ts setting locals)) (λ w. spots_of ms w then λ spots. gives (tuple_spot spots))

-- a part of a target, where each suffix leads into what is there, and what is there leaves nothing open
abbrev pub PartTargetsAreRight : Type 0
PartTargetsAreRight =
    (setting : Setting) (locals : Locals) (place first at_base : Place) (base : Aimed) (suffixes : List SuffixPart) (mb : Written.Target)
    (ms : List Suffix) (n : ℕ)
    → BaseIs setting locals base mb → SuffixesAre setting locals suffixes ms → Leads suffixes setting base.shape
    → below n (walked suffixes setting locals first at_base base.shape).shape ≡ true
    → (walked suffixes setting locals first at_base base.shape).faults ≡ []
    → AimIs setting locals (part_aimed place base (walked suffixes setting locals first at_base base.shape))
    (λ w. mb w then λ spot. ways_of ms w then λ ways. gives (part_spot spot ways))

-- an assignment to targets of these, also several in one
abbrev pub AssignmentsAreRight : Type 0
AssignmentsAreRight =
    (setting : Setting) (locals : Locals) (place : Place) (a : Aimed) (more : List FurtherPart) (value : Part) (m : Written.Target)
    (ms : List Written.Target) (mv : Source.Meaning)
    → (chained_faults place a ≡ [] → AimIs setting locals a m) → FurtherAre setting locals more ms → IsRight setting locals value.elaborate mv
    → IsRight setting locals (assign_to place a more value) (assigned m ms mv)

-- `f(a) = e` by itself means what the call `f(a, e)` does
abbrev pub CallTargetsAreRight : Type 0
CallTargetsAreRight =
    (setting : Setting) (locals : Locals) (name : Name) (el : Elaborate) (ms : List Source.Meaning) (mv : Source.Meaning)
    → IsRight setting locals el (λ w. in_turn (each (ms ++ mv ∷ []) w) then w.call name.place name.text)
    → IsRight setting locals el (assigned (λ w. in_turn (each ms w) then λ vs. gives (call_spot w name vs)) [] mv)

-- a shape that leaves nothing open for a later value is settled
abbrev pub OthersAreSettled : Type 0
OthersAreSettled = (types : Types) (s : Shape) → leaves_open s ≡ false → IsSettled types s
