-- Literals, names of values, and what is asked of types.
use Rattle.std.proofs.Common.{◌≡◌, ℕ, Bool, true, false, ◌||◌, List, [], ap, sym, ◌∙◌, refl, subst, slice_get, is_some, Option, Some, None}
use Rattle.std.proofs.Common.{if◌then◌else◌}
use Rattle.sail_base.specs.declared.kind.Kind.TheVariants as Sort
use Rattle.sail_base.specs.declared.place.Place.{Place}
use Rattle.sail_syntax.specs.declared.name.Name.{Name}
use Rattle.sail_syntax.specs.declared.name.Literal.{Literal}
use Rattle.sail_syntax.specs.declared.name.Literal.TheVariants as N
use Rattle.sail_syntax.specs.declared.types.TyExp.{TyExp}
use Rattle.sail_syntax.specs.declared.words.Asking.TheVariants.{Sizeof, Constraint}
use Rattle.sail_types.specs.Shapes.{put}
use Rattle.sail_types.specs.declared.numbers.Con.{Con}
use Rattle.sail_types.specs.declared.numbers.Num.{Num}
use Rattle.sail_types.specs.declared.shapes.Shape.{Shape}
use Rattle.sail_types.specs.declared.shapes.Shape.TheVariants as V
use Rattle.sail_types.specs.declared.table.Types.{Types}
use Rattle.sail_types.specs.declared.values.Value.{Value}
use Rattle.sail_core.specs.Making.{World}
use Rattle.sail_core.specs.Values.{literal_value as core_value}
use Rattle.sail_core.specs.declared.patterns.Literal.TheVariants as L
use Rattle.sail_core.specs.declared.tree.Kind.TheVariants as K
use Rattle.sail_names.specs.declared.locals.Binding.{Binding}
use Rattle.sail_names.specs.declared.locals.Binding.TheVariants.{Constant, Variable}
use Rattle.sail_names.specs.declared.names.Global.{Global}
use Rattle.sail_names.specs.declared.names.Global.TheVariants as G
use Rattle.sail_names.specs.Known.{is_global_value, is_value}
use Rattle.sail_names.specs.Locals as Bound
use Rattle.sail_names.specs.Locals.{binding_of}
use Rattle.sail_names.specs.Patterns.{type_failures, unless}
use Rattle.shape_joins.proofs.Order.{no}
use Rattle.shape_rules.specs.declared.callees.Meant.{Meant}
use Rattle.shape_rules.specs.declared.callees.Meant.TheVariants as M
use Rattle.shape_rules.specs.declared.locals.Local.{Local}
use Rattle.shape_rules.specs.Patterns.{core_literal, literal_shape}
use Rattle.shape_rules.specs.Scopes.{Locals, local_of}
use Rattle.shape_rules.specs.Statements.{of_type_found, size_found, truth_found}
use Rattle.shape_rules.specs.Values.{constant_found, global_found, local_kind, name_found}
use Rattle.shape_rules.specs.Written.{constraint_in, number_in, numbers_in, written_faults}
use Rattle.shape_meanings.specs.Keeping.{Fits, Reach, reach_of}
use Rattle.shape_meanings.specs.Naming.{AreBound, AreKnown, BoundAs, MeantAs}
use Rattle.shape_meanings.specs.Whole.{Choice, all_below}
use Rattle.shape_meanings.proofs.Naming.{closed_is, register_closed, unless_true}
use Rattle.shape_meanings.proofs.Runs.{is_named}
use Rattle.shape_meanings.proofs.Settling.{literal_fits, same_name}
use Rattle.shape_progress.specs.Rules.{KindHas}
use Rattle.shape_stands.specs.Inside.{Position}
use Rattle.shape_stands.specs.Stands.{FoundShaped, HasShape, IsShapedAt}
use Rattle.shape_stands.proofs.Standing.{both_empty, settled_node}

-- ---- literals

literal_has : (types : Types) (c : Choice) (literal : Literal) → Fits types c (literal_shape literal) (core_value (core_literal literal))
literal_has types c (N.Number n) = literal_fits types c (N.Number n)
literal_has types c (N.Bits bits) = literal_fits types c (N.Bits bits)
literal_has types c (N.String text) = literal_fits types c (N.String text)
literal_has types c (N.Bool b) = literal_fits types c (N.Bool b)
literal_has types c (N.Bit b) = literal_fits types c (N.Bit b)

pub constant_shaped : (here : Position) (locals : Locals) (place : Place) (literal : Literal) (want : Shape)
    → FoundShaped here locals (constant_found place literal want)
constant_shaped here locals place literal want e =
    settled_node here locals place place want (literal_shape literal) (λ s. K.Constant (core_literal literal)) [] e
    (λ t registers c w inside slots seen. literal_has here.setting.types c literal)

-- ---- names in scope

local_ruled : (w : World Value) (reach : Reach) (l : Local) (b : Bool) → local_of l.name reach.slots ≡ Some l
    → KindHas (HasShape w) w reach l.shape (if b then K.Variable l.name else K.Local l.name) []
local_ruled w reach l true is = (l, is, refl)
local_ruled w reach l false is = (l, is, refl)

local_shaped : (here : Position) (locals : Locals) (want : Shape) (name : Name) (l : Local) (meant : Option Meant) → local_of name.text locals ≡ Some l
    → FoundShaped here locals (name_found name (Some l) meant want)
local_shaped here locals want name l meant is e =
    settled_node here locals name.place name.place want l.shape (λ s. local_kind l) [] e
    (λ t registers c w inside slots seen.
    local_ruled w (reach_of here.setting registers c slots) l l.is_variable
    (subst (λ n. local_of n slots ≡ Some l) (sym (same_name l.name name.text (is_named locals name.text l is))) (seen name.text ∙ is)))

-- ---- names that no local hides

register_ruled : (registers : List Shape) (c : Choice) (r : ℕ) (s : Shape) → all_below 0 registers ≡ true → slice_get registers r ≡ Some s
    → slice_get registers r ≡ Some (put c s)
register_ruled registers c r s closed is = is ∙ ap Some (sym (closed_is s c (register_closed registers r s closed is)))

abbrev IsThere : Position → Name → Type 0
IsThere here name = is_global_value here.names.allowed here.names.number (here.names.known.value name.text) ≡ true

register_shaped : (here : Position) (locals : Locals) (want : Shape) (name : Name) (r : ℕ) (s : Shape) → here.setting.value name.text ≡ Some (M.Register r s)
    → IsThere here name → FoundShaped here locals (global_found name.place (Some (M.Register r s)) want)
register_shaped here locals want name r s is there e =
    settled_node here locals name.place name.place want s (λ t. K.Register r) [] e
    (λ t registers c w inside slots seen.
    register_ruled registers c r s inside.registers_closed (inside.registers_there name.text r s is there))

let_shaped : (here : Position) (locals : Locals) (want : Shape) (name : Name) (i : ℕ) (s : Shape) → here.setting.value name.text ≡ Some (M.Let i s)
    → IsThere here name → FoundShaped here locals (global_found name.place (Some (M.Let i s)) want)
let_shaped here locals want name i s is there e =
    settled_node here locals name.place name.place want s (λ t. K.TopLevel i) [] e
    (λ t registers c w inside slots seen. inside.lets name.text i s is there)

member_shaped : (here : Position) (locals : Locals) (want : Shape) (name : Name) (i k : ℕ) → here.setting.value name.text ≡ Some (M.Member i k)
    → FoundShaped here locals (global_found name.place (Some (M.Member i k)) want)
member_shaped here locals want name i k is e =
    settled_node here locals name.place name.place want (V.Named i []) (λ t. K.Constant (L.Member i k)) [] e
    (λ t registers c w inside slots seen. (inside.members name.text i k is).1)

global_shaped : (here : Position) (locals : Locals) (want : Shape) (name : Name) (g : Option Global) (meant : Option Meant)
    → MeantAs here.names g meant → is_global_value here.names.allowed here.names.number g ≡ true → IsThere here name
    → here.setting.value name.text ≡ meant → FoundShaped here locals (global_found name.place meant want)
global_shaped here locals want name (Some G.Register) meant m h there is =
    subst (λ o. FoundShaped here locals (global_found name.place o want)) (sym m.2)
    (register_shaped here locals want name m.0 m.1 (is ∙ m.2) there)
global_shaped here locals want name (Some (G.Let n)) meant m h there is =
    let k = m h in
    subst (λ o. FoundShaped here locals (global_found name.place o want)) (sym k.2) (let_shaped here locals want name k.0 k.1 (is ∙ k.2) there)
global_shaped here locals want name (Some G.Member) meant m h there is =
    subst (λ o. FoundShaped here locals (global_found name.place o want)) (sym m.2) (member_shaped here locals want name m.0 m.1 (is ∙ m.2))
global_shaped here locals want name g meant m h there is = no h

name_step : (here : Position) → AreKnown here.setting here.names → (locals : Locals) (want : Shape) (name : Name) (o : Option Local) (b : Option Binding)
    → local_of name.text locals ≡ o → BoundAs b o
    → (is_some b || is_global_value here.names.allowed here.names.number (here.names.known.value name.text)) ≡ true
    → FoundShaped here locals (name_found name o (here.setting.value name.text) want)
name_step here known locals want name (Some l) b is bound_as h = local_shaped here locals want name l (here.setting.value name.text) is
name_step here known locals want name None None is bound_as h =
    global_shaped here locals want name (here.names.known.value name.text) (here.setting.value name.text) (known.values name.text) h h refl
name_step here known locals want name None (Some Constant) is bound_as h = absurd bound_as
name_step here known locals want name None (Some Variable) is bound_as h = absurd bound_as

-- a name of a value
pub name_shaped : (here : Position) → AreKnown here.setting here.names → (locals : Locals) (bound : Bound.Locals) → AreBound bound locals
    → (name : Name) → unless (is_value here.names bound name.text) name ≡ []
    → (want : Shape) → FoundShaped here locals (name_found name (local_of name.text locals) (here.setting.value name.text) want)
name_shaped here known locals bound are name h want =
    name_step here known locals want name (local_of name.text locals) (binding_of name.text bound) refl (are name.text)
    (unless_true (is_value here.names bound name.text) name h)

-- ---- `sizeof` and `constraint`

pub sizeof_shaped : (here : Position) (locals : Locals) (place : Place) (typ : TyExp) (n : Num) → type_failures Sort.Int typ here.names ≡ []
    → number_in here.setting.within typ ≡ Some n → IsShapedAt here locals (of_type_found place Sizeof typ)
sizeof_shaped here locals place typ n fine is want =
    subst (λ o. FoundShaped here locals (size_found place typ here.setting want o)) (sym is)
    (λ e. settled_node here locals place place want V.Int (λ s. K.SizeOf n (numbers_in here.setting.within typ)) []
    (both_empty (written_faults here.setting.within typ) _ e).1
    (λ t registers c w inside slots seen. (refl, inside.numbers typ n fine is)))

pub constraint_shaped : (here : Position) (locals : Locals) (place : Place) (typ : TyExp) (x : Con) → type_failures Sort.Bool typ here.names ≡ []
    → constraint_in here.setting.within typ ≡ Some x → IsShapedAt here locals (of_type_found place Constraint typ)
constraint_shaped here locals place typ x fine is want =
    subst (λ o. FoundShaped here locals (truth_found place typ here.setting want o)) (sym is)
    (λ e. settled_node here locals place place want V.Bool (λ s. K.Constraint x (numbers_in here.setting.within typ)) []
    (both_empty (written_faults here.setting.within typ) _ e).1
    (λ t registers c w inside slots seen. (refl, inside.constraints typ x fine is)))
