-- Forms of expressions, each over whatever its parts are: where the parts are right, so is the form.
use Rattle.std.specs.Prelude.{◌≡◌, ℕ, Bool, true, false, List, [], ◌∷◌, Option, Some, None}
use Rattle.sail_base.specs.declared.place.Place.{Place}
use Rattle.sail_types.specs.declared.shapes.Shape.{Shape, out-Shape}
use Rattle.sail_types.specs.declared.shapes.Shape.TheVariants as V
use Rattle.sail_base.specs.declared.operators.Operator.{Operator}
use Rattle.sail_base.specs.declared.operators.Prefix.{Prefix}
use Rattle.sail_types.specs.Shapes.{shape}
use Rattle.sail_types.specs.declared.types.Typ.{Typ}
use Rattle.sail_types.specs.declared.values.Value.{out-Value}
use Rattle.sail_types.specs.declared.values.Value.TheVariants as Val
use Rattle.sail_syntax.specs.declared.patterns.Pat.{Pat}
use Rattle.sail_syntax.specs.declared.types.TyExp.{TyExp}
use Rattle.sail_syntax.specs.declared.words.Brackets.TheVariants as B
use Rattle.sail_syntax.specs.declared.words.Choosing.TheVariants.{Match}
use Rattle.sail_syntax.specs.declared.words.Leaving.TheVariants as Leave
use Rattle.model_state.specs.declared.cause.Cause.TheVariants as Cause
use Rattle.sail_syntax.specs.declared.name.Name.{Name}
use Rattle.sail_syntax.specs.declared.name.Literal.{Literal}
use Rattle.sail_core.specs.Run.{gives, stops, if_so, in_turn, ◌then◌}
use Rattle.sail_meaning.specs.World as Source
use Rattle.sail_meaning.specs.World.{truth, apply_prefix}
use Rattle.sail_meaning.specs.Expressions.{literal_value, Case, Statement, each, group, leave, infix_of, chosen, block, let_in}
use Rattle.sail_meaning.specs.Targets.{name_read}
use Rattle.sail_names.specs.Known as Tables
use Rattle.sail_names.specs.Known.{is_value}
use Rattle.sail_names.specs.Locals as Bound
use Rattle.sail_names.specs.Patterns.{unless}
use Rattle.shape_rules.specs.Findings.{Found, given_on}
use Rattle.shape_rules.specs.Scopes.{Setting, Locals, local_of}
use Rattle.shape_rules.specs.Targets.{Part}
use Rattle.shape_rules.specs.declared.callees.Candidate.{Candidate}
use Rattle.shape_rules.specs.declared.callees.Meant.TheVariants as M
use Rattle.shape_rules.specs.Written.{typ_in}
use Rattle.shape_rules.specs.Calls.{Elaborate, several_called, or_unit, one_called, arguments_for}
use Rattle.shape_rules.specs.Values.{constant_found, name_found, unit_found, group_found, typed_found, leave_found, prefix_found, infix_found}
use Rattle.shape_rules.specs.Values.{logical_kind}
use Rattle.shape_rules.specs.Values.{logical_found, is_truth_form, does_convert}
use Rattle.shape_rules.specs.Statements.{CasePart, StatementPart, if_between, if_found, assert_found, choose_found, blocked, block_found, evaluated}
use Rattle.shape_rules.specs.Statements.{defined_as, bound}
use Rattle.shape_meanings.specs.Whole.{below}
use Rattle.shape_meanings.specs.Naming.{AreKnown, AreBound}
use Rattle.shape_meanings.specs.Sound.{Right}
use Rattle.shape_meanings.specs.Parts.{IsRight, AreRight, CasesAre, StatementIs, StatementsAre, PatternIs, operator_of, kind_of}

abbrev pub LiteralsAreRight : Type 0
LiteralsAreRight =
    (setting : Setting) (locals : Locals) (want : Shape) (place : Place) (literal : Literal) → (constant_found place literal want).faults ≡ []
    → Right setting locals want (constant_found place literal want) (λ w. gives (literal_value literal))

-- a name of a value that the tables know
abbrev pub NamesAreRight : Type 0
NamesAreRight =
    (setting : Setting) (names : Tables.Setting) → AreKnown setting names → (locals : Locals) (bound : Bound.Locals) → AreBound bound locals
    → (want : Shape) (name : Name) → unless (is_value names bound name.text) name ≡ []
    → (name_found name (local_of name.text locals) (setting.value name.text) want).faults ≡ []
    → Right setting locals want (name_found name (local_of name.text locals) (setting.value name.text) want) (λ w. name_read w name.text)

-- `if` with both branches, of which the first one's shape is wanted of the second
abbrev pub BranchesAreRight : Type 0
BranchesAreRight =
    (setting : Setting) (locals : Locals) (want : Shape) (place : Place) (c a b : Found) (part_a part_b : Part) (mc ma mb : Source.Meaning)
    → Right setting locals V.Bool c mc → Right setting locals want a ma → Right setting locals (given_on want a.shape) b mb
    → Right setting locals want (if_between place want c part_a a part_b b) (λ w. mc w then λ v. truth v then if_so (ma w) (mb w))

-- `if` without `else`
abbrev pub ShortIfsAreRight : Type 0
ShortIfsAreRight =
    (setting : Setting) (locals : Locals) (place : Place) (c a : Part) (mc ma : Source.Meaning)
    → IsRight setting locals c.elaborate mc → IsRight setting locals a.elaborate ma
    → IsRight setting locals (if_found place c a None) (λ w. mc w then λ v. truth v then if_so (ma w) (gives Val.Unit))

abbrev pub AssertsAreRight : Type 0
AssertsAreRight =
    (setting : Setting) (locals : Locals) (place : Place) (a : Part) (text : Option (List ℕ)) (m : Source.Meaning) → IsRight setting locals a.elaborate m
    → IsRight setting locals (assert_found place a text) (λ w. m w then λ v. truth v then if_so (gives Val.Unit) (stops (Cause.Assertion place text)))

-- `e : T`, where T stands for a type that leaves nothing open
abbrev pub TypesAreRight : Type 0
TypesAreRight =
    (setting : Setting) (locals : Locals) (place : Place) (a : Part) (typ : TyExp) (t : Typ) (n : ℕ) (m : Source.Meaning)
    → typ_in setting.within typ ≡ Some t → below n (shape t) ≡ true → IsRight setting locals a.elaborate m
    → IsRight setting locals (typed_found place a typ) m

-- ---- leaving

abbrev pub ReturnsAreRight : Type 0
ReturnsAreRight =
    (setting : Setting) (locals : Locals) (place : Place) (a : Part) (s : Shape) (n : ℕ) (m : Source.Meaning) → setting.answer ≡ Some s
    → below n s ≡ true → IsRight setting locals a.elaborate m
    → IsRight setting locals (leave_found place Leave.Return a) (λ w. m w then leave place Leave.Return)

abbrev pub ThrowsAreRight : Type 0
ThrowsAreRight =
    (setting : Setting) (locals : Locals) (place : Place) (a : Part) (i : ℕ) (m : Source.Meaning) → setting.exception ≡ Some i
    → IsRight setting locals a.elaborate m → IsRight setting locals (leave_found place Leave.Throw a) (λ w. m w then leave place Leave.Throw)

abbrev pub ExitsAreRight : Type 0
ExitsAreRight =
    (setting : Setting) (locals : Locals) (place : Place) (a : Part) (m : Source.Meaning) → IsRight setting locals a.elaborate m
    → IsRight setting locals (leave_found place Leave.Exit a) (λ w. m w then leave place Leave.Exit)

-- ---- calls and operators

-- a call of an overload, also one without an argument
abbrev pub OverloadsAreRight : Type 0
OverloadsAreRight =
    (setting : Setting) (locals : Locals) (want : Shape) (name : Name) (fs : List Candidate) (es : List Elaborate) (ms : List Source.Meaning)
    → setting.value name.text ≡ Some (M.Overload fs) → AreRight setting locals es ms
    → (several_called name.place name.text fs (or_unit (unit_found name.place) es) setting locals want).faults ≡ []
    → Right setting locals want (several_called name.place name.text fs (or_unit (unit_found name.place) es) setting locals want)
    (λ w. in_turn (each ms w) then w.call name.place name.text)

abbrev pub PrefixesAreRight : Type 0
PrefixesAreRight =
    (setting : Setting) (locals : Locals) (place : Place) (prefix : Prefix) (a : Part) (m : Source.Meaning)
    → IsRight setting locals a.elaborate m → IsRight setting locals (prefix_found place prefix a) (λ w. m w then apply_prefix w prefix)

-- an operator that isn't `&` or `|`
abbrev pub OperatorsAreRight : Type 0
OperatorsAreRight =
    (setting : Setting) (locals : Locals) (place : Place) (operator : Operator) (a b : Part) (ma mb : Source.Meaning)
    → logical_kind operator ≡ None → IsRight setting locals a.elaborate ma → IsRight setting locals b.elaborate mb
    → IsRight setting locals (infix_found place operator a b) (λ w. ma w then λ v. infix_of w place operator v (out-Value v) (mb w))

-- `&` and `|`, where the left operand is a truth or never ends
abbrev pub LogicalsAreRight : Type 0
LogicalsAreRight =
    (setting : Setting) (locals : Locals) (want : Shape) (place : Place) (is_and : Bool) (a b : Found) (ma mb : Source.Meaning)
    → is_truth_form (out-Shape a.shape) ≡ true → Right setting locals V.Never a ma → Right setting locals V.Bool b mb
    → (logical_found place (kind_of is_and) want a b).faults ≡ []
    → Right setting locals want (logical_found place (kind_of is_and) want a b)
    (λ w. ma w then λ v. infix_of w place (operator_of is_and) v (out-Value v) (mb w))

-- a function or a constructor
abbrev pub CalleesAreRight : Type 0
CalleesAreRight =
    (setting : Setting) (locals : Locals) (want : Shape) (name : Name) (f : Candidate) (es : List Elaborate) (ms : List Source.Meaning)
    → setting.value name.text ≡ Some (M.Callee f) → does_convert f.doing ≡ false → AreRight setting locals es ms
    → (one_called name.place f (arguments_for (unit_found name.place) f.params es) setting locals want).faults ≡ []
    → Right setting locals want (one_called name.place f (arguments_for (unit_found name.place) f.params es) setting locals want)
    (λ w. in_turn (each ms w) then w.call name.place name.text)

-- ---- tuples, lists, cases, blocks

abbrev pub TuplesAreRight : Type 0
TuplesAreRight =
    (setting : Setting) (locals : Locals) (place : Place) (e f : Elaborate) (es : List Elaborate) (ms : List Source.Meaning)
    → AreRight setting locals (e ∷ f ∷ es) ms
    → IsRight setting locals (group_found place B.Tuple (e ∷ f ∷ es)) (λ w. in_turn (each ms w) then group B.Tuple)

abbrev pub ListsAreRight : Type 0
ListsAreRight =
    (setting : Setting) (locals : Locals) (place : Place) (es : List Elaborate) (ms : List Source.Meaning) → AreRight setting locals es ms
    → IsRight setting locals (group_found place B.List es) (λ w. in_turn (each ms w) then group B.List)

abbrev pub MatchesAreRight : Type 0
MatchesAreRight =
    (setting : Setting) (locals : Locals) (place : Place) (value : Part) (cs : List CasePart) (mv : Source.Meaning) (ms : List Case)
    → IsRight setting locals value.elaborate mv → CasesAre setting locals (value.elaborate setting locals V.Never).shape cs ms
    → IsRight setting locals (choose_found place Match value cs) (chosen Match place mv ms)

-- a block with a value, and one without
abbrev pub BlocksAreRight : Type 0
BlocksAreRight =
    (setting : Setting) (locals : Locals) (place : Place) (ss : List StatementPart) (value : Part) (ms : List Statement) (mv : Source.Meaning)
    → StatementsAre setting locals ss ms
    → ((blocked ss setting locals).faults ≡ [] → IsRight setting (blocked ss setting locals).locals value.elaborate mv)
    → IsRight setting locals (block_found place ss (Some value)) (block ms (Some mv))

abbrev pub UnitBlocksAreRight : Type 0
UnitBlocksAreRight =
    (setting : Setting) (locals : Locals) (place : Place) (ss : List StatementPart) (ms : List Statement) → StatementsAre setting locals ss ms
    → IsRight setting locals (block_found place ss None) (block ms None)

-- an expression before a `;`, and a `let` there
abbrev pub StepsAreRight : Type 0
StepsAreRight =
    (setting : Setting) (locals : Locals) (a : Part) (m : Source.Meaning) → IsRight setting locals a.elaborate m
    → StatementIs setting locals (evaluated a) (λ w rest. m w then λ v. rest)

abbrev pub LetsAreRight : Type 0
LetsAreRight =
    (setting : Setting) (locals : Locals) (place : Place) (p : Pat) (a : Part) (m : Source.Meaning) → IsRight setting locals a.elaborate m → PatternIs setting p
    → StatementIs setting locals (λ setting locals. defined_as place (bound place p a setting locals) locals) (λ w rest. let_in w place p (m w) rest)
