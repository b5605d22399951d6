-- Forms that go through several steps: names that are bound, loops, `try`; and vectors, `sizeof` and `constraint`.
use Rattle.std.specs.Prelude.{◌≡◌, List, ◌∷◌, [], Option, Some}
use Rattle.sail_base.specs.declared.place.Place.{Place}
use Rattle.sail_types.specs.declared.numbers.Con.{Con}
use Rattle.sail_types.specs.declared.numbers.Num.{Num}
use Rattle.sail_types.specs.declared.shapes.Shape.TheVariants as V
use Rattle.sail_syntax.specs.declared.name.Name.{Name}
use Rattle.sail_syntax.specs.declared.patterns.Pat.{Pat}
use Rattle.sail_syntax.specs.declared.types.TyExp.{TyExp}
use Rattle.sail_syntax.specs.declared.words.Asking.TheVariants.{Sizeof, Constraint}
use Rattle.sail_syntax.specs.declared.words.Brackets.TheVariants as B
use Rattle.sail_syntax.specs.declared.words.Choosing.TheVariants.{Try}
use Rattle.sail_syntax.specs.declared.words.Looping.TheVariants.{While, Repeat}
use Rattle.sail_core.specs.Run.{needs, in_turn, ◌then◌}
use Rattle.sail_meaning.specs.World as Source
use Rattle.sail_meaning.specs.World.{integer}
use Rattle.sail_meaning.specs.Loops as Turns
use Rattle.sail_meaning.specs.Expressions.{Case, each, group, or_one, asked, chosen, let_in, var_in}
use Rattle.shape_rules.specs.Scopes.{Setting, Locals, constant, under, plainly, thrown_shape}
use Rattle.shape_rules.specs.Written.{number_in, constraint_in}
use Rattle.shape_rules.specs.Targets.{Part}
use Rattle.shape_rules.specs.Calls.{Elaborate}
use Rattle.shape_rules.specs.Values.{group_found}
use Rattle.shape_rules.specs.Statements.{CasePart, RangePart, bound, declaring, declared_as, let_found, var_found, choose_found, foreach_found}
use Rattle.shape_rules.specs.Statements.{loop_found}
use Rattle.shape_rules.specs.Statements.{of_type_found}
use Rattle.shape_meanings.specs.Parts.{IsRight, AreRight, MaybeIs, TypIs, CasesAre, StatementIs, PatternIs}

-- `let .. in` and `var .. in`, and `var` before a `;`
abbrev pub LetInsAreRight : Type 0
LetInsAreRight =
    (setting : Setting) (locals : Locals) (place : Place) (p : Pat) (a body : Part) (ma mb : Source.Meaning)
    → IsRight setting locals a.elaborate ma → PatternIs setting p → IsRight setting (under (bound place p a setting locals).binds locals) body.elaborate mb
    → IsRight setting locals (let_found place p a body) (λ w. let_in w place p (ma w) (mb w))

abbrev pub VarInsAreRight : Type 0
VarInsAreRight =
    (setting : Setting) (locals : Locals) (place : Place) (name : Name) (typ : Option TyExp) (a body : Part) (ma mb : Source.Meaning)
    → TypIs setting typ → IsRight setting locals a.elaborate ma
    → ((declaring place name typ a setting locals).faults ≡ []
    → IsRight setting ((declaring place name typ a setting locals).local ∷ locals) body.elaborate mb)
    → IsRight setting locals (var_found place name typ a body) (λ w. var_in name.text (ma w) (mb w))

abbrev pub VarsAreRight : Type 0
VarsAreRight =
    (setting : Setting) (locals : Locals) (place : Place) (name : Name) (typ : Option TyExp) (a : Part) (m : Source.Meaning)
    → TypIs setting typ → IsRight setting locals a.elaborate m
    → StatementIs setting locals (λ setting locals. declared_as name (declaring place name typ a setting locals) locals) (λ w rest. var_in name.text (m w) rest)

-- ---- loops; a measure is a plain expression

abbrev pub ForeachesAreRight : Type 0
ForeachesAreRight =
    (setting : Setting) (locals : Locals) (place : Place) (name : Name) (range : RangePart) (body : Part) (ma mb m : Source.Meaning)
    (by : Option Source.Meaning)
    → IsRight setting locals range.from.elaborate ma → IsRight setting locals range.to.elaborate mb → MaybeIs setting locals range.by by
    → IsRight setting (constant name.text V.Int ∷ locals) body.elaborate m
    → IsRight setting locals (foreach_found place name range body)
    (λ w. ma w then λ u. integer u then λ from. mb w then λ v. integer v then λ to. or_one by w then λ x. integer x then λ step.
    Turns.foreach name.text range.direction from to step (m w))

abbrev pub WhilesAreRight : Type 0
WhilesAreRight =
    (setting : Setting) (locals : Locals) (place : Place) (measure condition body : Part) (mm mc mb : Source.Meaning)
    → IsRight (plainly setting) locals measure.elaborate mm → IsRight setting locals condition.elaborate mc → IsRight setting locals body.elaborate mb
    → IsRight setting locals (loop_found place While (Some measure) condition body) (Turns.looped While place (Some mm) mc mb)

abbrev pub RepeatsAreRight : Type 0
RepeatsAreRight =
    (setting : Setting) (locals : Locals) (place : Place) (measure condition body : Part) (mm mc mb : Source.Meaning)
    → IsRight (plainly setting) locals measure.elaborate mm → IsRight setting locals condition.elaborate mc → IsRight setting locals body.elaborate mb
    → IsRight setting locals (loop_found place Repeat (Some measure) condition body) (Turns.looped Repeat place (Some mm) mc mb)

-- ---- `try`, vectors, `sizeof` and `constraint`

abbrev pub TriesAreRight : Type 0
TriesAreRight =
    (setting : Setting) (locals : Locals) (place : Place) (value : Part) (cs : List CasePart) (mv : Source.Meaning) (ms : List Case)
    → IsRight setting locals value.elaborate mv → CasesAre setting locals (thrown_shape setting) cs ms
    → IsRight setting locals (choose_found place Try value cs) (chosen Try place mv ms)

abbrev pub VectorsAreRight : Type 0
VectorsAreRight =
    (setting : Setting) (locals : Locals) (place : Place) (es : List Elaborate) (ms : List Source.Meaning) → AreRight setting locals es ms
    → IsRight setting locals (group_found place B.Vector es) (λ w. in_turn (each ms w) then group B.Vector)

-- a number or a constraint that stands for something
abbrev pub SizesAreRight : Type 0
SizesAreRight =
    (setting : Setting) (locals : Locals) (place : Place) (typ : TyExp) (t : Num) → number_in setting.within typ ≡ Some t
    → IsRight setting locals (of_type_found place Sizeof typ) (λ w. needs (asked Sizeof typ w))

abbrev pub ConstraintsAreRight : Type 0
ConstraintsAreRight =
    (setting : Setting) (locals : Locals) (place : Place) (typ : TyExp) (t : Con) → constraint_in setting.within typ ≡ Some t
    → IsRight setting locals (of_type_found place Constraint typ) (λ w. needs (asked Constraint typ w))
