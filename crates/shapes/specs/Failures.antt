-- All failures of a model's text, of which the first is its refusal: of overloads, of top-level lets, and of other definitions, which
-- see all lets (Sail language manual, "Let bindings", "Registers").
use Rattle.std.specs.Prelude.{List, [], ◌∷◌, ◌++◌, map, Option, Some, None}
use Rattle.sail_base.specs.declared.place.Place.{Place}
use Rattle.sail_syntax.specs.declared.types.TyExp.{TyExp}
use Rattle.sail_syntax.specs.declared.patterns.Pat.{Pat}
use Rattle.sail_syntax.specs.declared.expressions.Exp.{Exp}
use Rattle.sail_syntax.specs.declared.definitions.Def.{Def}
use Rattle.sail_syntax.specs.declared.definitions.Def.TheVariants as D
use Rattle.sail_types.specs.declared.shapes.Shape.{Shape}
use Rattle.shape_rules.specs.declared.locals.Local.{Local}
use Rattle.shape_rules.specs.declared.error.ShapeError.{ShapeError}
use Rattle.shape_rules.specs.Findings.{Found, first_failure}
use Rattle.shape_rules.specs.Written.{joined, shape_in}
use Rattle.shape_rules.specs.Scopes.{Setting, plainly}
use Rattle.shape_rules.specs.Statements.{Binding, bound}
use Rattle.shape_rules.specs.Expressions.{part}
use Rattle.shape_models.specs.Models.{Tabled, Own, meant_in, entries, setting_of, overloads_faults}
use Rattle.shape_declarations.specs.Failures.{types_faults, register_faults}
use Rattle.shape_clauses.specs.Functions.{called_faults}
use Rattle.shape_clauses.specs.Mappings.{mapping_faults}

-- ---- top-level lets are plain expressions, and each sees those before it

abbrev pub let_bound : Setting → Place → Pat → Exp → Binding
let_bound setting place p value = bound place p (part value) (plainly setting) []

-- a let under the names that lets before it bind
abbrev pub let_under : Tabled → Own → List Def → List Local → Place → Pat → Exp → Binding
let_under tabled own text lets place p value = let_bound (setting_of tabled own text lets []) place p value

-- the names that a definition binds, and those that lets bind, with these
abbrev pub let_binds : Tabled → Own → List Def → List Local → Def → List Local
let_binds tabled own text lets (D.Let place p value) = (let_under tabled own text lets place p value).binds
let_binds tabled own text lets d = []

abbrev pub lets_with : Tabled → Own → List Def → List Local → Def → List Local
lets_with tabled own text lets d = lets ++ let_binds tabled own text lets d

abbrev pub lets_behind : Tabled → Own → List Def → List Local → List Def → List Local
lets_behind tabled own text lets [] = lets
lets_behind tabled own text lets (d ∷ more) = lets_behind tabled own text (lets_with tabled own text lets d) more

abbrev pub let_faults : Tabled → Own → List Def → List Local → Def → List ShapeError
let_faults tabled own text lets (D.Let place p value) = (let_under tabled own text lets place p value).faults
let_faults tabled own text lets d = []

abbrev pub lets_faults : Tabled → Own → List Def → List Local → List Def → List ShapeError
lets_faults tabled own text lets [] = []
lets_faults tabled own text lets (d ∷ more) =
    let_faults tabled own text lets d ++ lets_faults tabled own text (lets_with tabled own text lets d) more

-- ---- registers: an initial value is a plain expression of the register's type

abbrev pub initial_found : Setting → Shape → Exp → Found
initial_found setting want value = (part value).elaborate (plainly setting) [] want

abbrev pub initial_faults : Setting → Shape → Option Exp → List ShapeError
initial_faults setting want None = []
initial_faults setting want (Some value) = (initial_found setting want value).faults

-- a register that is written so
abbrev pub written_faults : Setting → TyExp → Option Exp → List ShapeError
written_faults setting typ initial =
    register_faults setting.types setting.within typ ++ initial_faults setting (shape_in setting.within typ) initial

abbrev pub state_faults : Setting → Def → List ShapeError
state_faults setting (D.Register place name typ initial) = written_faults setting typ initial
state_faults setting d = []

-- ---- all failures of a text that has tables

abbrev pub own_in : Tabled → List Def → Own
own_in tabled text = meant_in (entries tabled text)

-- the names that all top-level lets bind
abbrev pub all_lets : Tabled → List Def → List Local
all_lets tabled text = lets_behind tabled (own_in tabled text) text [] text

abbrev pub others_faults : Tabled → Own → List Def → List Local → List ShapeError
others_faults tabled own text lets =
    types_faults tabled text
    ++ joined (map (called_faults tabled (setting_of tabled own text lets)) text)
    ++ joined (map (mapping_faults tabled (setting_of tabled own text lets [])) text)
    ++ joined (map (state_faults (setting_of tabled own text lets [])) text)

-- no two kinds of these have a failure of one number at one place, so their order doesn't matter to the first
abbrev pub all_faults : Tabled → List Def → List ShapeError
all_faults tabled text =
    overloads_faults tabled.types (own_in tabled text) text
    ++ lets_faults tabled (own_in tabled text) text [] text
    ++ others_faults tabled (own_in tabled text) text (all_lets tabled text)

-- the refusal of the phase
abbrev pub refusal : Tabled → List Def → Option ShapeError
refusal tabled text = first_failure None (all_faults tabled text)
