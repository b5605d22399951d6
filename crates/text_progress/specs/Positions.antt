-- Where the expressions of a text stand, and what type variables stand for there (Sail language manual, "Functions", "Mappings", "Let bindings").
use Rattle.std.specs.Prelude.{◌≡◌, ℕ, Bool, true, false, List, [], slice_get, Option, Some}
use Rattle.sail_base.specs.declared.kind.Kind.TheVariants as Sort
use Rattle.sail_syntax.specs.declared.definitions.Def.{Def}
use Rattle.sail_syntax.specs.declared.types.TyExp.{TyExp}
use Rattle.sail_types.specs.declared.numbers.Con.{Con}
use Rattle.sail_types.specs.declared.numbers.Num.{Num}
use Rattle.sail_types.specs.declared.shapes.Shape.{Shape}
use Rattle.sail_types.specs.declared.types.Typ.{Typ}
use Rattle.sail_types.specs.declared.values.Value.{Value}
use Rattle.sail_kinds.specs.declared.scope.Variable.{Variable}
use Rattle.sail_core.specs.Making.{World}
use Rattle.sail_names.specs.Known as Tables
use Rattle.sail_names.specs.Known.{is_construction, is_global_value}
use Rattle.sail_names.specs.Patterns.{type_failures}
use Rattle.shape_rules.specs.declared.callees.Meant.TheVariants as M
use Rattle.shape_rules.specs.declared.locals.Local.{Local}
use Rattle.shape_rules.specs.Patterns.{construct_width, width_of}
use Rattle.shape_rules.specs.Scopes.{answering, plainly}
use Rattle.shape_rules.specs.Written.{constraint_in, number_in, typ_in}
use Rattle.shape_models.specs.Models.{setting_of, within_variables}
use Rattle.shapes.specs.Failures.{own_in}
use Rattle.shapes.specs.Tabled.{tabled_of}
use Rattle.known_texts.specs.Whole.{setting_in}
use Rattle.known_names.specs.Meanings.{known_in}
use Rattle.shape_progress.specs.Conditions.{given_in, truth_given}
use Rattle.shape_meanings.specs.Keeping.{Fits}
use Rattle.shape_meanings.specs.Whole.{Choice}
use Rattle.shape_stands.specs.Inside.{Position}

-- in the body of a function or a mapping, under its type variables
abbrev pub in_body : List Def → List Variable → Option Shape → Tables.Setting → (ℕ → Bool) → Position
in_body text variables answer names converts =
    record { setting = answering answer (setting_in (tabled_of text) text variables); names = names; converts = converts }

-- in a measure, and in an initial value, which see all lets
abbrev pub in_plain : List Def → List Variable → Tables.Setting → Position
in_plain text variables names =
    record { setting = plainly (setting_in (tabled_of text) text variables); names = names; converts = λ number. false }

-- in a top-level let behind lets that bind these names
abbrev pub in_let : List Def → List Local → Tables.Setting → Position
in_let text before names =
    record { setting = plainly (setting_of (tabled_of text) (own_in (tabled_of text) text) text before []); names = names; converts = λ number. false }

-- the tables know there what the text names, under these type variables
pub record NamesAre (text : List Def) (variables : List Variable) (names : Tables.Setting) : Type 0 where
  pub known : names.known ≡ known_in text
  pub within : names.types ≡ within_variables (tabled_of text) variables

-- what a text can name of numbers there is told by what type variables stand for
pub record Given (here : Position) (w : World Value) : Type 0 where
  pub numbers : (typ : TyExp) (n : Num) → type_failures Sort.Int typ here.names ≡ [] → number_in here.setting.within typ ≡ Some n
      → given_in w.numbers n ≡ true
  pub constraints : (typ : TyExp) (x : Con) → type_failures Sort.Bool typ here.names ≡ [] → constraint_in here.setting.within typ ≡ Some x
      → truth_given w.numbers x ≡ true
  pub widths : (typ : TyExp) (t : Typ) (n : Num) → type_failures Sort.Type typ here.names ≡ [] → typ_in here.setting.within typ ≡ Some t
      → width_of t ≡ Some n → given_in w.numbers n ≡ true
  pub head_widths : (name : List ℕ) (n : Num) → is_construction here.names name ≡ true
      → construct_width here.setting (here.setting.value name) ≡ Some n → given_in w.numbers n ≡ true

-- each let that can be named there has its value
abbrev pub LetsThere : Position → Choice → World Value → Type 0
LetsThere here c w =
    (name : List ℕ) (i : ℕ) (s : Shape) → here.setting.value name ≡ Some (M.Let i s)
    → is_global_value here.names.allowed here.names.number (here.names.known.value name) ≡ true
    → (v : Value) × (slice_get w.lets i ≡ Some v) × Fits here.setting.types c s v
