-- What names and widths mean where a pattern of an accepted text stands, as the law of patterns takes it (Sail language manual, "Pattern matching").
use Rattle.std.specs.Prelude.{◌≡◌, ℕ, Bool, true, List, [], Option, Some, None}
use Rattle.sail_base.specs.declared.place.Place.{Place}
use Rattle.sail_syntax.specs.declared.definitions.Def.{Def}
use Rattle.sail_syntax.specs.declared.patterns.Pat.{Pat}
use Rattle.sail_kinds.specs.declared.scope.Variable.{Variable}
use Rattle.sail_types.specs.declared.numbers.Index.{Index}
use Rattle.sail_types.specs.declared.shapes.Shape.{Shape}
use Rattle.sail_types.specs.declared.types.Typ.{Typ}
use Rattle.sail_names.specs.Known as Tables
use Rattle.sail_names.specs.declared.around.Allowed.TheVariants.{Plain}
use Rattle.sail_names.specs.Patterns.{uses_failures}
use Rattle.sail_tables.specs.Refused.{IsAccepted}
use Rattle.shape_declarations.specs.Signatures.{number_parameters}
use Rattle.shape_meanings.specs.Naming.{AreKnown}
use Rattle.shape_rules.specs.Scopes.{Setting}
use Rattle.shape_rules.specs.Sides.{gives, width_given}
use Rattle.shape_rules.specs.declared.locals.Local.{Local}
use Rattle.shapes.specs.Failures.{refusal}
use Rattle.shapes.specs.Tabled.{tabled_of}
use Rattle.known_texts.specs.Written.{IsWritten}
use Rattle.text_progress.specs.GivenTypes.{typ_given}
use Rattle.text_progress.specs.Positions.{in_body, in_let, in_plain}
use Rattle.found_patterns.specs.Meant.{NamesStand, WidthsOwn, WidthsStand}
use Rattle.call_fits.specs.Calls.{own_variables}

-- the Int and Bool variables of a function, as its walk has them
abbrev pub own_in : List Variable → List Index
own_in variables = own_variables 0 (number_parameters variables)

-- members and constructors are in the table, and widths are numbers over these variables
abbrev pub PatternsMeant : List Index → Setting → Tables.Setting → Type 0
PatternsMeant numbers setting names = NamesStand setting.types setting names × WidthsOwn numbers setting names

pub record PatternNames (text : List Def) : Type 0 where
  -- in bodies of functions and mappings, under their type variables
  pub bodies : (variables : List Variable) (answer : Option Shape) (names : Tables.Setting) (converts : ℕ → Bool)
      → PatternsMeant (own_in variables) (in_body text variables answer names converts).setting names
  -- in measures and initial values, and in top-level lets behind lets that bind these names
  pub plain : (variables : List Variable) (names : Tables.Setting) → PatternsMeant (own_in variables) (in_plain text variables names).setting names
  pub lets : (some : List Local) (names : Tables.Setting) → AreKnown (in_let text some names).setting names → names.allowed ≡ Plain
      → PatternsMeant [] (in_let text some names).setting names
  -- widths that one side of a mapping's clause gives the names of the other, under a type without variables
  pub sides : (answer : Option Shape) (names : Tables.Setting) (converts : ℕ → Bool) (p : Pat) → uses_failures names p ≡ [] → (t : Typ)
      → typ_given [] t ≡ true → WidthsStand [] (width_given (gives p (in_body text [] answer names converts).setting (Some t)))

abbrev pub PatternsOfTextsMeant : Type 0
PatternsOfTextsMeant = (text : List Def) (end : Place) → IsAccepted text end → refusal (tabled_of text) text ≡ None → IsWritten text → PatternNames text
