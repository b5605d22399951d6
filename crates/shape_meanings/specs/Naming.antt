-- Names that the tables have found to mean something: what is known there is what names mean where shapes are found.
use Rattle.std.specs.Prelude.{◌≡◌, ℕ, Bool, true, false, List, [], ◌∷◌, Option, Some, None}
use Rattle.sail_base.specs.declared.kind.Kind.TheVariants as Sort
use Rattle.sail_syntax.specs.declared.types.TyExp.{TyExp}
use Rattle.sail_types.specs.Shapes.{shape}
use Rattle.sail_types.specs.Named.{fields}
use Rattle.sail_types.specs.declared.table.Field.{Field}
use Rattle.sail_types.specs.declared.numbers.Con.{Con}
use Rattle.sail_types.specs.declared.shapes.Shape.{Shape}
use Rattle.sail_types.specs.declared.numbers.Num.{Num}
use Rattle.sail_types.specs.declared.types.Typ.{Typ}
use Rattle.sail_names.specs.declared.locals.Binding.{Binding}
use Rattle.sail_names.specs.declared.locals.Binding.TheVariants.{Constant, Variable}
use Rattle.sail_names.specs.declared.names.Global.{Global}
use Rattle.sail_names.specs.declared.names.Global.TheVariants as G
use Rattle.sail_names.specs.Known as Tables
use Rattle.sail_names.specs.Known.{is_any, is_let_seen}
use Rattle.sail_names.specs.Locals as Bound
use Rattle.sail_names.specs.Patterns.{type_failures}
use Rattle.sail_names.specs.Locals.{binding_of}
use Rattle.shape_rules.specs.declared.callees.Candidate.{Candidate}
use Rattle.shape_rules.specs.declared.callees.Doing.{Doing}
use Rattle.shape_rules.specs.declared.callees.Doing.TheVariants as D
use Rattle.sail_core.specs.declared.tree.Callee.{Callee}
use Rattle.sail_core.specs.declared.tree.Callee.TheVariants as C
use Rattle.shape_rules.specs.declared.callees.Meant.{Meant}
use Rattle.shape_rules.specs.declared.callees.Meant.TheVariants as M
use Rattle.shape_rules.specs.declared.locals.Local.{Local}
use Rattle.shape_rules.specs.Scopes.{Setting, Locals, local_of}
use Rattle.shape_rules.specs.Targets.{callees_of}
use Rattle.shape_rules.specs.Written.{typ_in, number_in, constraint_in}
use Rattle.shape_meanings.specs.Whole.{below}
use Rattle.shape_meanings.specs.Counted.{Counts, counted}

-- ---- names of values

abbrev pub is_function : Doing → Bool
is_function (D.Calls (C.Function n)) = true
is_function doing = false

abbrev pub is_constructor : Doing → Bool
is_constructor (D.Calls (C.Constructor u k)) = true
is_constructor doing = false

abbrev pub is_conversion : Doing → Bool
is_conversion (D.Calls (C.Converts d)) = true
is_conversion doing = false

-- a name that means something in the tables means it here, where it can be named: a plain expression names earlier top-level lets alone, and no
-- function, mapping or overload
abbrev pub MeantAs : Tables.Setting → Option Global → Option Meant → Type 0
MeantAs names (Some G.Register) meant = (r : ℕ) × (s : _) × (meant ≡ Some (M.Register r s))
MeantAs names (Some (G.Let n)) meant = is_let_seen names.allowed n names.number ≡ true → (i : ℕ) × (s : _) × (meant ≡ Some (M.Let i s))
MeantAs names (Some G.Member) meant = (i : ℕ) × (k : ℕ) × (meant ≡ Some (M.Member i k))
MeantAs names (Some (G.Function n)) meant = is_any names.allowed ≡ true → (f : Candidate) × (meant ≡ Some (M.Callee f)) × (is_function f.doing ≡ true)
MeantAs names (Some (G.Direction n)) meant = is_any names.allowed ≡ true → (f : Candidate) × (meant ≡ Some (M.Callee f)) × (is_conversion f.doing ≡ true)
MeantAs names (Some G.Constructor) meant = (f : Candidate) × (meant ≡ Some (M.Callee f)) × (is_constructor f.doing ≡ true)
MeantAs names (Some (G.Mapping n)) meant = is_any names.allowed ≡ true → (m : _) × (meant ≡ Some (M.Mapping m))
MeantAs names (Some (G.Overload ns)) meant = is_any names.allowed ≡ true → (fs : List Candidate) × (meant ≡ Some (M.Overload fs))
MeantAs names (Some G.Builtin) meant = (row : _) × (meant ≡ Some (M.Row row))
MeantAs names (Some G.StateBuiltin) meant = (row : _) × (meant ≡ Some (M.Row row))
MeantAs names None meant = Unit {0}

-- a name's candidate calls a callee, which takes something
abbrev pub IsCallee : Candidate → Type 0
IsCallee f = ((callee : Callee) × (f.doing ≡ D.Calls callee)) × ((p : Shape) × (ps : List Shape) × (f.params ≡ (p ∷ ps)))

abbrev pub AreCallees : List Candidate → Type 0
AreCallees [] = Unit {0}
AreCallees (f ∷ fs) = IsCallee f × AreCallees fs

-- where shapes are found, the same types can be named, names mean what is known of them, there is a union `exception` where one is known, types,
-- numbers and constraints that are written well stand for something, what `return` gives has a shape that leaves nothing open, and names of structs
-- have fields
pub record AreKnown (setting : Setting) (names : Tables.Setting) : Type 0 where
  pub within : names.types ≡ setting.within
  pub values : (name : List ℕ) → MeantAs names (names.known.value name) (setting.value name)
  pub called : (name : List ℕ) → AreCallees (callees_of setting.types (setting.value name))
  pub members : (name : List ℕ) (i k : ℕ) → setting.value name ≡ Some (M.Member i k) → names.known.value name ≡ Some G.Member
  pub exception : names.known.has_exception ≡ true → (i : ℕ) × (setting.exception ≡ Some i)
  pub typs : (typ : TyExp) → type_failures Sort.Type typ names ≡ []
      → (t : Typ) × (typ_in setting.within typ ≡ Some t) × ((n : ℕ) × (below n (shape t) ≡ true))
  pub counted_typs : (typ : TyExp) (t : Typ) → type_failures Sort.Type typ names ≡ [] → typ_in setting.within typ ≡ Some t
      → counted setting.types (shape t) ≡ true
  pub counts : Counts setting
  pub numbers : (typ : TyExp) → type_failures Sort.Int typ names ≡ [] → (t : Num) × (number_in setting.within typ ≡ Some t)
  pub constraints : (typ : TyExp) → type_failures Sort.Bool typ names ≡ [] → (t : Con) × (constraint_in setting.within typ ≡ Some t)
  pub answer : (s : Shape) → setting.answer ≡ Some s → (n : ℕ) × (below n s ≡ true)
  pub structs : (name : List ℕ) (i : ℕ) → names.known.is_struct name ≡ true → setting.struct_named name ≡ Some i
      → (fs : List Field) × (fields setting.types i ≡ Some fs)

-- ---- local names

abbrev pub BoundAs : Option Binding → Option Local → Type 0
BoundAs None None = Unit {0}
BoundAs (Some Constant) (Some l) = l.is_variable ≡ false
BoundAs (Some Variable) (Some l) = l.is_variable ≡ true
BoundAs binding l = ⊥

abbrev pub AreBound : Bound.Locals → Locals → Type 0
AreBound bound locals = (name : List ℕ) → BoundAs (binding_of name bound) (local_of name locals)
