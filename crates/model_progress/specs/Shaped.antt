-- A model whose definitions have shapes: bodies and measures of functions, directions of mappings and openings stand by the rules of shapes
-- (Sail language manual, "Functions", "Mappings", "Let bindings", "Registers").
use Rattle.std.specs.Prelude.{◌≡◌, ℕ, ◌<◌, true, List, [], ◌∷◌, ◌++◌, length, map, slice_get, Option, Some, None}
use Rattle.std.specs.List.{list_any}
use Rattle.sail_base.specs.declared.place.Place.{Place}
use Rattle.sail_types.specs.Shapes.{shape}
use Rattle.sail_types.specs.declared.shapes.Shape.{Shape}
use Rattle.sail_types.specs.declared.shapes.Shape.TheVariants as V
use Rattle.sail_types.specs.declared.table.Types.{Types}
use Rattle.sail_types.specs.declared.types.Typ.{Typ}
use Rattle.sail_types.specs.declared.values.Value.{Value}
use Rattle.sail_core.specs.declared.model.CoreModel.{CoreModel}
use Rattle.sail_core.specs.declared.model.Direction.{Direction}
use Rattle.sail_core.specs.declared.model.Function.{Function}
use Rattle.sail_core.specs.declared.model.Opening.{Opening}
use Rattle.sail_core.specs.declared.model.OpeningKind.{OpeningKind}
use Rattle.sail_core.specs.declared.model.OpeningKind.TheVariants as O
use Rattle.sail_core.specs.declared.tree.Core.{Core}
use Rattle.sail_core.specs.Run as R
use Rattle.sail_core.specs.Run.{Ended, Now}
use Rattle.sail_core.specs.Making.{World}
use Rattle.sail_core.specs.Numbers.{givens_of}
use Rattle.sail_core.specs.Start.{opening_world}
use Rattle.shape_rules.specs.declared.locals.Local.{Local}
use Rattle.shape_rules.specs.Written.{tells_number}
use Rattle.shape_meanings.specs.Whole.{Choice, closed}
use Rattle.shape_meanings.specs.Keeping.{Fits, FitAll, Reach}
use Rattle.shape_progress.specs.Checks.{Table}
use Rattle.shape_progress.specs.Going.{GoesOn}
use Rattle.shape_progress.specs.PatternRules.{ArmBinds}
use Rattle.shape_progress.specs.Rules.{IsShaped}
use Rattle.model_progress.specs.Checked.{checked_opening}

-- what is the same everywhere in a model: the named types, and the shapes of registers, of what is thrown, and of what top-level lets bind
pub record Common : Type 0 where
  pub types : Types
  pub registers : List Shape
  pub thrown : Shape
  pub lets : List Shape

abbrev pub thrown_of : Option ℕ → Shape
thrown_of None = V.Never
thrown_of (Some i) = V.Named i []

abbrev pub common_of : CoreModel → List Shape → Common
common_of m lets = record { types = m.types; registers = map (λ r. shape r.typ) m.registers; thrown = thrown_of m.exception; lets = lets }

-- what is in reach of a piece that gives back such an answer, where it is a function's
abbrev pub reach_in : Common → Option Shape → Choice → List Local → Reach
reach_in common answer c slots = record {
  types = common.types;
  registers = common.registers;
  thrown = common.thrown;
  answer = answer;
  choice = c;
  slots = slots;
}

abbrev pub params_of : List Typ → List Shape
params_of ts = map (λ t. shape t) ts

-- ---- the world around a piece

-- called on values of the shapes of its parameters, whatever their variables stand for, each function goes on and gives a value of the shape of its
-- result, and so does each direction of a mapping; in a pattern so do those below a rank
pub record Around (common : Common) (m : CoreModel) (rank : ℕ → ℕ) (bound : ℕ) (w : World Value) : Type 0 where
  pub lets : (c : Choice) → FitAll common.types c common.lets w.lets
  pub call : (answer : Option Shape) (c : Choice) (slots : List Local) (i : ℕ) (f : Function) → slice_get m.functions i ≡ Some f → (d : Choice)
      (place : Place) (vs : List Value) → FitAll common.types d (params_of f.parameters) vs
      → GoesOn (reach_in common answer c slots) w (Fits common.types d (shape f.result)) (w.call place i None vs)
  pub enter : (answer : Option Shape) (c : Choice) (slots : List Local) (i : ℕ) (g : Direction) → slice_get m.directions i ≡ Some g → (d : Choice)
      (v : Value) → Fits common.types d (shape g.parameter) v
      → GoesOn (reach_in common answer c slots) w (Fits common.types d (shape g.result)) (w.enter i v)
  pub way : (answer : Option Shape) (c : Choice) (slots : List Local) (i : ℕ) (g : Direction) → slice_get m.directions i ≡ Some g → rank i < bound
      → (d : Choice) (v : Value) → Fits common.types d (shape g.parameter) v
      → GoesOn (reach_in common answer c slots) w (Fits common.types d (shape g.result)) (w.way i v)

-- ---- definitions

-- a function was called with values of its parameters' shapes, and they gave its variables their numbers
abbrev pub IsCalled : Common → Function → Choice → World Value → Type 0
IsCalled common f c w =
    FitAll common.types c (params_of f.parameters) w.arguments × (givens_of (length f.variables) f.parameters w.arguments ≡ Some w.numbers)

-- a core of this shape in a world, by the rules
abbrev pub HasShape : Reach → World Value → Shape → Core → Type 0
HasShape reach w s c = (n : ℕ) × IsShaped n w reach s c

pub record FunctionHas (common : Common) (m : CoreModel) (rank : ℕ → ℕ) (f : Function) : Type 0 where
  -- each of its Int and Bool variables stands alone in a parameter, or in a part of one that is a tuple: values of the parameters tell its number
  pub numbers : (j : ℕ) → j < length f.variables → list_any (tells_number j) f.parameters ≡ true
  -- nothing returns from a measure, which is a plain expression
  pub measure : (x : Core) → f.measure ≡ Some x → (w : World Value) → Around common m rank (length m.directions) w → (c : Choice) → IsCalled common f c w
      → HasShape (reach_in common None c []) w V.Int x
  pub body : (w : World Value) → Around common m rank (length m.directions) w → (c : Choice) → IsCalled common f c w
      → HasShape (reach_in common (Some (shape f.result)) c []) w (shape f.result) f.body

-- patterns of a direction convert by directions of a lower rank alone
pub record DirectionHas (common : Common) (m : CoreModel) (rank : ℕ → ℕ) (i : ℕ) (g : Direction) : Type 0 where
  pub below : rank i < length m.directions
  pub body : (w : World Value) → Around common m rank (rank i) w → (c : Choice) (v : Value) → w.arguments ≡ v ∷ []
      → Fits common.types c (shape g.parameter) v → HasShape (reach_in common None c []) w (shape g.result) g.body

-- ---- openings, which read no register and call nothing of the model

abbrev pub plain_reach : Common → Choice → Reach
plain_reach common c = reach_in (record common { registers = [] }) None c []

-- only guards and clauses say No, so no expression that is evaluated alone does
abbrev pub IsDecided : {A : Type 0} → Ended Value A → Type 0
IsDecided (R.No now) = ⊥
IsDecided e = Unit {0}

-- an end that neither says No nor throws
abbrev pub IsInside : {A : Type 0} → Ended Value A → Type 0
IsInside (R.No now) = ⊥
IsInside (R.Throws v now) = ⊥
IsInside e = Unit {0}

abbrev pub Decides : Opening → Type 0
Decides o = (t : Table) (lets : List Value) (now : Now Value) → IsInside (checked_opening t lets o now)

-- a let binds names of these shapes; an initial value is of its register's shape, which has no variable
abbrev pub OpeningHas : Common → List Shape → List Local → Opening → OpeningKind → Type 0
OpeningHas common before binds o (O.Let arm) =
    (s : Shape) × ((c : Choice) (lets : List Value) → FitAll common.types c before lets
    → HasShape (plain_reach common c) (opening_world lets) s o.value
    × ((k : ℕ) × ArmBinds k (plain_reach common c) (opening_world lets) (s ∷ []) binds arm))
OpeningHas common before binds o (O.Register r) =
    (binds ≡ []) × ((s : Shape) × (slice_get common.registers r ≡ Some s) × (closed s ≡ true)
    × ((c : Choice) (lets : List Value) → FitAll common.types c before lets → HasShape (plain_reach common c) (opening_world lets) s o.value))

-- behind values of these shapes, up to those of all lets
abbrev pub OpeningsHave : Common → List Shape → List Opening → Type 0
OpeningsHave common before [] = before ≡ common.lets
OpeningsHave common before (o ∷ os) =
    (binds : List Local) × OpeningHas common before binds o o.kind × Decides o
    × OpeningsHave common (before ++ map (λ l. l.shape) binds) os

-- ---- a whole model

pub record ModelHas (common : Common) (m : CoreModel) (rank : ℕ → ℕ) : Type 0 where
  pub functions : (i : ℕ) (f : Function) → slice_get m.functions i ≡ Some f → FunctionHas common m rank f
  pub directions : (i : ℕ) (g : Direction) → slice_get m.directions i ≡ Some g → DirectionHas common m rank i g
  pub openings : OpeningsHave common [] m.openings
