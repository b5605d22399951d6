-- A whole model on both sides, its core and its text, at work on one hart; and what can be called in it: each candidate of shapes does in the core
-- what a callee is in the text (Sail language manual, "Functions", "Mappings", "Unions", "Overloading").
use Rattle.std.specs.Prelude.{◌≡◌, ℕ, true, List, [], ◌∷◌, slice_get, Some}
use Rattle.sail_types.specs.Rows.{row_members}
use Rattle.sail_types.specs.Shapes.{shape}
use Rattle.sail_types.specs.declared.members.Member.{Member}
use Rattle.sail_types.specs.declared.rows.Row.{Row}
use Rattle.sail_types.specs.declared.shapes.Shape.{Shape}
use Rattle.sail_types.specs.declared.table.Types.{Types}
use Rattle.sail_types.specs.declared.values.Value.{Value}
use Rattle.sail_kinds.specs.Scopes.{Within}
use Rattle.sail_core.specs.declared.model.Direction.{Direction as CoreDirection}
use Rattle.sail_core.specs.declared.model.Function.{Function as CoreFunction}
use Rattle.sail_core.specs.declared.tree.Callee.TheVariants as C
use Rattle.sail_core.specs.Numbers.{Givens}
use Rattle.sail_core.specs.Making as Making
use Rattle.sail_core.specs.Program as Core
use Rattle.sail_meaning.specs.Calls as Source
use Rattle.sail_meaning.specs.Choice.{parameters}
use Rattle.sail_meaning.specs.Text.{Callee, Direction, Function, builtin, constructor, direction, function}
use Rattle.sail_meaning.specs.World as World
use Rattle.shape_rules.specs.declared.callees.Candidate.{Candidate}
use Rattle.shape_rules.specs.declared.callees.Doing.{Doing}
use Rattle.shape_rules.specs.declared.callees.Doing.TheVariants as D
use Rattle.shape_rules.specs.Scopes.{Setting}
use Rattle.shape_meanings.specs.Whole.{below, all_below}
use Rattle.shape_meanings.specs.Worlds.{IsConstructor, IsDirection}
use Rattle.shape_meanings.specs.Models.{DirectionIs}
use Rattle.body_meanings.specs.Calls.{IsFunction, core_setting}

-- ---- both sides

-- the functions, the directions of mappings and the values of the names of top-level lets that the core has; and the text, with the hart and
-- the values of lets by their names
pub record Model : Type 0 where
  pub functions : List CoreFunction
  pub directions : List CoreDirection
  pub lets : List Value
  pub source : Source.Setting

abbrev pub core_of : Model → Core.Setting Value
core_of m = core_setting m.functions m.directions m.source.hart m.lets

-- the worlds of a piece under the measures that are active, where at most so many calls may be inside one another
abbrev pub core_world : Model → ℕ → List (ℕ × ℕ) → Givens → List Value → Making.World Value
core_world m depth active numbers vs = Core.world_of (core_of m) (Core.calls (core_of m) depth) active numbers vs

abbrev pub source_world : Model → ℕ → List (ℕ × ℕ) → Within → Givens → World.World
source_world m depth active within numbers = Source.world_of m.source (Source.calls_within m.source depth) active within numbers

-- shapes of a piece in which these types can be named
abbrev pub standing_in : Within → Setting → Setting
standing_in within setting = record setting { within = within }

-- ---- callees

-- the core's function of this number is a function of the text, which stands where its own types can be named
pub record FunctionStands (setting : Setting) (m : Model) (params : List Shape) (answer : Shape) (callee : Callee) (i : ℕ) : Type 0 where
  pub core : CoreFunction
  pub text : Function
  pub calls : callee ≡ function text
  pub there : slice_get m.functions i ≡ Some core
  pub is : IsFunction (standing_in text.within setting) params answer core text

-- the core's direction of this number is a direction of the text, around which no function is
pub record DirectionStands (setting : Setting) (m : Model) (it : Direction) (d : ℕ) : Type 0 where
  pub core : CoreDirection
  pub there : slice_get m.directions d ≡ Some core
  pub known : IsDirection setting d it
  pub is : DirectionIs (standing_in m.source.text.within setting) core.body it

-- a candidate is this member of a builtin
pub record MemberStands (types : Types) (f : Candidate) (callee : Callee) (row : Row) : Type 0 where
  pub from : Row
  pub place : ℕ
  pub member : Member
  pub there : slice_get (row_members types from) place ≡ Some member
  pub same : member.row ≡ row
  pub params : f.params ≡ member.params
  pub answer : f.answer ≡ member.answer
  pub calls : callee ≡ builtin member.row member.params

-- what a candidate does in the core is what a callee is in the text
abbrev pub DoesAs : Setting → Model → Candidate → Callee → Doing → Type 0
DoesAs setting m f callee (D.Calls (C.Function i)) = FunctionStands setting m f.params f.answer callee i
DoesAs setting m f callee (D.Calls (C.Converts d)) =
    (it : Direction) × (callee ≡ direction it) × (f.answer ≡ shape it.gives) × DirectionStands setting m it d
DoesAs setting m f callee (D.Calls (C.Constructor u k)) = (callee ≡ constructor u k f.params) × IsConstructor setting.types f u k
DoesAs setting m f callee (D.Calls (C.Row row)) = MemberStands setting.types f callee row
DoesAs setting m f callee doing = ⊥

-- a candidate is a callee: with its parameters, which leave nothing open, and whose variables are its own, as are those of its result
pub record CandidateStands (setting : Setting) (m : Model) (f : Candidate) (callee : Callee) : Type 0 where
  pub params : parameters callee ≡ f.params
  pub whole : all_below f.variables f.params ≡ true
  pub answer : below f.variables f.answer ≡ true
  pub does : DoesAs setting m f callee f.doing

abbrev pub CandidatesStand : Setting → Model → List Candidate → List Callee → Type 0
CandidatesStand setting m [] [] = Unit {0}
CandidatesStand setting m (f ∷ fs) (callee ∷ callees) = CandidateStands setting m f callee × CandidatesStand setting m fs callees
CandidatesStand setting m fs callees = ⊥
