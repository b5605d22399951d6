-- What the names of a text mean is in its core: functions, directions of mappings and registers by their numbers, constructors and members by their
-- places in the table (Sail language manual, "Functions", "Mappings", "Unions", "Enums", "Registers").
use Rattle.std.specs.Prelude.{◌≡◌, ℕ, suc, ◌*◌, true, List, [], ◌∷◌, length, map, nat_lt, slice_get, Option, Some, None, Contains}
use Rattle.sail_types.specs.Named.{members}
use Rattle.sail_types.specs.Rows.{row_members}
use Rattle.sail_types.specs.Shapes.{shape}
use Rattle.sail_types.specs.declared.members.Member.{Member}
use Rattle.sail_types.specs.declared.shapes.Shape.{Shape}
use Rattle.sail_types.specs.declared.table.Types.{Types}
use Rattle.sail_core.specs.declared.model.Direction.{Direction}
use Rattle.sail_core.specs.declared.model.Function.{Function}
use Rattle.sail_core.specs.declared.tree.Callee.TheVariants as C
use Rattle.shape_rules.specs.declared.callees.Candidate.{Candidate}
use Rattle.shape_rules.specs.declared.callees.Doing.{Doing}
use Rattle.shape_rules.specs.declared.callees.Doing.TheVariants as D
use Rattle.shape_rules.specs.declared.callees.Mapping.{Mapping}
use Rattle.shape_rules.specs.declared.callees.Meant.{Meant}
use Rattle.shape_rules.specs.declared.callees.Meant.TheVariants as M
use Rattle.shape_rules.specs.declared.locals.Local.{Local}
use Rattle.shape_rules.specs.Calls.{cons_candidate, member_candidate}
use Rattle.shape_meanings.specs.Whole.{all_below, below, closed}
use Rattle.shape_meanings.specs.Worlds.{IsConstructor}
use Rattle.shape_progress.specs.PatternRules.{IsEnum, IsUnion}
use Rattle.model_progress.specs.Shaped.{params_of}

-- the types, the functions, the directions and the shapes of the registers of a core
pub record Parts : Type 0 where
  pub types : Types
  pub functions : List Function
  pub directions : List Direction
  pub registers : List Shape

-- a direction of this number takes values of one shape and gives those of another, which leave nothing open and have no variable
pub record DirectionIn (core : Parts) (n : ℕ) (from to : Shape) : Type 0 where
  pub it : Direction
  pub there : slice_get core.directions n ≡ Some it
  pub takes : from ≡ shape it.parameter
  pub gives : to ≡ shape it.result
  pub from_closed : closed from ≡ true
  pub to_closed : closed to ≡ true

abbrev pub DoesIn : Parts → Candidate → Doing → Type 0
DoesIn core f (D.Calls (C.Row row)) =
    (m : Member) × Contains (row_members core.types row) m × (m.row ≡ row) × (f.params ≡ m.params) × (f.answer ≡ m.answer)
DoesIn core f (D.Calls (C.Constructor u k)) = IsConstructor core.types f u k × IsUnion core.types u
DoesIn core f (D.Calls (C.Function i)) =
    (g : Function) × (slice_get core.functions i ≡ Some g) × (f.params ≡ params_of g.parameters) × (f.answer ≡ shape g.result)
DoesIn core f (D.Calls (C.Converts n)) = (from : Shape) × (f.params ≡ from ∷ []) × DirectionIn core n from f.answer
DoesIn core f (D.Calls callee) = ⊥
DoesIn core f D.Conses = (f.params ≡ cons_candidate.params) × (f.answer ≡ cons_candidate.answer)

pub record CandidateIn (core : Parts) (f : Candidate) : Type 0 where
  pub whole : all_below f.variables f.params ≡ true
  pub answer : below f.variables f.answer ≡ true
  pub does : DoesIn core f f.doing

abbrev pub AllIn : Parts → List Candidate → Type 0
AllIn core [] = Unit {0}
AllIn core (f ∷ fs) = CandidateIn core f × AllIn core fs

pub record MappingIn (core : Parts) (m : Mapping) : Type 0 where
  pub ahead : DirectionIn core (2 * m.number) (shape m.left) (shape m.right)
  pub back : DirectionIn core (suc (2 * m.number)) (shape m.right) (shape m.left)

-- what a definition makes of a name: no let, and nothing of the builtins
abbrev pub MeantIn : Parts → Meant → Type 0
MeantIn core (M.Callee f) = CandidateIn core f
MeantIn core (M.Mapping m) = MappingIn core m
MeantIn core (M.Register r s) = slice_get core.registers r ≡ Some s
MeantIn core (M.Member i k) = IsEnum core.types i × (nat_lt k (length (members core.types i)) ≡ true)
MeantIn core meant = ⊥

abbrev pub MaybeIn : Parts → Option Meant → Type 0
MaybeIn core None = Unit {0}
MaybeIn core (Some meant) = MeantIn core meant

-- what a name means among definitions, the names of top-level lets, builtins and overloads
abbrev pub ValueIn : Parts → List Local → Option Meant → Type 0
ValueIn core lets None = Unit {0}
ValueIn core lets (Some (M.Row row)) = AllIn core (map member_candidate (row_members core.types row))
ValueIn core lets (Some (M.Overload fs)) = AllIn core fs
ValueIn core lets (Some (M.Let i s)) = (l : Local) × (slice_get lets i ≡ Some l) × (l.shape ≡ s)
ValueIn core lets (Some meant) = MeantIn core meant
