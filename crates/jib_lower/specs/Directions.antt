-- The functions of directions of mappings: how each is made that stands in the order of a model.
use Rattle.std.specs.Prelude.{◌≡◌, ℕ, ◌+◌, ◌/◌, Bool, true, false, ◌&&◌, List, [], ◌∷◌, ◌++◌, length, Some, slice_get}
use Rattle.sail_types.specs.declared.types.Typ.{Typ}
use Rattle.sail_core.specs.declared.model.Direction.{Direction}
use Rattle.sail_core.specs.declared.tree.Core.{Core, out-Core}
use Rattle.sail_core.specs.declared.tree.Kind.TheVariants as K
use Rattle.size_values.specs.declared.sized.Sized.{Sized}
use Rattle.sized_nodes.specs.declared.trees.NodeSizes.{NodeSizes}
use Rattle.jib.specs.declared.code.Function.{Function as Made}
use Rattle.lowered_types.specs.Table.{is_known, type_in}
use Rattle.lowered_pieces.specs.declared.coding.Coding.{Coding}
use Rattle.lowered_pieces.specs.Mapped.{ends_with, fixed_end}
use Rattle.lowered_pieces.specs.Places.{Naming}
use Rattle.lowered_steps.specs.declared.setting.Mapped.{Mapped}
use Rattle.lowered_ends.specs.Around.{node_for}
use Rattle.lowered_functions.specs.Walk.{Walk}
use Rattle.lowered_functions.specs.Made.{CodeMade, mapping_for}
use Rattle.lowered_typed.specs.declared.signs.Judge.{Judge}
use Rattle.lowered_typed.specs.Judging.{typed}
use Rattle.jib_lower.specs.declared.functions.Head.{Head}
use Rattle.jib_lower.specs.declared.instances.Model.{Model}
use Rattle.jib_lower.specs.Crossings.{AllStay}
use Rattle.jib_lower.specs.Entering.{mapped_by}
use Rattle.jib_lower.specs.Functions.{FunctionMade}
use Rattle.jib_lower.specs.Instances.{InstancesMade, SettingOf, leads_alone}
use Rattle.jib_lower.specs.Reads.{tree_reads}

-- the body of a direction that is a function: what its clauses give, of this type, as an option
pub record BodyOf (m : Direction) (typ : Typ) (clauses : Core) : Type 0 where
  pub kind : (out-Core m.body).kind ≡ K.Optional typ
  pub parts : (out-Core m.body).parts ≡ clauses ∷ []

-- the code of a direction, of which it is decided that it is lowered here and has its types, where its clauses give values of one type
pub record WayCode (walk : Walk) (judge : Judge) (head : Head) (m : Direction) (typ : Typ) (clauses : Core) (payload : Sized) (made : Made) : Type 0 where
  pub able : (name : Naming) → (node_for walk.setting.now walk.around.now name clauses).ok ≡ true
  pub ends : (name : Naming) → ends_with payload (fixed_end (node_for walk.setting.now walk.around.now name clauses).piece.ends) ≡ true
  pub right : (typed judge m.body).right ≡ true
  pub coding : Coding
  pub code : CodeMade walk coding head.given.now (λ name. mapping_for walk name m.place typ clauses)
  pub is : FunctionMade walk.setting.now head coding made

-- what is around the function of a direction with nodes of its mapping, where this is entered that has this number of a cycle: it may ask the directions the
-- functions of which stand before it
pub record WayAround (model : Model) (bodies : List (List NodeSizes)) (m : Direction) (x : Mapped) (cycle : ℕ) (walk : Walk) (judge : Judge) (head : Head)
    : Type 0 where
  pub setting : SettingOf model bodies [] (tree_reads bodies m.body) model.directions.now walk.setting.now
  pub instances : walk.around.now.instances.now ≡ model.sized.now.instances
  pub given : walk.around.now.given.now ≡ x.takes ∷ []
  pub openings : walk.around.now.openings.now ≡ model.openings.now
  pub before : walk.around.now.before ≡ model.before
  pub judged : (judge.setting.now ≡ walk.setting.now) × (judge.around.now ≡ walk.around.now)
  pub shell : judge.signs.now.shell.now ≡ model.shell.now
  pub lets : judge.signs.now.lets.now ≡ model.lets.now
  pub called : judge.signs.now.called.now ≡ model.called.now
  pub turned : judge.signs.now.turned.now ≡ model.turned.now
  pub below : judge.signs.now.below ≡ x.function
  pub result : judge.signs.now.result ≡ type_in model.numbered.now x.gives
  pub is_pure : judge.signs.now.is_pure ≡ false
  pub cycle_is : judge.signs.now.cycle ≡ cycle
  pub takes : head.given.now ≡ x.takes ∷ []
  pub gives : head.result ≡ type_in model.numbered.now x.gives
  pub head_cycle : head.cycle ≡ cycle
  pub reads : head.lets ≡ length model.lets.now
  pub impure : head.is_pure ≡ false

-- the function of a direction, by what is entered where it is asked and by the nodes of its mapping
pub record WayTaken (model : Model) (bodies : List (List NodeSizes)) (m : Direction) (x : Mapped) (cycle : ℕ) (made : Made) : Type 0 where
  pub typ : Typ
  pub clauses : Core
  pub body : BodyOf m typ clauses
  pub walk : Walk
  pub judge : Judge
  pub head : Head
  pub around : WayAround model bodies m x cycle walk judge head
  pub code : WayCode walk judge head m typ clauses x.payload made

-- the types of what is entered have numbers
abbrev pub types_known : List Sized → Mapped → Bool
types_known ss x = is_known ss x.takes && (is_known ss x.gives && is_known ss x.payload)

-- the function of the d-th direction, which has this number, and one of a cycle: nothing in any direction returns, and of one node's number there is one note
-- of what its mapping calls
pub record WayMade (model : Model) (d number cycle : ℕ) (m : Direction) (made : Made) : Type 0 where
  pub stay : AllStay model.core.now.directions
  pub nodes : List NodeSizes
  pub sized : slice_get model.sized.now.mappings (d / 2) ≡ Some nodes
  pub alone : leads_alone nodes ≡ true
  pub known : types_known model.numbered.now (mapped_by model.core.now.types number m) ≡ true
  pub taken : WayTaken model (nodes ∷ []) m (mapped_by model.core.now.types number m) cycle made

-- so that of the d-th direction, which has a number of a cycle
pub record WayAt (model : Model) (d number : ℕ) (made : Made) : Type 0 where
  pub direction : Direction
  pub cycle : ℕ
  pub found : slice_get model.core.now.directions d ≡ Some direction
  pub turned : slice_get model.turned.now d ≡ Some (Some cycle)
  pub is : WayMade model d number cycle direction made

-- the functions of these directions, the first of which has this number
pub data WaysMade (model : Model) : ℕ → List ℕ → List Made → Type 0 where
  ways_none : {number : ℕ} → WaysMade model number [] []
  way_made : {d number : ℕ} {ds : List ℕ} {made : Made} {rest : List Made} → WayAt model d number made → WaysMade model (number + 1) ds rest
      → WaysMade model number (d ∷ ds) (made ∷ rest)

pub record WaysAdded (model : Model) (number : ℕ) (ds : List ℕ) (old new : List Made) : Type 0 where
  pub added : List Made
  pub is : new ≡ old ++ added
  pub made : WaysMade model number ds added

-- the functions of directions, and behind these those of instances
pub record FunctionsMade (model : Model) (functions : List Made) : Type 0 where
  pub ways : List Made
  pub directions : WaysMade model 0 model.order.now ways
  pub called : List Made
  pub instances : InstancesMade model called
  pub all : functions ≡ ways ++ called
