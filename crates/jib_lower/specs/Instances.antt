-- The functions of all instances of a model.
use Rattle.std.specs.Prelude.{◌≡◌, ℕ, ℤ, ◌+◌, ◌*◌, nat_eq, Bool, true, false, not, ◌&&◌, List, [], ◌∷◌, length, map, Option, Some, slice_get}
use Rattle.std.specs.Prelude.{slice_index_or}
use Rattle.size_values.specs.declared.sized.Sized.{Sized}
use Rattle.size_values.specs.declared.sized.Sized.TheVariants as S
use Rattle.sail_core.specs.declared.model.Function.{Function}
use Rattle.sail_core.specs.declared.model.CoreModel.{CoreModel}
use Rattle.sized_nodes.specs.declared.trees.NodeSizes.{NodeSizes}
use Rattle.sized_nodes.specs.declared.trees.NodeSizes.TheVariants as N
use Rattle.sized_nodes.specs.declared.trees.Signature.{Signature}
use Rattle.sized_nodes.specs.declared.trees.SizedCore.{SizedCore}
use Rattle.sized_nodes.specs.declared.trees.SizedInstance.{SizedInstance}
use Rattle.jib.specs.declared.code.Function.{Function as Made}
use Rattle.lowered_types.specs.Table.{type_in}
use Rattle.lowered_pieces.specs.Nodes.{all_plain, plain_told, told_as}
use Rattle.lowered_steps.specs.declared.setting.Mapped.{Mapped}
use Rattle.lowered_steps.specs.declared.setting.Reads.{Reads}
use Rattle.lowered_steps.specs.declared.setting.Setting.{Setting}
use Rattle.lowered_ends.specs.declared.around.Around.{Around}
use Rattle.lowered_functions.specs.Walk.{Walk}
use Rattle.lowered_typed.specs.declared.signs.Called.{Called}
use Rattle.lowered_typed.specs.declared.signs.Judge.{Judge}
use Rattle.lowered_typed.specs.declared.signs.Signs.{Signs}
use Rattle.jib_lower.specs.declared.functions.Head.{Head}
use Rattle.jib_lower.specs.declared.instances.Model.{Model}
use Rattle.jib_lower.specs.Crossings.{turned_by, turns_of}
use Rattle.jib_lower.specs.Cycles.{NumbersFit}
use Rattle.jib_lower.specs.Functions.{InstanceMade}
use Rattle.jib_lower.specs.Reads.{function_reads}

abbrev pub number_among : List Sized → Sized → ℕ
number_among = type_in

-- what the code of a function is made by, which reads its variables at these types, and may ask these directions of mappings
pub record SettingOf (model : Model) (bodies : List (List NodeSizes)) (numbers : List (Option ℤ)) (reads : List Reads) (directions : List Mapped)
    (setting : Setting) : Type 0 where
  pub types : setting.types.now ≡ model.core.now.types
  pub numbered : setting.numbered.now ≡ model.numbered.now
  pub bodies_are : setting.bodies.now ≡ bodies
  pub numbers_are : setting.numbers.now ≡ numbers
  pub reads_are : setting.reads.now ≡ reads
  pub directions_are : setting.directions.now ≡ directions
  pub nothing : setting.nothing.now ≡ model.nothing.now
  pub truths : setting.truths.now ≡ model.truths.now
  pub unit : setting.unit ≡ type_in model.numbered.now model.nothing.now
  pub truth : setting.truth ≡ type_in model.numbered.now model.truths.now
  pub integer : setting.integer ≡ type_in model.numbered.now S.Int
  pub exception : setting.exception ≡ type_in model.numbered.now model.exception.now

pub record AroundOf (model : Model) (x : SizedInstance) (s : Signature) (around : Around) : Type 0 where
  pub instances : around.instances.now ≡ model.sized.now.instances
  pub given : around.given.now ≡ map told_as s.parameters
  pub openings : around.openings.now ≡ model.openings.now
  pub before : around.before ≡ model.before

-- the types of what is around the functions of an instance, the calls of which have this number of a cycle: they may ask each direction that has a function
pub record SignsOf (model : Model) (s : Signature) (cycle : ℕ) (signs : Signs) : Type 0 where
  pub shell : signs.shell.now ≡ model.shell.now
  pub lets : signs.lets.now ≡ model.lets.now
  pub result : signs.result ≡ type_in model.numbered.now (told_as s.result)
  pub is_pure : signs.is_pure ≡ false
  pub cycle_is : signs.cycle ≡ cycle
  pub called : signs.called.now ≡ model.called.now
  pub turned : signs.turned.now ≡ model.turned.now
  pub below : signs.below ≡ model.before

pub record HeadOf (model : Model) (s : Signature) (cycle : ℕ) (head : Head) : Type 0 where
  pub given : head.given.now ≡ map told_as s.parameters
  pub result : head.result ≡ type_in model.numbered.now (told_as s.result)
  pub cycle_is : head.cycle ≡ cycle
  pub lets : head.lets ≡ length model.lets.now
  pub is_pure : head.is_pure ≡ false

-- what comes in and goes out has one type
pub record IsPlain (x : SizedInstance) (s : Signature) : Type 0 where
  pub signed : x.signature ≡ Some s
  pub parameters : all_plain s.parameters ≡ true
  pub result : plain_told s.result ≡ true

-- what calls of an instance enter: with the number of the cycle of its function
pub record Enters (numbered : List Sized) (cycles : List ℕ) (x : SizedInstance) (c : Called) : Type 0 where
  pub signature : Signature
  pub plain : IsPlain x signature
  pub parameters : c.parameters ≡ map (type_in numbered) (map told_as signature.parameters)
  pub cycle : c.cycle ≡ slice_index_or cycles x.instance.function 0

-- what calls enter, and the numbers of the cycles of directions, by those of functions
pub record CalledAre (core : CoreModel) (sized : SizedCore) (numbered : List Sized) (called : List Called) (turned : List (Option ℕ)) : Type 0 where
  pub many : length called ≡ length sized.instances
  pub cycles : List ℕ
  pub fit : NumbersFit core.functions sized.instances sized.mappings (turns_of core) cycles
  pub turned_is : turned ≡ turned_by core sized cycles
  pub each : (i : ℕ) (x : SizedInstance) → slice_get sized.instances i ≡ Some x → (c : Called) × (slice_get called i ≡ Some c) × Enters numbered cycles x c

-- both functions of the instance at a place
pub record MadeAt (model : Model) (functions : List Made) (i : ℕ) (x : SizedInstance) : Type 0 where
  pub function : Function
  pub signature : Signature
  pub called_is : Called
  pub walk : Walk
  pub judge : Judge
  pub head : Head
  pub called : Made
  pub event : Made
  pub found : slice_get model.core.now.functions x.instance.function ≡ Some function
  pub plain : IsPlain x signature
  pub enters : slice_get model.called.now i ≡ Some called_is
  pub setting : SettingOf model x.bodies x.instance.numbers (function_reads x.bodies function) model.directions.now walk.setting.now
  pub around : AroundOf model x signature walk.around.now
  pub judged : (judge.setting.now ≡ walk.setting.now) × (judge.around.now ≡ walk.around.now)
  pub signs : SignsOf model signature called_is.cycle judge.signs.now
  pub headed : HeadOf model signature called_is.cycle head
  pub called_there : slice_get functions (2 * i) ≡ Some called
  pub event_there : slice_get functions (2 * i + 1) ≡ Some event
  pub made : InstanceMade walk judge function head called event

pub record InstancesMade (model : Model) (functions : List Made) : Type 0 where
  pub each : (i : ℕ) (x : SizedInstance) → slice_get model.sized.now.instances i ≡ Some x → MadeAt model functions i x
  pub many : length functions ≡ 2 * length model.sized.now.instances

-- of one node's number no two notes of what is called are there
abbrev pub no_other_leads : ℕ → List NodeSizes → Bool
no_other_leads j [] = true
no_other_leads j (N.Calls i ls ∷ nodes) = not (nat_eq j i) && no_other_leads j nodes
no_other_leads j (node ∷ nodes) = no_other_leads j nodes

abbrev pub leads_alone : List NodeSizes → Bool
leads_alone [] = true
leads_alone (N.Calls j ls ∷ nodes) = no_other_leads j nodes && leads_alone nodes
leads_alone (node ∷ nodes) = leads_alone nodes
