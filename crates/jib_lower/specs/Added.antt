-- How what is made of instances comes behind one another.
use Rattle.std.specs.Prelude.{◌≡◌, ℕ, ◌+◌, List, [], ◌∷◌, ◌++◌, map, Some, slice_get, slice_index_or}
use Rattle.sail_core.specs.declared.model.Function.{Function}
use Rattle.size_values.specs.declared.sized.Sized.{Sized}
use Rattle.sized_nodes.specs.declared.trees.Signature.{Signature}
use Rattle.sized_nodes.specs.declared.trees.SizedInstance.{SizedInstance}
use Rattle.jib.specs.declared.code.Function.{Function as Made}
use Rattle.lowered_types.specs.Table.{type_in}
use Rattle.lowered_pieces.specs.Nodes.{told_as}
use Rattle.lowered_functions.specs.Walk.{Walk}
use Rattle.lowered_typed.specs.declared.signs.Called.{Called}
use Rattle.lowered_typed.specs.declared.signs.Judge.{Judge}
use Rattle.jib_lower.specs.declared.functions.Head.{Head}
use Rattle.jib_lower.specs.declared.instances.Model.{Model}
use Rattle.jib_lower.specs.Functions.{InstanceMade}
use Rattle.jib_lower.specs.Instances.{AroundOf, HeadOf, IsPlain, SettingOf, SignsOf}
use Rattle.jib_lower.specs.Reads.{function_reads}

-- what calls of an instance enter, with this number of the cycle of its function
pub record EntersBy (numbered : List Sized) (x : SizedInstance) (cycle : ℕ) (c : Called) : Type 0 where
  pub signature : Signature
  pub plain : IsPlain x signature
  pub parameters : c.parameters ≡ map (type_in numbered) (map told_as signature.parameters)
  pub cycle_is : c.cycle ≡ cycle

-- so of each instance
pub data AllEnter (numbered : List Sized) (cycles : List ℕ) : List SizedInstance → List Called → Type 0 where
  enter_none : AllEnter numbered cycles [] []
  enter_more : {x : SizedInstance} {xs : List SizedInstance} {c : Called} {cs : List Called}
      → EntersBy numbered x (slice_index_or cycles x.instance.function 0) c → AllEnter numbered cycles xs cs → AllEnter numbered cycles (x ∷ xs) (c ∷ cs)

pub record CalledAdded (numbered : List Sized) (cycles : List ℕ) (instances : List SizedInstance) (old new : List Called) : Type 0 where
  pub added : List Called
  pub is : new ≡ old ++ added
  pub enter : AllEnter numbered cycles instances added

-- both functions of an instance, the calls of which have this number of a cycle
pub record MadeBy (model : Model) (x : SizedInstance) (cycle : ℕ) (called event : Made) : Type 0 where
  pub function : Function
  pub signature : Signature
  pub walk : Walk
  pub judge : Judge
  pub head : Head
  pub found : slice_get model.core.now.functions x.instance.function ≡ Some function
  pub plain : IsPlain x signature
  pub setting : SettingOf model x.bodies x.instance.numbers (function_reads x.bodies function) model.directions.now walk.setting.now
  pub around : AroundOf model x signature walk.around.now
  pub judged : (judge.setting.now ≡ walk.setting.now) × (judge.around.now ≡ walk.around.now)
  pub signs : SignsOf model signature cycle judge.signs.now
  pub headed : HeadOf model signature cycle head
  pub made : InstanceMade walk judge function head called event

-- so of the instance at a place, with what calls of it enter
pub record MadeThere (model : Model) (i : ℕ) (x : SizedInstance) (called event : Made) : Type 0 where
  pub entered : Called
  pub there : slice_get model.called.now i ≡ Some entered
  pub made : MadeBy model x entered.cycle called event

-- so of each instance, from the i-th on
pub data AllMade (model : Model) : ℕ → List SizedInstance → List Made → Type 0 where
  made_none : {i : ℕ} → AllMade model i [] []
  made_more : {i : ℕ} {x : SizedInstance} {xs : List SizedInstance} {called event : Made} {ms : List Made}
      → MadeThere model i x called event → AllMade model (i + 1) xs ms → AllMade model i (x ∷ xs) (called ∷ event ∷ ms)

pub record InstancesAdded (model : Model) (i : ℕ) (instances : List SizedInstance) (old new : List Made) : Type 0 where
  pub added : List Made
  pub is : new ≡ old ++ added
  pub made : AllMade model i instances added
