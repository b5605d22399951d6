-- How the openings of a model come behind one another.
use Rattle.std.specs.Prelude.{◌≡◌, ℕ, ◌+◌, true, List, [], ◌∷◌, ◌++◌, length, map, Option, Some, None, slice_get}
use Rattle.sail_base.specs.declared.place.Place.{Place}
use Rattle.sail_core.specs.declared.patterns.Arm.{Arm}
use Rattle.sail_core.specs.declared.patterns.Step.{Step}
use Rattle.sail_core.specs.declared.model.Opening.{Opening}
use Rattle.sail_core.specs.declared.model.OpeningKind.TheVariants as K
use Rattle.size_values.specs.declared.sized.Sized.{Sized}
use Rattle.size_values.specs.declared.sized.Sized.TheVariants as S
use Rattle.sized_nodes.specs.declared.trees.NodeSizes.{NodeSizes}
use Rattle.jib.specs.declared.code.Function.{Function as Made}
use Rattle.jib.specs.Typing.{same}
use Rattle.lowered_pieces.specs.declared.coding.Coding.{Coding}
use Rattle.lowered_pieces.specs.Arms.{steps_in}
use Rattle.lowered_pieces.specs.Places.{Naming}
use Rattle.lowered_steps.specs.Setting.{number_for}
use Rattle.lowered_ends.specs.declared.around.Around.{Around}
use Rattle.lowered_ends.specs.Around.{node_for}
use Rattle.lowered_functions.specs.Walk.{Walk}
use Rattle.lowered_functions.specs.Made.{CodeMade, name_for, value_for}
use Rattle.lowered_functions.specs.declared.openings.LetName.{LetName}
use Rattle.lowered_typed.specs.declared.signs.Judge.{Judge}
use Rattle.lowered_typed.specs.declared.signs.Signs.{Signs}
use Rattle.lowered_typed.specs.Here as here
use Rattle.lowered_typed.specs.Judging.{arm_typed, typed}
use Rattle.jib_lower.specs.declared.functions.Head.{Head}
use Rattle.jib_lower.specs.declared.instances.Model.{Model}
use Rattle.jib_lower.specs.declared.openings.Opened.{Opened}
use Rattle.jib_lower.specs.Functions.{FunctionMade}
use Rattle.jib_lower.specs.Lowered.{ArmTaken, NameMade, NamesMade, OpeningsMade, ValueMade, names_in, opened_from}

-- what is around the function of an opening: it takes nothing, and knows the names of the lets before it
pub record PureAround (model : Model) (opened : Opened) (around : Around) : Type 0 where
  pub instances : around.instances.now ≡ model.sized.now.instances
  pub given : around.given.now ≡ []
  pub openings : around.openings.now ≡ opened.names
  pub before : around.before ≡ model.before

-- and its types: it is pure, and its result has this type
pub record PureSigns (model : Model) (opened : Opened) (typ : ℕ) (signs : Signs) : Type 0 where
  pub shell : signs.shell.now ≡ model.shell.now
  pub lets : signs.lets.now ≡ opened.types
  pub called : signs.called.now ≡ []
  pub turned : signs.turned.now ≡ []
  pub below : signs.below ≡ 0
  pub result_is : signs.result ≡ typ
  pub is_pure : signs.is_pure ≡ true

-- the code of a value, of which it is decided that it has this type
pub record ValueCode (walk : Walk) (judge : Judge) (head : Head) (o : Opening) (typ : Sized) (made : Made) : Type 0 where
  pub able : (name : Naming) → (node_for walk.setting.now walk.around.now name o.value).ok ≡ true
  pub right : (typed judge o.value).right ≡ true
  pub only : (typed judge o.value).types ≡ typ ∷ []
  pub coding : Coding
  pub code : CodeMade walk coding [] (λ name. value_for walk name o.place o.value)
  pub is : FunctionMade walk.setting.now head coding made

-- the function that gives the value of a let, which has one type
pub record LetMade (model : Model) (o : Opening) (bodies : List (List NodeSizes)) (before names : List ℕ) (arm : Arm) (whole : Sized) (made : Made) : Type 0
  where
    pub value : ValueMade model o bodies before names made
    pub taken : ArmTaken value.walk.setting.now value.walk.around.now o.value arm whole

-- a pattern over the value of a let fits, and the name holds a value of its type
pub record NameHeld (judge : Judge) (name : LetName) (arm : Arm) : Type 0 where
  pub right : arm_typed judge arm (name.whole.now ∷ []) ≡ true
  pub typ : here.name_typ judge name.steps.now (name.whole.now ∷ []) name.name.now ≡ Some name.typ.now

-- the code of a name
pub record NameCode (walk : Walk) (judge : Judge) (head : Head) (name : LetName) (arm : Arm) (made : Made) : Type 0 where
  pub nothing : walk.setting.now.nothing.now ≡ S.Unit
  pub given : same (slice_get judge.signs.now.lets.now name.opening) (Some (number_for walk.setting.now name.whole.now)) ≡ true
  pub held : NameHeld judge name arm
  pub coding : Coding
  pub code : CodeMade walk coding [] (λ naming. name_for walk naming name)
  pub is : FunctionMade walk.setting.now head coding made

-- a function comes behind the others, with its opening
pub record Pushed (register : Option ℕ) (made : Made) (old new : Opened) : Type 0 where
  pub functions : new.functions ≡ old.functions ++ made ∷ []
  pub types : new.types ≡ old.types ++ made.result ∷ []
  pub names : new.names ≡ old.names
  pub openings : new.openings ≡ old.openings ++ record { function = old.before + length old.functions; register = register } ∷ []
  pub before : new.before ≡ old.before

-- functions come behind the others, with openings of these registers
pub record Grown (functions : List Made) (registers : List (Option ℕ)) (old new : Opened) : Type 0 where
  pub functions_are : new.functions ≡ old.functions ++ functions
  pub many : length registers ≡ length functions
  pub opens : new.openings ≡ old.openings ++ opened_from (old.before + length old.functions) registers
  pub before : new.before ≡ old.before

-- so that of a name of a let, which the opening gives that comes behind the others
pub record NameAdded (model : Model) (place : Place) (k : ℕ) (whole : Sized) (steps : List Step) (text : List ℕ) (old new : Opened) : Type 0 where
  pub made : Made
  pub is : NameMade model place k whole steps text old.types old.names made
  pub grown : Grown (made ∷ []) (None ∷ []) old new
  pub types : new.types ≡ old.types ++ made.result ∷ []
  pub names : new.names ≡ old.names ++ length old.types ∷ []

-- so that of an initial value
pub record RegisterAdded (model : Model) (o : Opening) (bodies : List (List NodeSizes)) (register : ℕ) (old new : Opened) : Type 0 where
  pub made : Made
  pub is : ValueMade model o bodies old.types old.names made
  pub typ : slice_get model.shell.now.registers register ≡ Some made.result
  pub grown : Grown (made ∷ []) (Some register ∷ []) old new
  pub types : new.types ≡ old.types ++ made.result ∷ []
  pub names : new.names ≡ old.names

-- so those of the names of a let
pub record NamesAdded (model : Model) (place : Place) (k : ℕ) (whole : Sized) (steps : List Step) (texts : List (List ℕ)) (old new : Opened) : Type 0 where
  pub functions : List Made
  pub made : NamesMade model place k whole steps texts old.types old.names functions new.types new.names
  pub grown : Grown functions (map (λ x. None) functions) old new

-- so those of a let: of its value, and of its names
pub record LetAdded (model : Model) (o : Opening) (bodies : List (List NodeSizes)) (arm : Arm) (old new : Opened) : Type 0 where
  pub whole : Sized
  pub made : Made
  pub functions : List Made
  pub is : LetMade model o bodies old.types old.names arm whole made
  pub named : NamesMade model o.place (length old.types) whole (steps_in arm) (names_in (steps_in arm)) (old.types ++ made.result ∷ []) old.names functions
      new.types new.names
  pub grown : Grown (made ∷ functions) (None ∷ map (λ x. None) functions) old new

-- so those of one opening, by its kind
pub data KindAdded (model : Model) (o : Opening) (bodies : List (List NodeSizes)) (old new : Opened) : Type 0 where
  by_register : (r : ℕ) → o.kind ≡ K.Register r → RegisterAdded model o bodies r old new → KindAdded model o bodies old new
  by_let : (arm : Arm) → o.kind ≡ K.Let arm → LetAdded model o bodies arm old new → KindAdded model o bodies old new

-- so those of one opening, whatever comes behind
pub record OpeningAdded (model : Model) (i : ℕ) (o : Opening) (old new : Opened) : Type 0 where
  pub functions : List Made
  pub registers : List (Option ℕ)
  pub joins : (os : List Opening) (rest : List Made) (others : List (Option ℕ)) (after more : List ℕ)
      → OpeningsMade model (i + 1) os new.types new.names rest others after more
      → OpeningsMade model i (o ∷ os) old.types old.names (functions ++ rest) (registers ++ others) after more
  pub grown : Grown functions registers old new

-- so those of several, from the i-th on
pub record OpeningsAdded (model : Model) (i : ℕ) (os : List Opening) (old new : Opened) : Type 0 where
  pub functions : List Made
  pub registers : List (Option ℕ)
  pub made : OpeningsMade model i os old.types old.names functions registers new.types new.names
  pub grown : Grown functions registers old new
