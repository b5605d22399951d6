-- Why a part of a module isn't made: the test of its definition that fails.
use Rattle.std.specs.Prelude.{◌≡◌, ℕ, ◌+◌, ◌/◌, true, false, List, [], ◌∷◌, ◌++◌, length, map, Option, Some, None, slice_get}
use Rattle.sail_base.specs.declared.place.Place.{Place}
use Rattle.sail_core.specs.declared.patterns.Arm.{Arm}
use Rattle.sail_core.specs.declared.patterns.Step.{Step}
use Rattle.sail_core.specs.declared.tree.Core.{Core}
use Rattle.sail_core.specs.declared.model.CoreModel.{CoreModel}
use Rattle.sail_core.specs.declared.model.Direction.{Direction}
use Rattle.sail_core.specs.declared.model.Function.{Function}
use Rattle.sail_core.specs.declared.model.Opening.{Opening}
use Rattle.sail_core.specs.declared.model.OpeningKind.TheVariants as K
use Rattle.sail_types.specs.declared.types.Typ.{Typ}
use Rattle.size_values.specs.declared.sized.Sized.{Sized}
use Rattle.size_values.specs.declared.sized.Sized.TheVariants as S
use Rattle.sized_nodes.specs.declared.trees.NodeSizes.{NodeSizes}
use Rattle.sized_nodes.specs.declared.trees.Signature.{Signature}
use Rattle.sized_nodes.specs.declared.trees.SizedCore.{SizedCore}
use Rattle.sized_nodes.specs.declared.trees.SizedInstance.{SizedInstance}
use Rattle.jib.specs.declared.code.Function.{Function as Made}
use Rattle.jib.specs.declared.code.Instruction.{Instruction}
use Rattle.jib.specs.Operands.{each}
use Rattle.jib.specs.Typing.{same}
use Rattle.jib.specs.Valid.{typ_right}
use Rattle.lowered_types.specs.Table.{type_in}
use Rattle.lowered_pieces.specs.declared.coding.Coding.{Coding}
use Rattle.lowered_pieces.specs.Arms.{steps_in}
use Rattle.lowered_pieces.specs.Mapped.{ends_with, fixed_end}
use Rattle.lowered_pieces.specs.Places.{Naming}
use Rattle.lowered_steps.specs.declared.setting.Reads.{Reads}
use Rattle.lowered_steps.specs.declared.setting.Setting.{Setting}
use Rattle.lowered_steps.specs.Setting.{number_for}
use Rattle.lowered_steps.specs.declared.setting.Mapped.{Mapped}
use Rattle.lowered_ends.specs.Around.{node_for}
use Rattle.lowered_tables.specs.Built.{SomeNoValueType, value_at}
use Rattle.lowered_functions.specs.Walk.{Walk}
use Rattle.lowered_functions.specs.Made.{CodeMade, called_for, event_for, mapping_for, name_for, value_for}
use Rattle.lowered_functions.specs.declared.openings.LetName.{LetName}
use Rattle.lowered_typed.specs.declared.signs.Called.{Called}
use Rattle.lowered_typed.specs.declared.signs.Judge.{Judge}
use Rattle.lowered_typed.specs.Here as here
use Rattle.lowered_typed.specs.Judging.{typed}
use Rattle.jib_lower.specs.declared.functions.Head.{Head}
use Rattle.jib_lower.specs.declared.instances.Model.{Model}
use Rattle.jib_lower.specs.Types.{all_sizes_fit, numbered_types}
use Rattle.jib_lower.specs.Crossings.{AllStay, turns_of}
use Rattle.jib_lower.specs.Cycles.{NumbersFit}
use Rattle.jib_lower.specs.Directions.{BodyOf, WayAround, types_known}
use Rattle.jib_lower.specs.Entering.{mapped_by}
use Rattle.jib_lower.specs.Functions.{FunctionMade, able_for, typed_for}
use Rattle.jib_lower.specs.Instances.{AroundOf, HeadOf, IsPlain, SettingOf, SignsOf, leads_alone}
use Rattle.jib_lower.specs.Lowered.{ArmTaken, NameMade, OpeningAround, OpeningsMade, ValueMade, names_in}
use Rattle.jib_lower.specs.Openings.{NameHeld}
use Rattle.jib_lower.specs.Reads.{function_reads, tree_reads}

-- ---- types

-- where these directions have a number of a cycle: types are nested too deeply, or one of them has no value type, or is too wide, or has one that modules don't
-- have
pub data TypesLeft (core : CoreModel) (sized : SizedCore) (turned : List (Option ℕ)) : Type 0 where
  nested_types : numbered_types core sized turned ≡ None → TypesLeft core sized turned
  no_value_type : {numbered : List Sized} → numbered_types core sized turned ≡ Some numbered → SomeNoValueType core.types numbered numbered
      → TypesLeft core sized turned
  types_too_wide : {numbered : List Sized} → numbered_types core sized turned ≡ Some numbered → all_sizes_fit numbered ≡ false → TypesLeft core sized turned
  types_not_right : {numbered : List Sized} → numbered_types core sized turned ≡ Some numbered
      → each typ_right 0 (map (value_at core.types numbered) numbered) ≡ false → TypesLeft core sized turned

-- ---- functions

-- no function has this code: a slot of it, or its result, is of a type without a number
abbrev pub NoFunction : Setting → Head → Coding → Type 0
NoFunction setting head coding = (made : Made) → FunctionMade setting head coding made → ⊥

pub record CodeLeft (walk : Walk) (head : Head) (given : List Sized) (code : Naming → List Instruction) : Type 0 where
  pub coding : Coding
  pub made : CodeMade walk coding given code
  pub none : NoFunction walk.setting.now head coding

-- ---- instances

-- a function's trees aren't lowered here, or their code hasn't its types, or no function has it
pub data BothLeft (walk : Walk) (judge : Judge) (f : Function) (head : Head) : Type 0 where
  not_able : ((name : Naming) → able_for walk name f ≡ false) → BothLeft walk judge f head
  not_typed : typed_for judge f ≡ false → BothLeft walk judge f head
  not_called : CodeLeft walk head head.given.now (λ name. called_for walk name f) → BothLeft walk judge f head
  not_event : CodeLeft walk head head.given.now (λ name. event_for walk name f) → BothLeft walk judge f head

-- what comes in or goes out has no constant sizes, or several types
abbrev pub NotPlain : SizedInstance → Type 0
NotPlain x = (s : Signature) → IsPlain x s → ⊥

-- so of an instance, or it is of no function
pub data EntryLeft (core : CoreModel) (x : SizedInstance) : Type 0 where
  no_function : slice_get core.functions x.instance.function ≡ None → EntryLeft core x
  not_plain : NotPlain x → EntryLeft core x

-- so of one of several
pub record SomeEntryLeft (core : CoreModel) (instances : List SizedInstance) : Type 0 where
  pub place : ℕ
  pub instance : SizedInstance
  pub there : slice_get instances place ≡ Some instance
  pub why : EntryLeft core instance

-- or no numbers fit the cycles of the model and the calls of its instances
abbrev pub NoCycles : CoreModel → SizedCore → Type 0
NoCycles core sized = (numbers : List ℕ) → NumbersFit core.functions sized.instances sized.mappings (turns_of core) numbers → ⊥

pub data EntriesLeft (core : CoreModel) (sized : SizedCore) : Type 0 where
  some_entry : SomeEntryLeft core sized.instances → EntriesLeft core sized
  no_cycles : NoCycles core sized → EntriesLeft core sized

-- both functions of an instance, the calls of which have this number of a cycle
pub record MakingLeft (model : Model) (x : SizedInstance) (cycle : ℕ) : Type 0 where
  pub function : Function
  pub signature : Signature
  pub walk : Walk
  pub judge : Judge
  pub head : Head
  pub found : slice_get model.core.now.functions x.instance.function ≡ Some function
  pub plain : IsPlain x signature
  pub setting : SettingOf model x.bodies x.instance.numbers (function_reads x.bodies function) model.directions.now walk.setting.now
  pub around : AroundOf model x signature walk.around.now
  pub judged : (judge.setting.now ≡ walk.setting.now) × (judge.around.now ≡ walk.around.now)
  pub signs : SignsOf model signature cycle judge.signs.now
  pub headed : HeadOf model signature cycle head
  pub why : BothLeft walk judge function head

pub data PairLeft (model : Model) (x : SizedInstance) (cycle : ℕ) : Type 0 where
  no_entry : EntryLeft model.core.now x → PairLeft model x cycle
  not_made : MakingLeft model x cycle → PairLeft model x cycle

-- so of the instance at a place
pub data InstanceLeft (model : Model) (i : ℕ) (x : SizedInstance) : Type 0 where
  not_entered : slice_get model.called.now i ≡ None → InstanceLeft model i x
  pair_left : {entered : Called} → slice_get model.called.now i ≡ Some entered → PairLeft model x entered.cycle → InstanceLeft model i x

-- one of several, from the i-th on
pub data InstancesLeft (model : Model) : ℕ → List SizedInstance → Type 0 where
  instance_here : {i : ℕ} {x : SizedInstance} {xs : List SizedInstance} → InstanceLeft model i x → InstancesLeft model i (x ∷ xs)
  instance_behind : {i : ℕ} {x : SizedInstance} {xs : List SizedInstance} → InstancesLeft model (i + 1) xs → InstancesLeft model i (x ∷ xs)

-- ---- directions

-- the clauses of a direction aren't lowered here, or give others, or its code hasn't its types, or no function has it
pub data WayCodeLeft (walk : Walk) (judge : Judge) (head : Head) (m : Direction) (typ : Typ) (clauses : Core) (payload : Sized) : Type 0 where
  way_not_able : ((name : Naming) → (node_for walk.setting.now walk.around.now name clauses).ok ≡ false)
      → WayCodeLeft walk judge head m typ clauses payload
  way_of_others : ((name : Naming) → ends_with payload (fixed_end (node_for walk.setting.now walk.around.now name clauses).piece.ends) ≡ false)
      → WayCodeLeft walk judge head m typ clauses payload
  way_not_right : (typed judge m.body).right ≡ false → WayCodeLeft walk judge head m typ clauses payload
  way_not_coded : CodeLeft walk head head.given.now (λ name. mapping_for walk name m.place typ clauses)
      → WayCodeLeft walk judge head m typ clauses payload

pub record WayFunctionLeft (model : Model) (bodies : List (List NodeSizes)) (m : Direction) (x : Mapped) (cycle : ℕ) : Type 0 where
  pub typ : Typ
  pub clauses : Core
  pub body : BodyOf m typ clauses
  pub walk : Walk
  pub judge : Judge
  pub head : Head
  pub around : WayAround model bodies m x cycle walk judge head
  pub why : WayCodeLeft walk judge head m typ clauses x.payload

-- what a direction gives isn't an option of what clauses give
abbrev pub NoBody : Direction → Type 0
NoBody m = (typ : Typ) (clauses : Core) → BodyOf m typ clauses → ⊥

-- so of a direction; or a type of what calls of it enter has no number, or its function isn't made
pub data WayByLeft (model : Model) (bodies : List (List NodeSizes)) (number cycle : ℕ) (m : Direction) : Type 0 where
  no_body : NoBody m → WayByLeft model bodies number cycle m
  way_types_unknown : types_known model.numbered.now (mapped_by model.core.now.types number m) ≡ false → WayByLeft model bodies number cycle m
  way_not_made : WayFunctionLeft model bodies m (mapped_by model.core.now.types number m) cycle → WayByLeft model bodies number cycle m

-- so of the d-th one, which has these numbers; or something returns in a direction, or its mapping has no nodes with sizes, or two calls of it have one number
pub data WayLeft (model : Model) (d number cycle : ℕ) (m : Direction) : Type 0 where
  some_return : (AllStay model.core.now.directions → ⊥) → WayLeft model d number cycle m
  no_nodes : slice_get model.sized.now.mappings (d / 2) ≡ None → WayLeft model d number cycle m
  way_calls_alike : {nodes : List NodeSizes} → slice_get model.sized.now.mappings (d / 2) ≡ Some nodes → leads_alone nodes ≡ false
      → WayLeft model d number cycle m
  way_by_left : {nodes : List NodeSizes} → slice_get model.sized.now.mappings (d / 2) ≡ Some nodes → WayByLeft model (nodes ∷ []) number cycle m
      → WayLeft model d number cycle m

-- it has no number of a cycle
abbrev pub NoCycle : List (Option ℕ) → ℕ → Type 0
NoCycle turned d = (cycle : ℕ) → slice_get turned d ≡ Some (Some cycle) → ⊥

-- so of the d-th one; or there is none, or it has no number of a cycle
pub data WayAtLeft (model : Model) (d number : ℕ) : Type 0 where
  no_direction : slice_get model.core.now.directions d ≡ None → WayAtLeft model d number
  no_cycle : NoCycle model.turned.now d → WayAtLeft model d number
  way_left : {cycle : ℕ} {m : Direction} → slice_get model.core.now.directions d ≡ Some m → slice_get model.turned.now d ≡ Some (Some cycle)
      → WayLeft model d number cycle m → WayAtLeft model d number

-- one of these, the first of which has this number
pub data WaysLeft (model : Model) : ℕ → List ℕ → Type 0 where
  way_here : {d number : ℕ} {ds : List ℕ} → WayAtLeft model d number → WaysLeft model number (d ∷ ds)
  way_behind : {d number : ℕ} {ds : List ℕ} → WaysLeft model (number + 1) ds → WaysLeft model number (d ∷ ds)

-- ---- openings

-- what the code of an opening is made by, where variables are read at these types and openings of names stand before it
pub record OpeningWalked (model : Model) (bodies : List (List NodeSizes)) (told : List Reads) (names : List ℕ) (walk : Walk) : Type 0 where
  pub setting : SettingOf model bodies [] told [] walk.setting.now
  pub instances : walk.around.now.instances.now ≡ model.sized.now.instances
  pub given : walk.around.now.given.now ≡ []
  pub openings : walk.around.now.openings.now ≡ names
  pub before_is : walk.around.now.before ≡ model.before

-- what it is judged by before a type of it is known, where openings of these types stand before it as well
pub record OpeningJudged (model : Model) (bodies : List (List NodeSizes)) (told : List Reads) (before names : List ℕ) (judge : Judge) : Type 0 where
  pub setting : SettingOf model bodies [] told [] judge.setting.now
  pub instances : judge.around.now.instances.now ≡ model.sized.now.instances
  pub given : judge.around.now.given.now ≡ []
  pub openings : judge.around.now.openings.now ≡ names
  pub before_is : judge.around.now.before ≡ model.before
  pub shell : judge.signs.now.shell.now ≡ model.shell.now
  pub lets : judge.signs.now.lets.now ≡ before
  pub called : judge.signs.now.called.now ≡ []
  pub turned : judge.signs.now.turned.now ≡ []
  pub below : judge.signs.now.below ≡ 0
  pub result : judge.signs.now.result ≡ judge.setting.now.unit
  pub is_pure : judge.signs.now.is_pure ≡ true

-- the value of a node has this type alone, or none alone
pub record OnlyType (judge : Judge) (c : Core) (typ : Sized) : Type 0 where
  pub is : (typed judge c).types ≡ typ ∷ []

pub record NoOnlyType (judge : Judge) (c : Core) : Type 0 where
  pub none : (typ : Sized) → (typed judge c).types ≡ typ ∷ [] → ⊥

-- so that of an opening
pub record ValueTyped (model : Model) (o : Opening) (bodies : List (List NodeSizes)) (before names : List ℕ) (typ : Sized) : Type 0 where
  pub judge : Judge
  pub judged : OpeningJudged model bodies (tree_reads bodies o.value) before names judge
  pub only : OnlyType judge o.value typ

pub record NoType (model : Model) (o : Opening) (bodies : List (List NodeSizes)) (before names : List ℕ) : Type 0 where
  pub judge : Judge
  pub judged : OpeningJudged model bodies (tree_reads bodies o.value) before names judge
  pub none : NoOnlyType judge o.value

-- its tree isn't lowered here, or its code hasn't its types, or gives others, or no function has it
pub data ValueCodeLeft (walk : Walk) (judge : Judge) (head : Head) (o : Opening) (typ : Sized) : Type 0 where
  value_not_able : ((name : Naming) → (node_for walk.setting.now walk.around.now name o.value).ok ≡ false) → ValueCodeLeft walk judge head o typ
  value_not_right : (typed judge o.value).right ≡ false → ValueCodeLeft walk judge head o typ
  value_of_others : ((typed judge o.value).types ≡ typ ∷ [] → ⊥) → ValueCodeLeft walk judge head o typ
  value_not_coded : CodeLeft walk head [] (λ name. value_for walk name o.place o.value) → ValueCodeLeft walk judge head o typ

-- so of a value of this type
pub record ValueLeft (model : Model) (o : Opening) (bodies : List (List NodeSizes)) (before names : List ℕ) (typ : Sized) : Type 0 where
  pub walk : Walk
  pub judge : Judge
  pub head : Head
  pub around : OpeningAround model bodies (tree_reads bodies o.value) before names walk judge head
  pub result : head.result ≡ type_in model.numbered.now typ
  pub why : ValueCodeLeft walk judge head o typ

-- the pattern of a let isn't lowered here, binds a name twice, or none where it can fail, or its value is said to be of other types
pub record NotTaken (walk : Walk) (value : Core) (arm : Arm) (whole : Sized) : Type 0 where
  pub why : ArmTaken walk.setting.now walk.around.now value arm whole → ⊥

pub record ArmLeft (model : Model) (o : Opening) (bodies : List (List NodeSizes)) (names : List ℕ) (arm : Arm) (whole : Sized) : Type 0 where
  pub walk : Walk
  pub walked : OpeningWalked model bodies (tree_reads bodies o.value) names walk
  pub why : NotTaken walk o.value arm whole

pub data LetValueLeft (model : Model) (o : Opening) (bodies : List (List NodeSizes)) (before names : List ℕ) (arm : Arm) (whole : Sized) : Type 0 where
  arm_left : ArmLeft model o bodies names arm whole → LetValueLeft model o bodies before names arm whole
  value_left : ValueLeft model o bodies before names whole → LetValueLeft model o bodies before names arm whole

-- a name of a let isn't held, or the pattern over the value of the let doesn't fit, or no function has its code
pub data NameCodeLeft (walk : Walk) (judge : Judge) (head : Head) (name : LetName) (arm : Arm) : Type 0 where
  not_nothing : (walk.setting.now.nothing.now ≡ S.Unit → ⊥) → NameCodeLeft walk judge head name arm
  not_given : same (slice_get judge.signs.now.lets.now name.opening) (Some (number_for walk.setting.now name.whole.now)) ≡ false
      → NameCodeLeft walk judge head name arm
  not_held : (NameHeld judge name arm → ⊥) → NameCodeLeft walk judge head name arm
  name_not_coded : CodeLeft walk head [] (λ naming. name_for walk naming name) → NameCodeLeft walk judge head name arm

pub record NameFunctionLeft (model : Model) (name : LetName) (arm : Arm) (before names : List ℕ) : Type 0 where
  pub walk : Walk
  pub judge : Judge
  pub head : Head
  pub around : OpeningAround model [] [] before names walk judge head
  pub result : head.result ≡ type_in model.numbered.now name.typ.now
  pub why : NameCodeLeft walk judge head name arm

-- a name that steps bind over a value of this type holds values of this one, or of none
pub record HeldBy (judge : Judge) (whole : Sized) (steps : List Step) (text : List ℕ) (typ : Sized) : Type 0 where
  pub is : here.name_typ judge steps (whole ∷ []) text ≡ Some typ

pub record NotHeldBy (judge : Judge) (whole : Sized) (steps : List Step) (text : List ℕ) : Type 0 where
  pub is : here.name_typ judge steps (whole ∷ []) text ≡ None

pub record HeldAs (model : Model) (whole : Sized) (steps : List Step) (text : List ℕ) (before names : List ℕ) (typ : Sized) : Type 0 where
  pub judge : Judge
  pub judged : OpeningJudged model [] [] before names judge
  pub held : HeldBy judge whole steps text typ

pub record NoHeld (model : Model) (whole : Sized) (steps : List Step) (text : List ℕ) (before names : List ℕ) : Type 0 where
  pub judge : Judge
  pub judged : OpeningJudged model [] [] before names judge
  pub none : NotHeldBy judge whole steps text

-- the name of a let at a place, over a value of this type, which the k-th opening gives
pub record IsNameOf (place : Place) (k : ℕ) (whole : Sized) (steps : List Step) (text : List ℕ) (name : LetName) : Type 0 where
  pub placed : name.place ≡ place
  pub opening : name.opening ≡ k
  pub whole_is : name.whole.now ≡ whole
  pub steps_are : name.steps.now ≡ steps
  pub text_is : name.name.now ≡ text

pub data NameLeft (model : Model) (place : Place) (k : ℕ) (whole : Sized) (arm : Arm) (text : List ℕ) (before names : List ℕ) : Type 0 where
  name_no_type : NoHeld model whole (steps_in arm) text before names → NameLeft model place k whole arm text before names
  name_not_made : {name : LetName} → IsNameOf place k whole (steps_in arm) text name → HeldAs model whole (steps_in arm) text before names name.typ.now
      → NameFunctionLeft model name arm before names → NameLeft model place k whole arm text before names

-- one of several names
pub data NamesLeft (model : Model) (place : Place) (k : ℕ) (whole : Sized) (arm : Arm) : List (List ℕ) → List ℕ → List ℕ → Type 0 where
  name_here : {text : List ℕ} {texts : List (List ℕ)} {before names : List ℕ}
      → NameLeft model place k whole arm text before names → NamesLeft model place k whole arm (text ∷ texts) before names
  name_behind : {text : List ℕ} {texts : List (List ℕ)} {before names : List ℕ} {made : Made}
      → NameMade model place k whole (steps_in arm) text before names made
      → NamesLeft model place k whole arm texts (before ++ made.result ∷ []) (names ++ length before ∷ [])
      → NamesLeft model place k whole arm (text ∷ texts) before names

-- an initial value of no one type, that isn't made, or of another type than its register
pub data RegisterLeft (model : Model) (o : Opening) (bodies : List (List NodeSizes)) (before names : List ℕ) (register : ℕ) : Type 0 where
  register_no_type : NoType model o bodies before names → RegisterLeft model o bodies before names register
  register_not_made : {typ : Sized} → ValueTyped model o bodies before names typ → ValueLeft model o bodies before names typ
      → RegisterLeft model o bodies before names register
  register_of_other : {made : Made} → ValueMade model o bodies before names made → (slice_get model.shell.now.registers register ≡ Some made.result → ⊥)
      → RegisterLeft model o bodies before names register

-- a let over a value of no one type, or that isn't made, or a name of which isn't
pub data LetLeft (model : Model) (o : Opening) (bodies : List (List NodeSizes)) (before names : List ℕ) (arm : Arm) : Type 0 where
  let_no_type : NoType model o bodies before names → LetLeft model o bodies before names arm
  let_not_made : {whole : Sized} → ValueTyped model o bodies before names whole → LetValueLeft model o bodies before names arm whole
      → LetLeft model o bodies before names arm
  let_names_left : {whole : Sized} {made : Made} → ValueTyped model o bodies before names whole → ValueMade model o bodies before names made
      → NamesLeft model o.place (length before) whole arm (names_in (steps_in arm)) (before ++ made.result ∷ []) names
      → LetLeft model o bodies before names arm

pub data KindLeft (model : Model) (o : Opening) (bodies : List (List NodeSizes)) (before names : List ℕ) : Type 0 where
  left_register : {r : ℕ} → o.kind ≡ K.Register r → RegisterLeft model o bodies before names r → KindLeft model o bodies before names
  left_let : {arm : Arm} → o.kind ≡ K.Let arm → LetLeft model o bodies before names arm → KindLeft model o bodies before names

-- the i-th opening has no nodes with sizes, or isn't made by them
pub data OpeningLeft (model : Model) (i : ℕ) (o : Opening) (before names : List ℕ) : Type 0 where
  no_sizes : slice_get model.sized.now.openings i ≡ None → OpeningLeft model i o before names
  kind_left : {nodes : List NodeSizes} → slice_get model.sized.now.openings i ≡ Some nodes → KindLeft model o (nodes ∷ []) before names
      → OpeningLeft model i o before names

-- one of several, from the i-th on, where these types of openings and openings of names stand before them
pub data OpeningsLeft (model : Model) : ℕ → List Opening → List ℕ → List ℕ → Type 0 where
  opening_here : {i : ℕ} {o : Opening} {os : List Opening} {before names : List ℕ}
      → OpeningLeft model i o before names → OpeningsLeft model i (o ∷ os) before names
  opening_behind : {i : ℕ} {o : Opening} {os : List Opening} {before names middle bound : List ℕ} {functions : List Made} {registers : List (Option ℕ)}
      → OpeningsMade model i (o ∷ []) before names functions registers middle bound
      → OpeningsLeft model (i + 1) os middle bound → OpeningsLeft model i (o ∷ os) before names
