-- What the module of a model is: the functions of directions of mappings, behind them those of its instances, and of top-level lets and initial values.
use Rattle.std.specs.Prelude.{◌≡◌, ◌≤◌, ℕ, pos, ◌+◌, ◌*◌, Bool, true, false, not, ◌&&◌, ◌||◌, List, [], ◌∷◌, ◌++◌, length, map, Option, Some, None}
use Rattle.std.specs.Prelude.{slice_get}
use Rattle.std.specs.Str.{bytes_eq}
use Rattle.sail_base.specs.declared.place.Place.{Place}
use Rattle.sail_core.specs.Fragments.{model_in}
use Rattle.sail_core.specs.declared.fragments.Fragment.TheVariants as G
use Rattle.sail_core.specs.declared.patterns.Arm.{Arm}
use Rattle.sail_core.specs.declared.patterns.Arm.TheVariants.{Flat}
use Rattle.sail_core.specs.declared.patterns.Step.{Step}
use Rattle.sail_core.specs.declared.patterns.Step.TheVariants as P
use Rattle.sail_core.specs.declared.tree.Core.{Core}
use Rattle.sail_core.specs.declared.model.Opening.{Opening}
use Rattle.sail_core.specs.declared.model.OpeningKind.TheVariants as K
use Rattle.sail_core.specs.declared.model.CoreModel.{CoreModel}
use Rattle.size_values.specs.declared.sized.Sized.{Sized, out-Sized}
use Rattle.size_values.specs.declared.sized.Sized.TheVariants as S
use Rattle.sized_nodes.specs.declared.trees.NodeSizes.{NodeSizes}
use Rattle.sized_nodes.specs.declared.trees.SizedCore.{SizedCore}
use Rattle.sized_nodes.specs.declared.trees.SizedInstance.{SizedInstance}
use Rattle.sized_meanings.specs.Sized.{joined_nodes}
use Rattle.checked_meaning.specs.Items.{fixed_typ}
use Rattle.jib.specs.declared.code.Function.{Function as Made}
use Rattle.jib.specs.declared.code.Opening.{Opening as MadeOpening}
use Rattle.jib.specs.declared.code.Module.{Module}
use Rattle.jib.specs.Operands.{each}
use Rattle.jib.specs.Typing.{same}
use Rattle.jib.specs.Valid.{typ_right}
use Rattle.lowered_types.specs.Table.{all_known, is_known, type_in}
use Rattle.lowered_pieces.specs.declared.coding.Coding.{Coding}
use Rattle.lowered_pieces.specs.Arms.{Hand, arm_fits, arm_hand, held_at, steps_in, word_width}
use Rattle.lowered_pieces.specs.Mapped.{ends_with, fixed_end}
use Rattle.lowered_pieces.specs.Places.{Naming}
use Rattle.lowered_steps.specs.declared.setting.Reads.{Reads}
use Rattle.lowered_steps.specs.declared.setting.Setting.{Setting}
use Rattle.lowered_steps.specs.Setting.{crosses_for, kit_for, reads_at, size_for}
use Rattle.lowered_laws.specs.Opened.{held_typ}
use Rattle.lowered_ends.specs.declared.around.Around.{Around}
use Rattle.lowered_ends.specs.Around.{node_for}
use Rattle.lowered_functions.specs.Walk.{Walk}
use Rattle.lowered_tables.specs.Built.{Stands}
use Rattle.lowered_tables.specs.declared.tables.Table.{Table}
use Rattle.lowered_functions.specs.Made.{CodeMade, name_for, value_for}
use Rattle.lowered_functions.specs.declared.openings.LetName.{LetName}
use Rattle.lowered_typed.specs.declared.signs.Judge.{Judge}
use Rattle.lowered_typed.specs.Judging.{arm_typed, typed}
use Rattle.mappings.specs.Rewriting.{without_mappings}
use Rattle.match_rewrite.specs.Rewriting.{with_flat_arms}
use Rattle.tabled_models.specs.Cores.{core_tabled}
use Rattle.jib_lower.specs.declared.functions.Head.{Head}
use Rattle.jib_lower.specs.declared.instances.Model.{Model}
use Rattle.jib_lower.specs.declared.openings.Opened.{Opened}
use Rattle.jib_lower.specs.Crossings.{calls_of}
use Rattle.jib_lower.specs.Directions.{WaysMade}
use Rattle.jib_lower.specs.Entering.{mapped_from}
use Rattle.jib_lower.specs.Functions.{FunctionMade}
use Rattle.jib_lower.specs.Instances.{CalledAre, InstancesMade, SettingOf, leads_alone}
use Rattle.jib_lower.specs.Order.{Ordered, made_in}
use Rattle.jib_lower.specs.Reads.{tree_reads}
use Rattle.jib_lower.specs.Types.{all_in_bodies, all_in_instances, all_in_registers, all_in_ways, all_small, exception_typ}

-- ---- openings

-- what is around the function of an opening, where variables are read at these types, openings of these types stand before it and these are of names: pure,
-- over no arguments, and it asks no direction
pub record OpeningAround (model : Model) (bodies : List (List NodeSizes)) (told : List Reads) (before names : List ℕ) (walk : Walk) (judge : Judge)
    (head : Head) : Type 0 where
  pub setting : SettingOf model bodies [] told [] walk.setting.now
  pub instances : walk.around.now.instances.now ≡ model.sized.now.instances
  pub given : walk.around.now.given.now ≡ []
  pub openings : walk.around.now.openings.now ≡ names
  pub before_is : walk.around.now.before ≡ model.before
  pub judged : (judge.setting.now ≡ walk.setting.now) × (judge.around.now ≡ walk.around.now)
  pub shell : judge.signs.now.shell.now ≡ model.shell.now
  pub lets : judge.signs.now.lets.now ≡ before
  pub called : judge.signs.now.called.now ≡ []
  pub turned : judge.signs.now.turned.now ≡ []
  pub below : judge.signs.now.below ≡ 0
  pub result : judge.signs.now.result ≡ head.result
  pub is_pure : judge.signs.now.is_pure ≡ true
  pub takes : head.given.now ≡ []
  pub reads : head.lets ≡ length before
  pub pure : head.is_pure ≡ true

-- the function that gives the value of an opening
pub record ValueMade (model : Model) (o : Opening) (bodies : List (List NodeSizes)) (before names : List ℕ) (made : Made) : Type 0 where
  pub walk : Walk
  pub judge : Judge
  pub head : Head
  pub coding : Coding
  pub around : OpeningAround model bodies (tree_reads bodies o.value) before names walk judge head
  pub able : (name : Naming) → (node_for walk.setting.now walk.around.now name o.value).ok ≡ true
  pub right : (typed judge o.value).right ≡ true
  pub typ : Sized
  pub only : (typed judge o.value).types ≡ typ ∷ []
  pub result : head.result ≡ type_in model.numbered.now typ
  pub code : CodeMade walk coding [] (λ name. value_for walk name o.place o.value)
  pub is : FunctionMade walk.setting.now head coding made

-- what an arm has in hand behind its steps, which look at a value of this type
abbrev pub let_hand : Setting → Naming → List Step → Sized → Hand
let_hand setting naming steps whole = arm_hand setting.types.now (kit_for setting naming) steps 1 3 (held_at 0 whole ∷ [])

-- the names that steps bind, in order
abbrev pub names_in : List Step → List (List ℕ)
names_in [] = []
names_in (P.Names i name ∷ ss) = name ∷ names_in ss
names_in (s ∷ ss) = names_in ss

abbrev pub is_among : List ℕ → List (List ℕ) → Bool
is_among name [] = false
is_among name (x ∷ xs) = bytes_eq name x || is_among name xs

abbrev pub names_differ : List (List ℕ) → Bool
names_differ [] = true
names_differ (x ∷ xs) = not (is_among x xs) && names_differ xs

abbrev pub has_names : List (List ℕ) → Bool
has_names [] = false
has_names (x ∷ xs) = true

-- the functions of names look at the pattern: with no name there is nothing that can fail
abbrev pub fails_seen : List Step → Bool
fails_seen [] = true
fails_seen (s ∷ ss) = has_names (names_in (s ∷ ss))

-- the arm of a let over a value that has one type: it is lowered here, binds each name once, and a name where it can fail
pub record ArmTaken (setting : Setting) (around : Around) (value : Core) (arm : Arm) (whole : Sized) : Type 0 where
  pub lowered : arm_fits (size_for setting) (crosses_for setting) (reads_at setting.reads.now) arm ≡ true
  pub differ : names_differ (names_in (steps_in arm)) ≡ true
  pub seen : fails_seen (steps_in arm) ≡ true
  pub ends : (name : Naming) → ends_with whole (fixed_end (node_for setting around name value).piece.ends) ≡ true

-- the function that gives the value of a name of a let, the value of which the k-th opening gives
pub record NameMade (model : Model) (place : Place) (k : ℕ) (whole : Sized) (steps : List Step) (text : List ℕ) (before names : List ℕ) (made : Made) : Type 0
  where
    pub walk : Walk
    pub judge : Judge
    pub head : Head
    pub coding : Coding
    pub name : LetName
    pub around : OpeningAround model [] [] before names walk judge head
    pub placed : name.place ≡ place
    pub opening : name.opening ≡ k
    pub whole_is : name.whole.now ≡ whole
    pub steps_are : name.steps.now ≡ steps
    pub text_is : name.name.now ≡ text
    pub given : same (slice_get before k) (Some (type_in model.numbered.now whole)) ≡ true
    pub right : arm_typed judge (Flat 0 steps) (whole ∷ []) ≡ true
    -- the name holds a value of its type
    pub holds : (naming : Naming) → held_typ (let_hand walk.setting.now naming steps whole).names (let_hand walk.setting.now naming steps whole).named text
        ≡ Some name.typ.now
    pub result : head.result ≡ type_in model.numbered.now name.typ.now
    pub code : CodeMade walk coding [] (λ kit. name_for walk kit name)
    pub is : FunctionMade walk.setting.now head coding made

-- functions of names, one after the other, behind so many openings
pub data NamesMade (model : Model) (place : Place) (k : ℕ) (whole : Sized) (steps : List Step)
    : List (List ℕ) → List ℕ → List ℕ → List Made → List ℕ → List ℕ → Type 0 where
  named_none : {before names : List ℕ} → NamesMade model place k whole steps [] before names [] before names
  named_more : {text : List ℕ} {texts : List (List ℕ)} {before names after more : List ℕ} {made : Made} {rest : List Made}
      → NameMade model place k whole steps text before names made
      → NamesMade model place k whole steps texts (before ++ made.result ∷ []) (names ++ length before ∷ []) rest after more
      → NamesMade model place k whole steps (text ∷ texts) before names (made ∷ rest) after more

-- the openings of a model from the i-th on, where these types of openings and openings of names stand before them: their functions, with their registers
pub data OpeningsMade (model : Model) : ℕ → List Opening → List ℕ → List ℕ → List Made → List (Option ℕ) → List ℕ → List ℕ → Type 0 where
  opens_none : {i : ℕ} {before names : List ℕ} → OpeningsMade model i [] before names [] [] before names
  opens_register : {i r : ℕ} {o : Opening} {os : List Opening} {nodes : List NodeSizes} {before names after more : List ℕ} {made : Made} {rest : List Made}
      {registers : List (Option ℕ)}
      → o.kind ≡ K.Register r → slice_get model.sized.now.openings i ≡ Some nodes → ValueMade model o (nodes ∷ []) before names made
      → slice_get model.shell.now.registers r ≡ Some made.result
      → OpeningsMade model (i + 1) os (before ++ made.result ∷ []) names rest registers after more
      → OpeningsMade model i (o ∷ os) before names (made ∷ rest) (Some r ∷ registers) after more
  opens_let : {i : ℕ} {o : Opening} {os : List Opening} {nodes : List NodeSizes} {before names middle bound after more : List ℕ} {made : Made}
      {given rest : List Made} {registers : List (Option ℕ)}
      → (v : ValueMade model o (nodes ∷ []) before names made) → slice_get model.sized.now.openings i ≡ Some nodes
      → (arm : Arm) (whole : Sized) → o.kind ≡ K.Let arm → ArmTaken v.walk.setting.now v.walk.around.now o.value arm whole
      → NamesMade model o.place (length before) whole (steps_in arm) (names_in (steps_in arm)) (before ++ made.result ∷ []) names given middle bound
      → OpeningsMade model (i + 1) os middle bound rest registers after more
      → OpeningsMade model i (o ∷ os) before names (made ∷ (given ++ rest)) (None ∷ (map (λ x. None) given ++ registers)) after more

-- ---- the module

-- functions of openings, from this number on
abbrev pub opened_from : ℕ → List (Option ℕ) → List MadeOpening
opened_from n [] = []
opened_from n (r ∷ rs) = record { function = n; register = r } ∷ opened_from (n + 1) rs

-- what is made of all openings of a model, the functions of which stand behind so many others
pub record OpenedFrom (model : Model) (before : ℕ) (opened : Opened) : Type 0 where
  pub registers : List (Option ℕ)
  pub made : OpeningsMade model 0 model.core.now.openings [] [] opened.functions registers opened.types opened.names
  pub opens : opened.openings ≡ opened_from before registers

-- what code is made by
pub record ModelOf (core : CoreModel) (sized : SizedCore) (table : Table) (m : Module) (model : Model) : Type 0 where
  pub of_core : model.core.now ≡ core
  pub of_sized : model.sized.now ≡ sized
  pub numbered : model.numbered.now ≡ table.numbered
  pub shell_types : model.shell.now.types ≡ m.types
  pub shell_exception : model.shell.now.exception ≡ m.exception
  pub shell_registers : model.shell.now.registers ≡ m.registers
  pub raised : model.exception.now ≡ exception_typ core.exception
  pub nothing : model.nothing.now ≡ S.Unit
  pub truths : model.truths.now ≡ S.Bool

-- the module of a model with flat arms, and sizes of its nodes
pub record FlatFrom (core : CoreModel) (sized : SizedCore) (m : Module) : Type 0 where
  pub table : Table
  pub stands : Stands core.types table
  pub in_instances : all_in_instances table.numbered sized.instances ≡ true
  pub in_openings : all_in_bodies table.numbered sized.openings ≡ true
  pub in_registers : all_in_registers core.types table.numbered core.registers ≡ true
  pub types : m.types ≡ table.types
  pub typs : each typ_right 0 table.types ≡ true
  pub small : all_small table.numbered ≡ true
  -- with a word shorter ones have numbers
  pub bits : (t : Sized) (n : ℕ) → is_known table.numbered t ≡ true → n ≤ word_width (out-Sized t) → is_known table.numbered (S.Bits (pos n)) ≡ true
  -- of one node's number there is one note of what is called
  pub alone : (p : ℕ) (x : SizedInstance) → slice_get sized.instances p ≡ Some x → leads_alone (joined_nodes x.bodies) ≡ true
  pub openings_alone : (i : ℕ) (nodes : List NodeSizes) → slice_get sized.openings i ≡ Some nodes → leads_alone nodes ≡ true
  pub basic : all_known table.numbered (S.Unit ∷ S.Bool ∷ S.Int ∷ exception_typ core.exception ∷ []) ≡ true
  pub exception : m.exception ≡ type_in table.numbered (exception_typ core.exception)
  pub registers : m.registers ≡ map (λ r. type_in table.numbered (fixed_typ core.types r.typ)) core.registers
  -- what its functions are made by, and those of its openings
  pub model : Model
  pub is : ModelOf core sized table m model
  pub bare : Model
  pub bare_is : ModelOf core sized table m bare
  -- what calls enter, and what is entered where directions are asked, the functions of which stand in an order
  pub called : CalledAre core sized table.numbered model.called.now model.turned.now
  pub ordered : Ordered (calls_of core.directions) (made_in 0 model.turned.now) model.order.now
  pub entered : model.directions.now ≡ mapped_from core.types model.order.now 0 core.directions
  pub in_ways : all_in_ways table.numbered sized.mappings 0 core.directions model.turned.now ≡ true
  -- of directions, of instances, and of openings
  pub ways : List Made
  pub directions : WaysMade model 0 model.order.now ways
  pub before : model.before ≡ length ways
  pub bare_before : bare.before ≡ length ways
  pub functions : List Made
  pub instances : InstancesMade model functions
  pub opened : List Made
  pub of_registers : List (Option ℕ)
  pub openings : OpeningsMade bare 0 core.openings [] [] opened of_registers model.lets.now model.openings.now
  pub all : m.functions ≡ ways ++ (functions ++ opened)
  pub opens : m.openings ≡ opened_from (length ways + 2 * length sized.instances) of_registers

-- so, with how many functions of directions stand before those of its instances
pub record FlatBehind (core : CoreModel) (sized : SizedCore) (m : Module) (before : ℕ) : Type 0 where
  pub from : FlatFrom core sized m
  pub many : before ≡ length from.ways

-- the module of a model as it is written, and sizes of its nodes: that of the model without mappings and with flat arms, where nodes have the same numbers
pub record LoweredFrom (written : CoreModel) (sized : SizedCore) (m : Module) : Type 0 where
  -- each case goes by the numbers that are noted before its value is there
  pub tabled : core_tabled false written ≡ true
  -- nothing in it asks a direction for an option
  pub resolved : model_in G.Resolved written ≡ true
  pub flat : FlatFrom (with_flat_arms (without_mappings written)) sized m

-- so, with how many functions of directions stand before those of its instances
pub record LoweredBehind (written : CoreModel) (sized : SizedCore) (m : Module) (before : ℕ) : Type 0 where
  pub from : LoweredFrom written sized m
  pub many : before ≡ length from.flat.ways
