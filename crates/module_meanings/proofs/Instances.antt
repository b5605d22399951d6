-- Both functions of an instance are the code of the instance: what may be entered has its code.
use Rattle.std.proofs.Common.{◌≡◌, ◌∙◌, ℕ, zero, suc, ◌+◌, ℤ, Bool, true, false, List, [], ◌∷◌, Option, Some, None, refl, sym, ap, subst}
use Rattle.std.proofs.Common.{arith}
use Rattle.std.specs.Prelude.{◌*◌, ◌-◌, ◌++◌, ◌&&◌, length, option_map, slice_get}
use Rattle.std.proofs.lemmas.Bool.{and_parts}
use Rattle.sail_types.specs.Sums.{and_then}
use Rattle.sail_types.specs.declared.values.Value.{Value}
use Rattle.sail_core.specs.Numbers.{Givens, all_agree}
use Rattle.sail_types.specs.Places.{Given as Awaited}
use Rattle.sail_core.specs.declared.model.CoreModel.{CoreModel}
use Rattle.sail_core.specs.declared.model.Function.{Function}
use Rattle.sail_core.specs.declared.tree.Core.{Core}
use Rattle.sail_core.specs.declared.tree.Giver.TheVariants as G
use Rattle.size_values.specs.declared.sized.Sized.{Sized}
use Rattle.checked_meaning.specs.Checked.{checked}
use Rattle.checked_meaning.specs.Items.{Item, items_of, typs}
use Rattle.sized_nodes.specs.declared.trees.NodeSizes.{NodeSizes}
use Rattle.sized_nodes.specs.declared.trees.Signature.{Signature}
use Rattle.sized_nodes.specs.declared.trees.SizedCore.{SizedCore}
use Rattle.sized_nodes.specs.declared.trees.SizedInstance.{SizedInstance}
use Rattle.sized_meanings.specs.Present.{gives_at}
use Rattle.sized_meanings.specs.Sized.{entering, joined_nodes, noted_cases_of, numbers_of}
use Rattle.jib.specs.Jib.{code_in, code_of, slots_in, slots_of}
use Rattle.jib.specs.declared.code.Function.{Function as Code}
use Rattle.jib.specs.declared.code.Instruction.{Instruction}
use Rattle.jib.specs.declared.code.Instruction.TheVariants as I
use Rattle.jib.specs.declared.code.Module.{Module}
use Rattle.lowered_types.specs.Table.{is_known, type_in}
use Rattle.lowered_slots.specs.Slots.{name_in}
use Rattle.lowered_slots.specs.declared.slots.Place.TheVariants.{Given}
use Rattle.lowered_pieces.specs.declared.coding.Coding.{Coding}
use Rattle.lowered_pieces.specs.Forms.{Piece, cast_piece}
use Rattle.lowered_pieces.specs.Functions.{all_in, called_code, event_code, measure_of}
use Rattle.lowered_pieces.specs.Lowering.{Node}
use Rattle.lowered_pieces.specs.Nodes.{awaited_in, cases_at, function_in}
use Rattle.lowered_pieces.specs.Places.{HasSlots, Kit, Names, Naming}
use Rattle.lowered_laws.proofs.TablesTelling.{noted_tell}
use Rattle.lowered_steps.specs.Setting.{kit_for, nodes_in}
use Rattle.lowered_steps.specs.declared.setting.Reads.{Reads}
use Rattle.lowered_steps.specs.declared.setting.Setting.{Setting}
use Rattle.lowered_ends.specs.Around.{node_for}
use Rattle.lowered_ends.specs.declared.around.Around.{Around}
use Rattle.lowered_functions.specs.Made.{CodeMade, called_for, event_for}
use Rattle.lowered_typed.specs.Here as Here
use Rattle.lowered_typed.specs.Judging.{typed}
use Rattle.lowered_typed.specs.declared.signs.Called.{Called}
use Rattle.lowered_laws.specs.Crossings.{crosses_within}
use Rattle.lowered_laws.specs.Modules.{AllLowered, AllTick, EventsLowered, Lowered, Made, Shape, event_shape}
use Rattle.lowered_laws.specs.Telling.{Tells}
use Rattle.lowered_laws.specs.KnownLaws.{AreTold, IsRead}
use Rattle.lowered_laws.proofs.ToldArguments.{arguments_told}
use Rattle.lowered_laws.proofs.ReadInstances.{instances_read}
use Rattle.lowered_laws.proofs.KnownSizes.{sizes_known}
use Rattle.lowered_laws.proofs.KnownTruths.{truths_known}
use Rattle.jib_lower.specs.Functions.{FunctionMade, able_for, typed_for}
use Rattle.jib_lower.specs.Instances.{MadeAt}
use Rattle.jib_lower.specs.Lowered.{FlatFrom}
use Rattle.jib_lower.specs.Reads.{function_reads}
use Rattle.jib_lower.specs.Types.{all_in_bodies, all_in_cases, all_in_told, in_signature}
use Rattle.jib_lower.proofs.Basics.{basic_of, get_past, got_before}
use Rattle.jib_lower.proofs.Placing.{basics, exception_here}
use Rattle.module_meanings.proofs.Alone.{AllAlone}
use Rattle.module_cycles.specs.Laws.{cycle_by, cycle_there, may_cross, nodes_by, nodes_of}
use Rattle.module_meanings.proofs.Around.{crossed_same, every, kit_at, kit_same, node_at, node_same, numbers_same, size_by, tables_by, tells_read, truth_by}
use Rattle.module_meanings.proofs.Around.{ways_by}
use Rattle.module_meanings.proofs.Crossed.{crosses_wider}
use Rattle.module_meanings.proofs.Known.{all_had, bodies_there, instance_there, stands}
use Rattle.module_meanings.proofs.Made.{AreLets, called_slots, event_slots, every_crossed, made_at, module_of, name_of, numbers_at, numbers_in}
use Rattle.module_meanings.proofs.Made.{reads_by, reads_for, slots_by, variables_at}
use Rattle.module_meanings.proofs.Made.{instance_slots, judged_within, slots_there}
use Rattle.module_meanings.proofs.Slots.{given_place, has_slots, names_apart, typs_of}

none : {A X : Type 0} (x : A) → None ≡ Some x → X
none x e = cc

some_same : {A : Type 0} (x y : A) → Some x ≡ Some y → x ≡ y
some_same x y e = cc

and_first : (a b : Bool) → (a && b) ≡ true → a ≡ true
and_first true b h = refl
and_first false b h = h

get_typ : (xs : List Item) (j : ℕ) (x : Item) → slice_get xs j ≡ Some x → slice_get (typs xs) j ≡ Some x.typ
get_typ [] j x e = none x e
get_typ (y ∷ xs) zero x e = ap (λ (z : Item). Some z.typ) (some_same y x e)
get_typ (y ∷ xs) (suc j) x e = get_typ xs j x e

module _ (core : CoreModel) (sized : SizedCore) (m : Module) (low : FlatFrom core sized m) (apart : AllAlone core sized)
    (hart : ℕ) (vs : List Value) (lets : AreLets core sized m low vs) where
  abbrev x : Made
  x = module_of core sized m low hart vs lets

  abbrev ss : List Sized
  ss = low.table.numbered

  -- the functions of directions stand before those of instances
  abbrev called_at : ℕ → ℕ
  called_at p = length low.ways + 2 * p

  abbrev event_at : ℕ → ℕ
  event_at p = length low.ways + 2 * p + 1

  function_there : (k : ℕ) (f : Code) → slice_get low.functions k ≡ Some f → slice_get m.functions (length low.ways + k) ≡ Some f
  function_there k f e =
      ap (λ fs. slice_get fs (length low.ways + k)) low.all ∙ get_past low.ways (low.functions ++ low.opened) k ∙ got_before low.functions low.opened k f e

  behind_one : (n k : ℕ) → n + (k + 1) ≡ n + k + 1
  behind_one n k = omega arith

  event_there : (p : ℕ) (f : Code) → slice_get low.functions (2 * p + 1) ≡ Some f → slice_get m.functions (event_at p) ≡ Some f
  event_there p f e = ap (slice_get m.functions) (sym (behind_one (length low.ways) (2 * p))) ∙ function_there (2 * p + 1) f e

  -- ---- the instance at a place, as a function of the core

  module _ (p : ℕ) (y : SizedInstance) (e : slice_get sized.instances p ≡ Some y) (f : Function)
      (is : slice_get core.functions y.instance.function ≡ Some f) where
    abbrev at : MadeAt low.model low.functions p y
    at = made_at core sized m low p y e

    abbrev setting : Setting
    setting = at.walk.setting.now

    abbrev around : Around
    around = at.walk.around.now

    abbrev zs : List (Option ℤ)
    zs = numbers_at core sized m low p

    abbrev nodes : List NodeSizes
    nodes = nodes_of core sized m low p

    abbrev cross : ℕ → Bool
    cross = may_cross core sized m low p

    abbrev variables : List Reads
    variables = variables_at core sized m low p

    function_is : at.function ≡ f
    function_is = some_same at.function f (sym at.found ∙ ap (λ (c : CoreModel). slice_get c.functions y.instance.function) low.is.of_core ∙ is)

    nodes_is : joined_nodes y.bodies ≡ nodes
    nodes_is = ap (nodes_by sized low.model.turned.now (p - length sized.instances)) (sym e)

    variables_is : function_reads y.bodies at.function ≡ variables
    variables_is =
        ap (function_reads y.bodies) function_is ∙ ap (reads_by core sized m low y.bodies) (sym is)
        ∙ ap (reads_for core sized m low (p - length sized.instances)) (sym e)

    numbers_is : y.instance.numbers ≡ zs
    numbers_is = ap (numbers_in core sized m low) (sym e)

    types_is : setting.numbered.now ≡ ss
    types_is = numbers_same core sized m low low.model low.is y.bodies y.instance.numbers setting at.setting

    in_nodes : nodes_in setting ≡ nodes
    in_nodes = ap joined_nodes at.setting.bodies_are ∙ nodes_is

    -- its trees call and ask such directions alone as it may

    cycle_is : at.judge.signs.now.cycle ≡ cycle_there core sized m low p
    cycle_is =
        let q = low.called.each p y e in
        at.signs.cycle_is ∙ ap (λ (c : Called). c.cycle) (some_same at.called_is q.0 (sym at.enters ∙ q.1)) ∙ q.2.cycle
        ∙ ap (cycle_by low.called.cycles low.model.turned.now (p - length sized.instances)) (sym e)

    within : (name : Naming) (c : Core) → (node_for setting around name c).ok ≡ true → (typed at.judge c).right ≡ true → crosses_within cross c ≡ true
    within name c able right =
        judged_within core sized m low at.judge p cycle_is at.signs.turned name c ((λ j. (node_for (at.judged.0 j) (at.judged.1 j) name c).ok) ∙ able) right

    kit_is : (name : Naming) → kit_for setting name ≡ kit_at core sized m low zs name
    kit_is name =
        kit_same core sized m low low.model low.is y.bodies y.instance.numbers setting at.setting name
        ∙ (λ j. kit_at core sized m low (numbers_is j) name)

    -- ---- entered with these numbers and arguments

    module _ (nu : Givens) (agree : all_agree (numbers_of y.instance) nu ≡ true) (ws : List Value) (xs : List Item)
        (enters : x.s.sizing.enters y.instance.function p nu ws ≡ Some xs) where
      read : IsRead false core sized p y nu
      read = instances_read false core sized p y nu e agree

      told : AreTold core.types at.signature.parameters ws xs
      told =
          arguments_told core.types at.signature.parameters at.plain.parameters ws xs
          (ap (λ (o : Option (List Sized)). and_then o (λ ts. items_of ts ws))
          (sym (read.enters ws ∙ ap (λ (o : Option Signature). and_then o (entering false core.types ws)) at.plain.signed)) ∙ enters)

      given_is : around.given.now ≡ typs xs
      given_is = at.around.given ∙ sym told.types_are

      abbrev there : Naming → Core → Node
      there = node_at core sized m low cross zs (typs xs) low.model.openings.now variables nodes

      node_is : (name : Naming) (c : Core) → crosses_within cross c ≡ true → node_for setting around name c ≡ there name c
      node_is name c h =
          node_same core sized m low low.model low.is y.bodies y.instance.numbers setting at.setting around (typs xs) low.model.openings.now
          (at.around.instances ∙ ap (λ (z : SizedCore). z.instances) low.is.of_sized) given_is at.around.openings (at.around.before ∙ low.before) name c
          ∙ (λ j. node_at core sized m low (every core sized m low low.model.directions.now) (numbers_is j) (typs xs) low.model.openings.now (variables_is j)
          (nodes_is j) name c)
          ∙ crossed_same core sized m low (every core sized m low low.model.directions.now) cross zs (typs xs) low.model.openings.now variables nodes name c
          (crosses_wider cross (every core sized m low low.model.directions.now) (every_crossed core sized m low p) c h) h

      able : (name : Naming) → able_for at.walk name f ≡ true
      able name = subst (λ (g : Function). able_for at.walk name g ≡ true) function_is (at.made.able name)

      abbrev measure : Option Core
      measure = measure_of f.cycle f.measure

      both_typed : (all_in (λ c. (typed at.judge c).right) measure ≡ true) × (Here.result_right at.judge f.last (typed at.judge f.body) ≡ true)
      both_typed =
          and_parts (all_in (λ c. (typed at.judge c).right) measure) (Here.result_right at.judge f.last (typed at.judge f.body))
          (subst (λ (g : Function). typed_for at.judge g ≡ true) function_is at.made.typed)

      both_able : (name : Naming)
          → (all_in (λ c. (node_for setting around name c).ok) measure ≡ true) × ((node_for setting around name f.body).ok ≡ true)
      both_able name = and_parts (all_in (λ c. (node_for setting around name c).ok) measure) (node_for setting around name f.body).ok (able name)

      -- whatever the numbering of slots, as this one
      abbrev some_name : Naming
      some_name = name_in at.made.called_coding.slots

      body_within : crosses_within cross f.body ≡ true
      body_within = within some_name f.body (both_able some_name).1 (and_first (typed at.judge f.body).right _ both_typed.1)

      measure_within : (o : Option Core) → all_in (λ c. (node_for setting around some_name c).ok) o ≡ true → all_in (λ c. (typed at.judge c).right) o ≡ true
          → all_in (crosses_within cross) o ≡ true
      measure_within None k h = refl
      measure_within (Some c) k h = within some_name c k h

      measure_cross : all_in (crosses_within cross) measure ≡ true
      measure_cross = measure_within measure (both_able some_name).0 both_typed.0

      body_able : (name : Naming) → (there name f.body).ok ≡ true
      body_able name = ap (λ (n : Node). n.ok) (sym (node_is name f.body body_within)) ∙ (both_able name).1

      measure_ok : (name : Naming) (o : Option Core) → all_in (crosses_within cross) o ≡ true → all_in (λ c. (node_for setting around name c).ok) o ≡ true
          → all_in (λ c. (there name c).ok) o ≡ true
      measure_ok name None h k = refl
      measure_ok name (Some c) h k = ap (λ (n : Node). n.ok) (sym (node_is name c h)) ∙ k

      measure_able : (name : Naming) → all_in (λ c. (there name c).ok) measure ≡ true
      measure_able name = measure_ok name measure measure_cross (both_able name).0

      measure_piece : (name : Naming) (o : Option Core) → all_in (crosses_within cross) o ≡ true
          → option_map (λ c. (node_for setting around name c).piece) o ≡ option_map (λ c. (there name c).piece) o
      measure_piece name None h = refl
      measure_piece name (Some c) h = ap (λ (n : Node). Some n.piece) (node_is name c h)

      -- its code

      abbrev result_there : Naming → Piece
      result_there name =
          cast_piece (kit_at core sized m low zs name) (type_in ss) (cases_at f.last 1 nodes) (gives_at nodes (G.Node f.last)) (there name f.body).piece

      called_is : (name : Naming) → called_for at.walk name f
          ≡ called_code (kit_at core sized m low zs name) f.place (option_map (λ c. (there name c).piece) measure) (result_there name)
      called_is name = λ j. called_code (kit_is name j) f.place (measure_piece name measure measure_cross j)
          (cast_piece (kit_is name j) (type_in (types_is j)) (cases_at f.last 1 (in_nodes j)) (gives_at (in_nodes j) (G.Node f.last))
          (node_is name f.body body_within j).piece)

      event_is : (name : Naming) → event_for at.walk name f ≡ event_code (kit_at core sized m low zs name) f.place (result_there name)
      event_is name = λ j. event_code (kit_is name j) f.place
          (cast_piece (kit_is name j) (type_in (types_is j)) (cases_at f.last 1 (in_nodes j)) (gives_at (in_nodes j) (G.Node f.last))
          (node_is name f.body body_within j).piece)

      -- a function of the module that has this code

      module _ (q : ℕ) (g : Code) (coding : Coding) (code : Naming → List Instruction) (is_made : FunctionMade setting at.head coding g)
          (made : CodeMade at.walk coding at.head.given.now code) (is_there : slice_get m.functions q ≡ Some g)
          (name_is : name_of core sized m low q ≡ name_in coding.slots) where
        abbrev name : Naming
        name = name_of core sized m low q

        abbrev kit_here : Kit
        kit_here = kit_at core sized m low zs name

        slots_is : slots_of m q ≡ typs_of coding.slots
        slots_is = ap slots_in is_there ∙ is_made.slots

        pub code_is : code_of m q ≡ coding.code
        code_is = ap code_in is_there ∙ is_made.code

        names_stand : Names kit_here (slots_of m q)
        names_stand =
            subst (Names kit_here) (sym slots_is)
            (names_apart setting at.head.given.now coding made.first kit_here name_is
            (exception_here core sized m low low.model low.is y.bodies y.instance.numbers setting at.setting))

        slots_stand : HasSlots (slots_of m q) (code_of m q)
        slots_stand =
            subst (λ ts. HasSlots ts (code_of m q)) (sym slots_is)
            (subst (HasSlots (typs_of coding.slots)) (sym code_is) (has_slots coding made.room))

        places_stand : (j : ℕ) (z : Item) → slice_get xs j ≡ Some z → name (Given j) (type_in ss z.typ) ≡ suc j
        places_stand j z i =
            ap (λ (n : Naming). n (Given j) (type_in ss z.typ)) name_is
            ∙ ap (λ ts. name_in coding.slots (Given j) (type_in ts z.typ)) (sym types_is)
            ∙ given_place setting at.head.given.now coding made.first j z.typ
            (ap (λ ts. slice_get ts j) (at.headed.given ∙ sym told.types_are) ∙ get_typ xs j z i)

        abbrev in_types : (in_signature ss y.signature ≡ true) × (all_in_bodies ss y.bodies ≡ true)
        in_types = instance_there ss sized.instances p y low.in_instances e

        in_told : all_in_told ss at.signature.parameters ≡ true
        in_told =
            (and_parts (all_in_told ss at.signature.parameters) (all_in_cases ss at.signature.result.cases)
            (ap (in_signature ss) (sym at.plain.signed) ∙ in_types.0)).0

        tells_so : Tells core.types (tables_by core sized m low variables nodes) (noted_cases_of core.types sized.instances (joined_nodes y.bodies))
        tells_so =
            subst (λ ns. Tells core.types (tables_by core sized m low variables ns) (noted_cases_of core.types sized.instances (joined_nodes y.bodies)))
            nodes_is
            (tells_read core sized m low variables (joined_nodes y.bodies) (noted_cases_of core.types sized.instances (joined_nodes y.bodies))
            (noted_tell core.types (is_known ss) sized.instances (joined_nodes y.bodies)
            (apart.instance p y f e is (low.alone p y e)) (bodies_there ss y.bodies in_types.1)))

        pub lowered : (shape : Shape x)
            → code_of m q ≡ shape kit_here f.place (option_map (λ c. (there name c).piece) measure) (result_there name)
            → Lowered x q shape y.instance.function p f nu ws xs
        lowered shape is_code = record {
          cases = noted_cases_of core.types sized.instances (joined_nodes y.bodies);
          reads = ap (checked core.types) read.cases;
          tells = tells_so;
          types = basic_of core.types ss m.types (stands core sized m low) name m.exception (size_by core sized m low zs)
              (ways_by core sized m low low.model.directions.now) (basics core sized m low).0
              (basics core sized m low).1 (basics core sized m low).2;
          names = names_stand;
          slots = slots_stand;
          values = told.values;
          had = all_had ss core.types xs at.signature.parameters at.plain.parameters in_told told.types_are told.had;
          places = places_stand;
          sizes = λ t z h. sizes_known y.instance.numbers nu agree t z (ap (λ ns. size_by core sized m low ns t) numbers_is ∙ h);
          truths = λ c b h. truths_known y.instance.numbers nu agree c b (ap (λ ns. truth_by core sized m low ns c) numbers_is ∙ h);
          body = body_able name;
          measure = measure_able name;
          code = is_code;
        }

      -- ---- the function that calls enter, and the one that events enter

      pub called_lowered : slots_there core sized m low (called_at p) ≡ at.made.called_coding.slots
          → Lowered x (called_at p) called_code y.instance.function p f nu ws xs
      called_lowered h =
          let named : name_of core sized m low (called_at p) ≡ name_in at.made.called_coding.slots = ap name_in h in
          let is_there : slice_get m.functions (called_at p) ≡ Some at.called = function_there (2 * p) at.called at.called_there in
          lowered (called_at p) at.called at.made.called_coding (λ n. called_for at.walk n at.function) at.made.called_is at.made.called_made is_there named
          called_code
          (code_is (called_at p) at.called at.made.called_coding (λ n. called_for at.walk n at.function) at.made.called_is at.made.called_made is_there named
          ∙ at.made.called_made.put ∙ ap (λ n. called_for at.walk n at.function) (sym named)
          ∙ ap (called_for at.walk (name_of core sized m low (called_at p))) function_is ∙ called_is (name_of core sized m low (called_at p)))

      pub event_lowered : slots_there core sized m low (event_at p) ≡ at.made.event_coding.slots
          → Lowered x (event_at p) event_shape y.instance.function p f nu ws xs
      event_lowered h =
          let named : name_of core sized m low (event_at p) ≡ name_in at.made.event_coding.slots = ap name_in h in
          let is_there : slice_get m.functions (event_at p) ≡ Some at.event = event_there p at.event at.event_there in
          lowered (event_at p) at.event at.made.event_coding (λ n. event_for at.walk n at.function) at.made.event_is at.made.event_made is_there named
          event_shape
          (code_is (event_at p) at.event at.made.event_coding (λ n. event_for at.walk n at.function) at.made.event_is at.made.event_made is_there named
          ∙ at.made.event_made.put ∙ ap (λ n. event_for at.walk n at.function) (sym named)
          ∙ ap (event_for at.walk (name_of core sized m low (event_at p))) function_is ∙ event_is (name_of core sized m low (event_at p)))

  -- ---- all of them

  awaited_same : (y : SizedInstance) (awaited : List (Option Awaited)) (p : ℕ) → slice_get sized.instances p ≡ Some y → x.awaits p ≡ Some awaited
      → numbers_of y.instance ≡ awaited
  awaited_same y awaited p e awaits = some_same (numbers_of y.instance) awaited (sym (ap awaited_in e) ∙ awaits)

  pub all_lowered : AllLowered x
  all_lowered i p f awaited nu ws xs of awaits agree is enters =
      by (slice_get sized.instances p) refl (instance_slots core sized m low (2 * p) ∙ called_slots core sized m low p)
    where
      by : (o : Option SizedInstance) (e : slice_get sized.instances p ≡ o) → slots_there core sized m low (called_at p) ≡ slots_by core sized m low false p o e
          → Lowered x (called_at p) called_code i p f nu ws xs
      by None e h = none awaited (sym (ap awaited_in e) ∙ awaits)
      by (Some y) e h =
          let function : y.instance.function ≡ i = sym (ap function_in e) ∙ of in
          subst (λ k. Lowered x (called_at p) called_code k p f nu ws xs) function
          (called_lowered p y e f (ap (slice_get core.functions) function ∙ is) nu
          (subst (λ a. all_agree a nu ≡ true) (sym (awaited_same y awaited p e awaits)) agree) ws xs
          (ap (λ k. x.s.sizing.enters k p nu ws) function ∙ enters) h)

  pub events_lowered : EventsLowered x
  events_lowered i p f awaited nu ws xs of awaits agree is enters =
      by (slice_get sized.instances p) refl
      (ap (slots_there core sized m low) (sym (behind_one (length low.ways) (2 * p))) ∙ instance_slots core sized m low (2 * p + 1)
      ∙ event_slots core sized m low p)
    where
      by : (o : Option SizedInstance) (e : slice_get sized.instances p ≡ o)
          → slots_there core sized m low (event_at p) ≡ slots_by core sized m low true p o e → Lowered x (event_at p) event_shape i p f nu ws xs
      by None e h = none awaited (sym (ap awaited_in e) ∙ awaits)
      by (Some y) e h =
          let function : y.instance.function ≡ i = sym (ap function_in e) ∙ of in
          subst (λ k. Lowered x (event_at p) event_shape k p f nu ws xs) function
          (event_lowered p y e f (ap (slice_get core.functions) function ∙ is) nu
          (subst (λ a. all_agree a nu ≡ true) (sym (awaited_same y awaited p e awaits)) agree) ws xs
          (ap (λ k. x.s.sizing.enters k p nu ws) function ∙ enters) h)

  -- what is called begins with a tick
  pub all_tick : AllTick x
  all_tick p i a leads = by (slice_get sized.instances a.place) refl
    where
      by : (o : Option SizedInstance) → slice_get sized.instances a.place ≡ o → slice_get (code_of m (called_at a.place)) 0 ≡ Some I.Tick
      by None e = none a.numbers (sym (ap awaited_in e) ∙ leads.awaits)
      by (Some y) e =
          let at : MadeAt low.model low.functions a.place y = made_at core sized m low a.place y e in
          ap (λ c. slice_get c 0)
          (ap code_in (function_there (2 * a.place) at.called at.called_there) ∙ at.made.called_is.code ∙ at.made.called_made.put)
