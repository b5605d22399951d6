-- The functions of directions of mappings are the code of the directions: each that is called or asked may be entered.
use Rattle.std.proofs.Common.{◌≡◌, ◌∙◌, ℕ, zero, suc, ◌+◌, ◌-◌, ℤ, Bool, true, false, List, [], ◌∷◌, ◌++◌, length, map, Option, Some, None, refl, sym, ap}
use Rattle.std.proofs.Common.{append-nil, arith, subst}
use Rattle.std.specs.Prelude.{◌/◌, ◌&&◌, option_map, slice_get}
use Rattle.std.proofs.lemmas.Bool.{and_parts}
use Rattle.sail_types.specs.Places.{only}
use Rattle.sail_types.specs.declared.table.Types.{Types}
use Rattle.sail_types.specs.declared.values.Value.{Value}
use Rattle.sail_core.specs.Making.{Making, World}
use Rattle.sail_core.specs.Meaning.{kind_meaning, meaning, option_typ, optional}
use Rattle.sail_core.specs.Program.{Measures, asking, calls, ways}
use Rattle.sail_core.specs.Run.{Run}
use Rattle.sail_core.specs.declared.model.CoreModel.{CoreModel}
use Rattle.sail_core.specs.declared.model.Direction.{Direction}
use Rattle.sail_core.specs.declared.tree.Core.{Core, fold_out-Core, out-Core}
use Rattle.size_values.specs.declared.sized.Sized.{Sized}
use Rattle.checked_meaning.specs.Checked.{Cases, checked}
use Rattle.checked_meaning.specs.Fits.{has_sizes}
use Rattle.checked_meaning.specs.Items.{Item, fixed_typ, item}
use Rattle.sized_nodes.specs.declared.trees.NodeSizes.{NodeSizes}
use Rattle.sized_nodes.specs.declared.trees.SizedCore.{SizedCore}
use Rattle.sized_meanings.specs.Sized.{joined_nodes, noted_cases_of, or_none, taken}
use Rattle.jib.specs.Jib.{code_in, code_of, slots_in, slots_of}
use Rattle.jib.specs.declared.code.Module.{Module}
use Rattle.lowered_types.specs.Table.{is_known, type_in}
use Rattle.lowered_slots.specs.Slots.{name_in}
use Rattle.lowered_slots.specs.declared.slots.Place.TheVariants.{Given}
use Rattle.lowered_pieces.specs.declared.coding.Coding.{Coding}
use Rattle.lowered_pieces.specs.Functions.{direction_code}
use Rattle.lowered_pieces.specs.Lowering.{Node}
use Rattle.lowered_pieces.specs.Mapped.{ends_with, fixed_end, optional_piece}
use Rattle.lowered_pieces.specs.Places.{HasSlots, Kit, Mapped, Names, Naming}
use Rattle.lowered_steps.specs.Setting.{direction_in, kit_for, mapped_of}
use Rattle.lowered_steps.specs.declared.setting.Reads.{Reads}
use Rattle.lowered_steps.specs.declared.setting.Setting.{Setting}
use Rattle.lowered_ends.specs.Around.{node_for}
use Rattle.lowered_ends.specs.declared.around.Around.{Around}
use Rattle.lowered_steps.specs.declared.setting.Mapped.{Mapped as Entered}
use Rattle.lowered_functions.specs.Made.{mapping_for}
use Rattle.lowered_typed.specs.Judging.{callees_here, number_here, signs_here, tables_here, typed}
use Rattle.lowered_typed.specs.declared.signs.Judge.{Judge}
use Rattle.lowered_laws.specs.Crossings.{crosses_within}
use Rattle.lowered_laws.specs.Modules.{AllTaken, AllTurned, Made, Turned}
use Rattle.lowered_laws.specs.Returning.{QuietWorld, returns_nothing}
use Rattle.lowered_laws.specs.TablesTelling.{EachAlone}
use Rattle.lowered_laws.specs.TablesTelling as C
use Rattle.lowered_laws.specs.Telling.{Tells}
use Rattle.lowered_laws.proofs.KnownSizes.{sizes_known}
use Rattle.lowered_laws.proofs.KnownTruths.{truths_known}
use Rattle.lowered_laws.proofs.QuietKinds.{core_q}
use Rattle.lowered_laws.proofs.QuietWorlds.{worlds_stay}
use Rattle.lowered_laws.proofs.TablesTelling.{noted_tell}
use Rattle.jib_lower.specs.Directions.{WayMade, WayTaken}
use Rattle.jib_lower.specs.Entering.{mapped_by, option_in, payload_in, place_in}
use Rattle.jib_lower.specs.Lowered.{FlatFrom}
use Rattle.jib_lower.specs.Reads.{tree_reads}
use Rattle.jib_lower.specs.Types.{all_in_nodes, all_in_ways, in_mapping}
use Rattle.jib_lower.proofs.Basics.{basic_of, got_before}
use Rattle.jib_lower.proofs.Placing.{basics, exception_here}
use Rattle.module_cycles.specs.Laws.{cycle_by, cycle_there, may_cross, nodes_by, nodes_of, way_cycle, way_nodes}
use Rattle.module_cycles.proofs.Models.{back, none_past}
use Rattle.module_cycles.proofs.Ways.{WayThere}
use Rattle.safe_models.specs.Options.{OptionFirst}
use Rattle.safe_models.proofs.Options.{none_has, somes}
use Rattle.module_meanings.proofs.Alone.{AllAlone}
use Rattle.module_meanings.proofs.Around.{crossed_same, every, kit_at, kit_same, node_at, node_same, numbers_same, size_by, tables_by, tells_read, truth_by}
use Rattle.module_meanings.proofs.Around.{types_same, ways_by}
use Rattle.module_meanings.proofs.Flat.{GiveOptions}
use Rattle.module_meanings.proofs.Crossed.{crosses_wider, part_right, part_stays}
use Rattle.module_meanings.proofs.Known.{bodies_there, stands}
use Rattle.module_meanings.proofs.Made.{AreLets, crossed, directed_slots, entered_there, every_crossed, judged_within, module_of, name_of, numbers_at}
use Rattle.module_meanings.proofs.Made.{numbers_in, reads_for, variables_at, way_of, way_reads}
use Rattle.module_meanings.proofs.Slots.{given_place, has_slots, names_apart, typs_of}

none : {A X : Type 0} (x : A) → None ≡ Some x → X
none x e = cc

some_same : {A : Type 0} (x y : A) → Some x ≡ Some y → x ≡ y
some_same x y e = cc

some_none : {X : Type 0} (c : ℕ) → ◌≡◌ {A = Option (Option ℕ)} (Some None) (Some (Some c)) → X
some_none c e = cc

left : {a : Bool} (b : Bool) → (a && b) ≡ true → a ≡ true
left {a} b h = (and_parts a b h).0

right : {b : Bool} (a : Bool) → (a && b) ≡ true → b ≡ true
right {b} a h = (and_parts a b h).1

and_true : (a : Bool) → a ≡ true → (a && true) ≡ true
and_true true h = refl
and_true false h = h

-- the types of the mapping of a direction that is made have numbers
ways_in : (ss : List Sized) (mappings : List (List NodeSizes)) (from : ℕ) (ds : List Direction) (turned : List (Option ℕ)) (d c : ℕ) (m : Direction)
    → all_in_ways ss mappings from ds turned ≡ true → slice_get turned d ≡ Some (Some c) → slice_get ds d ≡ Some m
    → in_mapping ss (slice_get mappings ((from + d) / 2)) ≡ true
ways_in ss mappings from [] turned d c m h e f = none m f
ways_in ss mappings from (n ∷ ds) [] d c m h e f = none (Some c) e
ways_in ss mappings from (n ∷ ds) (None ∷ turned) zero c m h e f = some_none c e
ways_in ss mappings from (n ∷ ds) (None ∷ turned) (suc d) c m h e f =
    subst (λ k. in_mapping ss (slice_get mappings (k / 2)) ≡ true) (one_more from d) (ways_in ss mappings (from + 1) ds turned d c m h e f)
  where
    one_more : (n k : ℕ) → n + 1 + k ≡ n + suc k
    one_more n k = omega arith
ways_in ss mappings from (n ∷ ds) (Some b ∷ turned) zero c m h e f =
    subst (λ k. in_mapping ss (slice_get mappings (k / 2)) ≡ true) (none_more from) (left _ h)
  where
    none_more : (n : ℕ) → n ≡ n + 0
    none_more n = omega arith
ways_in ss mappings from (n ∷ ds) (Some b ∷ turned) (suc d) c m h e f =
    subst (λ k. in_mapping ss (slice_get mappings (k / 2)) ≡ true) (one_more from d) (ways_in ss mappings (from + 1) ds turned d c m (right _ h) e f)
  where
    one_more : (n k : ℕ) → n + 1 + k ≡ n + suc k
    one_more n k = omega arith

module _ (core : CoreModel) (sized : SizedCore) (m : Module) (low : FlatFrom core sized m) (apart : AllAlone core sized) (first : OptionFirst core.types)
    (gives : GiveOptions core.directions) (hart : ℕ) (vs : List Value) (lets : AreLets core sized m low vs) where
  abbrev x : Made
  x = module_of core sized m low hart vs lets

  abbrev ss : List Sized
  ss = low.table.numbered

  abbrev many : ℕ
  many = length sized.instances

  types_model : low.model.core.now.types ≡ core.types
  types_model = ap (λ (z : CoreModel). z.types) low.is.of_core

  -- ---- a direction that is made

  module _ (d c : ℕ) (e : slice_get low.model.turned.now d ≡ Some (Some c)) where
    abbrev w : WayThere low.directions d
    w = way_of core sized m low d c e

    abbrev made : WayMade low.model w.which w.function w.at.cycle w.at.direction w.code
    made = w.at.is

    abbrev dir : Direction
    dir = w.at.direction

    abbrev bodies : List (List NodeSizes)
    bodies = made.nodes ∷ []

    abbrev entering : Entered
    entering = mapped_by low.model.core.now.types w.function dir

    abbrev way : WayTaken low.model bodies dir entering w.at.cycle w.code
    way = made.taken

    abbrev setting : Setting
    setting = way.walk.setting.now

    abbrev around : Around
    around = way.walk.around.now

    abbrev coding : Coding
    coding = way.code.coding

    abbrev clauses : Core
    clauses = way.clauses

    abbrev place : ℕ
    place = many + d

    abbrev zs : List (Option ℤ)
    zs = numbers_at core sized m low place

    abbrev own : List NodeSizes
    own = joined_nodes bodies

    abbrev nodes : List NodeSizes
    nodes = nodes_of core sized m low place

    abbrev variables : List Reads
    variables = variables_at core sized m low place

    abbrev cross : ℕ → Bool
    cross = may_cross core sized m low place

    -- what stands at its place

    nowhere : slice_get sized.instances place ≡ None
    nowhere = none_past sized.instances d

    there_d : place - many ≡ d
    there_d = back many d

    sized_at : slice_get sized.mappings (w.which / 2) ≡ Some made.nodes
    sized_at = ap (λ (z : SizedCore). slice_get z.mappings (w.which / 2)) (sym low.is.of_sized) ∙ made.sized

    sized_is : slice_get sized.mappings (d / 2) ≡ Some made.nodes
    sized_is = ap (λ k. slice_get sized.mappings (k / 2)) (sym w.is_which) ∙ sized_at

    found : slice_get core.directions d ≡ Some dir
    found = ap (λ (z : CoreModel). slice_get z.directions d) (sym low.is.of_core) ∙ ap (slice_get low.model.core.now.directions) (sym w.is_which) ∙ w.at.found

    owned : w.at.cycle ≡ c
    owned = same_cycle w.at.cycle c (sym w.at.turned ∙ ap (slice_get low.model.turned.now) w.is_which ∙ e)
      where
        same_cycle : (a b : ℕ) → Some (Some a) ≡ Some (Some b) → a ≡ b
        same_cycle a b e = cc

    nodes_is : own ≡ nodes
    nodes_is =
        sym (ap (nodes_by sized low.model.turned.now (place - many)) nowhere ∙ ap (λ k. nodes_by sized low.model.turned.now k None) there_d
        ∙ (λ j. way_nodes (e j) (sized_is j)))

    variables_is : tree_reads bodies dir.body ≡ variables
    variables_is =
        sym (ap (reads_for core sized m low (place - many)) nowhere ∙ ap (λ k. reads_for core sized m low k None) there_d
        ∙ (λ j. way_reads core sized m low (e j) (sized_is j) (found j)))

    numbers_is : [] ≡ zs
    numbers_is = sym (ap (numbers_in core sized m low) nowhere)

    cycle_is : cycle_there core sized m low place ≡ c
    cycle_is =
        ap (cycle_by low.called.cycles low.model.turned.now (place - many)) nowhere ∙ ap (λ k. way_cycle (slice_get low.model.turned.now k)) there_d
        ∙ ap way_cycle e

    -- it calls and asks such directions alone as it may

    -- whatever the numbering of slots, as this one
    abbrev some_name : Naming
    some_name = name_in coding.slots

    clauses_right : (typed way.judge clauses).right ≡ true
    clauses_right =
        let j : Judge = way.judge in
        part_right j.setting.now.types.now (kit_for j.setting.now some_name) (number_here j) (callees_here j) (tables_here j) (signs_here j) dir.body clauses
        way.typ way.body.kind way.body.parts way.code.right

    clauses_within : crosses_within cross clauses ≡ true
    clauses_within =
        judged_within core sized m low way.judge place (way.around.cycle_is ∙ owned ∙ sym cycle_is) way.around.turned some_name clauses
        ((λ i. (node_for (way.around.judged.0 i) (way.around.judged.1 i) some_name clauses).ok) ∙ way.code.able some_name) clauses_right

    -- what calls of it enter

    mapped_is : x.direction d ≡ mapped_of (mapped_by core.types (place_in low.model.order.now d) dir)
    mapped_is = ap direction_in (entered_there core sized m low d c e)

    abbrev q : ℕ
    q = (x.direction d).function

    abbrev takes : Sized
    takes = (x.direction d).takes

    q_is : q ≡ place_in low.model.order.now d
    q_is = ap (λ (z : Mapped). z.function) mapped_is

    takes_is : takes ≡ fixed_typ core.types dir.parameter
    takes_is = ap (λ (z : Mapped). z.takes) mapped_is

    entered_is : entering.takes ∷ [] ≡ takes ∷ []
    entered_is = ap (λ (ts : Types). fixed_typ ts dir.parameter ∷ []) types_model ∙ ap (λ t. t ∷ []) (sym takes_is)

    given_is : around.given.now ≡ takes ∷ []
    given_is = way.around.given ∙ entered_is

    is_there : slice_get m.functions q ≡ Some w.code
    is_there =
        ap (slice_get m.functions) q_is ∙ ap (λ fs. slice_get fs (place_in low.model.order.now d)) low.all
        ∙ got_before low.ways (low.functions ++ low.opened) (place_in low.model.order.now d) w.code w.there

    abbrev name : Naming
    name = name_of core sized m low q

    name_is : name ≡ name_in coding.slots
    name_is =
        ap (name_of core sized m low) q_is
        ∙ ap name_in (directed_slots core sized m low (place_in low.model.order.now d) w.code w.there ∙ w.slots)

    types_is : setting.numbered.now ≡ ss
    types_is = numbers_same core sized m low low.model low.is bodies [] setting way.around.setting

    table_is : setting.types.now ≡ core.types
    table_is = types_same core sized m low low.model low.is bodies [] setting way.around.setting

    abbrev kit_here : Kit
    kit_here = kit_at core sized m low zs name

    kit_is : kit_for setting name ≡ kit_here
    kit_is =
        kit_same core sized m low low.model low.is bodies [] setting way.around.setting name ∙ (λ j. kit_at core sized m low (numbers_is j) name)

    -- its code

    abbrev there : Core → Node
    there = node_at core sized m low cross zs (takes ∷ []) low.model.openings.now variables nodes name

    node_is : node_for setting around name clauses ≡ there clauses
    node_is =
        node_same core sized m low low.model low.is bodies [] setting way.around.setting around (takes ∷ []) low.model.openings.now
        (way.around.instances ∙ ap (λ (z : SizedCore). z.instances) low.is.of_sized) given_is way.around.openings (way.around.before ∙ low.before) name clauses
        ∙ (λ j. node_at core sized m low (every core sized m low low.model.directions.now) (numbers_is j) (takes ∷ []) low.model.openings.now
        (variables_is j) (nodes_is j) name clauses)
        ∙ crossed_same core sized m low (every core sized m low low.model.directions.now) cross zs (takes ∷ []) low.model.openings.now variables nodes name
        clauses (crosses_wider cross (every core sized m low low.model.directions.now) (every_crossed core sized m low place) clauses clauses_within)
        clauses_within

    slots_is : slots_of m q ≡ typs_of coding.slots
    slots_is = ap slots_in is_there ∙ way.code.is.slots

    code_is : code_of m q ≡ coding.code
    code_is = ap code_in is_there ∙ way.code.is.code

    names_stand : Names kit_here (slots_of m q)
    names_stand =
        subst (Names kit_here) (sym slots_is)
        (names_apart setting way.head.given.now coding way.code.code.first kit_here name_is
        (exception_here core sized m low low.model low.is bodies [] setting way.around.setting))

    slots_stand : HasSlots (slots_of m q) (code_of m q)
    slots_stand =
        subst (λ ts. HasSlots ts (code_of m q)) (sym slots_is)
        (subst (HasSlots (typs_of coding.slots)) (sym code_is) (has_slots coding way.code.code.room))

    place_stands : name (Given 0) (type_in ss takes) ≡ 1
    place_stands =
        ap (λ (n : Naming). n (Given 0) (type_in ss takes)) name_is ∙ ap (λ ts. name_in coding.slots (Given 0) (type_in ts takes)) (sym types_is)
        ∙ given_place setting way.head.given.now coding way.code.code.first 0 takes (ap (λ ts. slice_get ts 0) (way.around.takes ∙ entered_is))

    payload_is : entering.payload ≡ fixed_typ core.types way.typ
    payload_is = λ j. payload_in (types_model j) (way.body.kind j)

    code_there : code_of m q ≡ direction_code kit_here dir.place
        (optional_piece core.types kit_here (fixed_typ core.types (option_typ way.typ)) (fixed_typ core.types way.typ) (there clauses).piece)
    code_there =
        code_is ∙ way.code.code.put ∙ ap (λ n. mapping_for way.walk n dir.place way.typ clauses) (sym name_is)
        ∙ (λ j. direction_code (kit_is j) dir.place
        (optional_piece (table_is j) (kit_is j) (fixed_typ (table_is j) (option_typ way.typ)) (fixed_typ (table_is j) way.typ) (node_is j).piece))

    -- the types that it takes and gives have numbers

    takes_numbered : is_known low.model.numbered.now entering.takes ≡ true
    takes_numbered = left _ made.known

    gives_numbered : is_known low.model.numbered.now entering.gives ≡ true
    gives_numbered = left _ (right _ made.known)

    takes_known : is_known ss takes ≡ true
    takes_known =
        ap (is_known ss) takes_is ∙ sym (λ j. is_known (low.is.numbered j) (fixed_typ (types_model j) dir.parameter)) ∙ takes_numbered

    option_known : is_known ss (fixed_typ core.types (option_typ way.typ)) ≡ true
    option_known = sym (λ j. is_known (low.is.numbered j) (option_in (types_model j) (way.body.kind j))) ∙ gives_numbered

    -- its meaning

    abbrev cases : Cases
    cases = noted_cases_of core.types sized.instances own

    abbrev z : Making Item
    z = checked core.types cases

    own_same : own ≡ made.nodes
    own_same = append-nil made.nodes

    reads_so : x.s.sizing.direction d ≡ z
    reads_so = ap (λ ns. checked core.types (noted_cases_of core.types sized.instances ns)) (ap or_none sized_is ∙ sym own_same)

    alone : EachAlone own
    alone = subst EachAlone (sym own_same) (apart.mapping (w.which / 2) made.nodes sized_at made.alone)

    in_nodes : C.all_known (is_known ss) own ≡ true
    in_nodes =
        bodies_there ss bodies
        (and_true (all_in_nodes ss made.nodes)
        (ap (in_mapping ss) (sym (ap (λ k. slice_get sized.mappings (k / 2)) (from_first d) ∙ sized_is))
        ∙ ways_in ss sized.mappings 0 core.directions low.model.turned.now d c dir low.in_ways e found))
      where
        from_first : (k : ℕ) → 0 + k ≡ k
        from_first k = omega arith

    tells_so : Tells core.types (tables_by core sized m low variables nodes) cases
    tells_so =
        subst (λ ns. Tells core.types (tables_by core sized m low variables ns) cases) nodes_is
        (tells_read core sized m low variables own cases (noted_tell core.types (is_known ss) sized.instances own alone in_nodes))

    means : (world : World Item) → meaning z world dir.body ≡ optional z way.typ (meaning z world clauses)
    means world =
        fold_out-Core (Run Item Item) (λ b. kind_meaning z world b.place b.number b.kind b.parts) dir.body
        ∙ (λ j. kind_meaning z world (out-Core dir.body).place (out-Core dir.body).number (way.body.kind j) (map (meaning z world) (way.body.parts j)))

    all_stay : (k : ℕ) (n : Direction) → slice_get core.directions k ≡ Some n → returns_nothing n.body ≡ true
    all_stay k n h = made.stay k n (ap (λ (y : CoreModel). slice_get y.directions k) low.is.of_core ∙ h)

    quiet : (n : ℕ) (active : Measures) (rank : ℕ) (xs : List Item) → QuietWorld (asking x.s (calls x.s n) active (ways x.s (calls x.s n) active rank) [] xs)
    quiet n active rank xs =
        worlds_stay core.types x.s (λ k. noted_cases_of core.types sized.instances (or_none (slice_get sized.mappings (k / 2))))
        (λ k y h. (refl, all_stay k y h)) n active rank [] xs

    -- it gives an option of what its clauses give

    result_is : dir.result ≡ option_typ way.typ
    result_is = gives d dir way.typ found way.body.kind

    gives_is : fixed_typ core.types (option_typ way.typ) ≡ (x.direction d).gives
    gives_is = sym (ap (λ (z : Mapped). z.gives) mapped_is ∙ ap (option_in core.types) way.body.kind)

    -- ---- entered with a value of what it takes

    pub turned_so : (v : Value) → has_sizes core.types v takes ≡ true → Turned x d v
    turned_so v has = record {
      m = dir;
      found = found;
      cases = cases;
      reads = reads_so;
      enters = ap (λ o. option_map (λ s. item s v) (taken core.types v o)) found
          ∙ ap (λ b. option_map (λ s. item s v) (only b (fixed_typ core.types dir.parameter))) (ap (has_sizes core.types v) (sym takes_is) ∙ has)
          ∙ ap (λ t. Some (item t v)) (sym takes_is);
      tells = tells_so;
      types = basic_of core.types ss m.types (stands core sized m low) name m.exception (size_by core sized m low zs)
          (ways_by core sized m low low.model.directions.now) (basics core sized m low).0
          (basics core sized m low).1 (basics core sized m low).2;
      names = names_stand;
      slots = slots_stand;
      known_taken = λ p. takes_known;
      place = place_stands;
      sizes = λ t n h. sizes_known [] [] refl t n (ap (λ ns. size_by core sized m low ns t) numbers_is ∙ h);
      truths = λ k b h. truths_known [] [] refl k b (ap (λ ns. truth_by core sized m low ns k) numbers_is ∙ h);
      typ = way.typ;
      clauses = clauses;
      means = means;
      lowered = ap (λ (n : Node). n.ok) (sym node_is) ∙ way.code.able name;
      ends = sym (λ j. ends_with (payload_is j) (fixed_end (node_is j).piece.ends)) ∙ way.code.ends name;
      somes = somes core.types first way.typ;
      none = none_has core.types first way.typ;
      known_option = λ p. option_known;
      result = result_is;
      gives = gives_is;
      stays = λ n active rank now.
          core_q core.types cases (asking x.s (calls x.s n) active (ways x.s (calls x.s n) active rank) [] (item takes v ∷ []))
          (quiet n active rank (item takes v ∷ [])) clauses (part_stays dir.body clauses way.body.parts (all_stay d dir found)) now;
      code = code_there;
    }

  -- ---- all that may be called or asked

  pub all_turned : AllTurned x
  all_turned p d v crosses has =
      let r = crossed core sized m low p d crosses in
      turned_so d r.0 r.1 v has

  -- and it takes no other value
  pub all_taken : AllTaken x
  all_taken p d v y crosses is =
      let r = crossed core sized m low p d crosses in
      subst (λ t. has_sizes core.types v t ≡ true) (sym (takes_is d r.0 r.1)) (by (slice_get core.directions d) (found d r.0 r.1) is)
    where
      sized_only : (t : Sized) (b : Bool) → has_sizes core.types v t ≡ b → option_map (λ s. item s v) (only b t) ≡ Some y → has_sizes core.types v t ≡ true
      sized_only t true e h = e
      sized_only t false e h = none y h

      by : {dir : Direction} (o : Option Direction) → o ≡ Some dir → option_map (λ s. item s v) (taken core.types v o) ≡ Some y
          → has_sizes core.types v (fixed_typ core.types dir.parameter) ≡ true
      by None e h = none _ e
      by (Some n) e h =
          subst (λ k. has_sizes core.types v (fixed_typ core.types k.parameter) ≡ true) (some_same n _ e)
          (sized_only (fixed_typ core.types n.parameter) (has_sizes core.types v (fixed_typ core.types n.parameter)) refl h)
