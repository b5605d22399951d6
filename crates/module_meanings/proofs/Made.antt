-- The module of a core, as it stands to the meaning of the core in which cases go by noted numbers.
use Rattle.std.proofs.Common.{◌≡◌, ◌∙◌, ℕ, zero, suc, ◌+◌, ◌-◌, ℤ, Bool, true, false, List, [], ◌∷◌, length, Option, Some, None, refl, ap, sym, arith}
use Rattle.std.specs.Prelude.{◌*◌, ◌/◌, if◌then◌else◌, is_some, nat_lt, slice_get, slice_index_or}
use Rattle.std.proofs.lemmas.Bool.{and_parts}
use Rattle.std.proofs.lemmas.Bool.Decides.{nat_tests}
use Rattle.sail_types.specs.declared.values.Value.{Value}
use Rattle.sail_types.specs.declared.values.Value.TheVariants as V
use Rattle.sail_core.specs.Start.{lets_of, setting_of}
use Rattle.sail_core.specs.declared.tree.Core.{Core}
use Rattle.sail_core.specs.declared.model.CoreModel.{CoreModel}
use Rattle.sail_core.specs.declared.model.Direction.{Direction}
use Rattle.sail_core.specs.declared.model.Function.{Function}
use Rattle.checked_meaning.specs.Checked.{checking}
use Rattle.sized_nodes.specs.declared.trees.NodeSizes.{NodeSizes}
use Rattle.sized_nodes.specs.declared.trees.SizedCore.{SizedCore}
use Rattle.sized_nodes.specs.declared.trees.SizedInstance.{SizedInstance}
use Rattle.sized_meanings.specs.Sized.{noted_checks_of}
use Rattle.jib.specs.declared.code.Function.{Function as Code}
use Rattle.jib.specs.declared.code.Module.{Module}
use Rattle.lowered_types.specs.Table.{type_in}
use Rattle.lowered_types.proofs.Standing.{types_have}
use Rattle.lowered_slots.specs.Slots.{name_in}
use Rattle.lowered_slots.specs.declared.slots.Slot.{Slot}
use Rattle.lowered_pieces.specs.Nodes.{awaited_in, function_in}
use Rattle.lowered_pieces.specs.Places.{Naming}
use Rattle.lowered_ends.specs.Around.{answer_in, called_number, node_for}
use Rattle.lowered_steps.specs.Setting.{direction_in, kit_for, ways_for}
use Rattle.lowered_laws.specs.Modules.{Made}
use Rattle.lowered_laws.specs.Crossings.{crosses_within}
use Rattle.lowered_typed.specs.Judging.{callees_here, is_asked, number_here, signs_here, tables_here, turned_in, typed}
use Rattle.lowered_typed.specs.declared.signs.Judge.{Judge}
use Rattle.jib_lower.specs.Instances.{MadeAt}
use Rattle.jib_lower.specs.Lowered.{FlatFrom}
use Rattle.jib_lower.specs.Reads.{function_reads, tree_reads}
use Rattle.lowered_steps.specs.declared.setting.Reads.{Reads}
use Rattle.jib_lower.specs.Entering.{mapped_by, place_in}
use Rattle.module_cycles.specs.Laws.{cycle_there, may_cross, nodes_of}
use Rattle.module_cycles.proofs.Models.{back, entered_at, in_order, turned_there}
use Rattle.module_cycles.proofs.Ways.{WayThere, way_slots, way_there}
use Rattle.module_meanings.proofs.Crossed.{crosses_wider, right_crosses}
use Rattle.module_meanings.proofs.Around.{every, size_by, tables_by, truth_by}
use Rattle.module_meanings.proofs.Known.{knows, stands}

none : {A X : Type 0} (x : A) → None ≡ Some x → X
none x e = cc

pub behind_both : (n k j : ℕ) → n + k + j ≡ n + (k + j)
behind_both n k j = omega arith

module _ (core : CoreModel) (sized : SizedCore) (m : Module) (low : FlatFrom core sized m) where
  -- ---- the slots of both functions of an instance

  pub made_at : (p : ℕ) (y : SizedInstance) → slice_get sized.instances p ≡ Some y → MadeAt low.model low.functions p y
  made_at p y e = low.instances.each p y (ap (λ (z : SizedCore). slice_get z.instances p) low.is.of_sized ∙ e)

  abbrev pub slots_by : Bool → (p : ℕ) (o : Option SizedInstance) → slice_get sized.instances p ≡ o → List Slot
  slots_by b p None e = []
  slots_by false p (Some y) e = (made_at p y e).made.called_coding.slots
  slots_by true p (Some y) e = (made_at p y e).made.event_coding.slots

  abbrev pub slots_at : Bool → ℕ → List Slot
  slots_at b p = slots_by b p (slice_get sized.instances p) refl

  -- in their order, from those of an instance on
  abbrev pub slots_from : ℕ → ℕ → List Slot
  slots_from p zero = slots_at false p
  slots_from p (suc zero) = slots_at true p
  slots_from p (suc (suc q)) = slots_from (suc p) q

  called_from : (k p : ℕ) → slots_from k (2 * p) ≡ slots_at false (k + p)
  called_from k zero = ap (slots_at false) (none_more k)
    where
      none_more : (k : ℕ) → k ≡ k + 0
      none_more k = omega arith
  called_from k (suc p) = ap (slots_from k) (twice p) ∙ called_from (suc k) p ∙ ap (slots_at false) (moved k p)
    where
      twice : (p : ℕ) → 2 * suc p ≡ suc (suc (2 * p))
      twice p = omega arith

      moved : (k p : ℕ) → suc k + p ≡ k + suc p
      moved k p = omega arith

  event_from : (k p : ℕ) → slots_from k (2 * p + 1) ≡ slots_at true (k + p)
  event_from k zero = ap (slots_at true) (none_more k)
    where
      none_more : (k : ℕ) → k ≡ k + 0
      none_more k = omega arith
  event_from k (suc p) = ap (slots_from k) (twice p) ∙ event_from (suc k) p ∙ ap (slots_at true) (moved k p)
    where
      twice : (p : ℕ) → 2 * suc p + 1 ≡ suc (suc (2 * p + 1))
      twice p = omega arith

      moved : (k p : ℕ) → suc k + p ≡ k + suc p
      moved k p = omega arith

  begun : (p : ℕ) → 0 + p ≡ p
  begun p = omega arith

  pub called_slots : (p : ℕ) → slots_from 0 (2 * p) ≡ slots_at false p
  called_slots p = called_from 0 p ∙ ap (slots_at false) (begun p)

  pub event_slots : (p : ℕ) → slots_from 0 (2 * p + 1) ≡ slots_at true p
  event_slots p = event_from 0 p ∙ ap (slots_at true) (begun p)

  -- ---- by the numbers of functions: behind those of directions

  abbrev pub many_ways : ℕ
  many_ways = length low.ways

  abbrev pub slots_there : ℕ → List Slot
  slots_there q = if nat_lt q many_ways then way_slots low.directions q else slots_from 0 (q - many_ways)

  pub instance_slots : (k : ℕ) → slots_there (many_ways + k) ≡ slots_from 0 k
  instance_slots k =
      ap (λ b. if b then way_slots low.directions (many_ways + k) else slots_from 0 (many_ways + k - many_ways)) (past_all many_ways k)
      ∙ ap (slots_from 0) (back many_ways k)
    where
      past_all : (n k : ℕ) → nat_lt (n + k) n ≡ false
      past_all n k = grind (arith, nat_tests)

  -- the k-th function is that of a direction
  pub directed_slots : (k : ℕ) (f : Code) → slice_get low.ways k ≡ Some f → slots_there k ≡ way_slots low.directions k
  directed_slots k f e =
      ap (λ b. if b then way_slots low.directions k else slots_from 0 (k - many_ways)) (within low.ways k f e)
    where
      above : (k n : ℕ) → nat_lt k n ≡ true → nat_lt (suc k) (suc n) ≡ true
      above k n h = grind (arith, nat_tests)

      first : (n : ℕ) → nat_lt 0 (suc n) ≡ true
      first n = grind (arith, nat_tests)

      within : (fs : List Code) (k : ℕ) (f : Code) → slice_get fs k ≡ Some f → nat_lt k (length fs) ≡ true
      within [] k f e = none f e
      within (g ∷ fs) zero f e = first (length fs)
      within (g ∷ fs) (suc k) f e = above k (length fs) (within fs k f e)

  abbrev pub name_of : ℕ → Naming
  name_of q = name_in (slots_there q)

  -- ---- a direction that may be called or asked is made

  pub crossed : (p d : ℕ) → may_cross core sized m low p d ≡ true → (c : ℕ) × (slice_get low.model.turned.now d ≡ Some (Some c))
  crossed p d h =
      let r = turned_there (cycle_there core sized m low p) (slice_get low.model.turned.now d) h in
      (r.0, r.1)

  pub way_of : (d c : ℕ) → slice_get low.model.turned.now d ≡ Some (Some c) → WayThere low.directions d
  way_of d c e = way_there low.directions d (in_order core sized m low d c e)

  pub entered_there : (d c : ℕ) (e : slice_get low.model.turned.now d ≡ Some (Some c))
      → slice_get low.model.directions.now d ≡ Some (mapped_by core.types (place_in low.model.order.now d) (way_of d c e).at.direction)
  entered_there d c e = entered_at core sized m low d (way_of d c e)

  pub every_crossed : (p d : ℕ) → may_cross core sized m low p d ≡ true → every core sized m low low.model.directions.now d ≡ true
  every_crossed p d h =
      let r = crossed p d h in
      ap is_some (entered_there d r.0 r.1)

  -- what is lowered and has its types asks and calls such directions alone, where its cycle is that of what stands at a place
  pub judged_within : (judge : Judge) (p : ℕ) → judge.signs.now.cycle ≡ cycle_there core sized m low p → judge.signs.now.turned.now ≡ low.model.turned.now
      → (name : Naming) (c : Core) → (node_for judge.setting.now judge.around.now name c).ok ≡ true → (typed judge c).right ≡ true
      → crosses_within (may_cross core sized m low p) c ≡ true
  judged_within judge p cycle turned name c able right =
      crosses_wider (is_asked judge.setting.now judge.signs.now) (may_cross core sized m low p)
      (λ d h.
      (λ j. turned_in (sym cycle j) (slice_get (sym turned j) d))
      ∙ (and_parts (turned_in judge.signs.now.cycle (slice_get judge.signs.now.turned.now d))
      (nat_lt (ways_for judge.setting.now d).function judge.signs.now.below) h).0)
      c
      (right_crosses judge.setting.now.types.now (kit_for judge.setting.now name) (number_here judge) (callees_here judge) (tables_here judge)
      (signs_here judge) c able right)

  -- ---- by the places of instances

  abbrev pub numbers_in : Option SizedInstance → List (Option ℤ)
  numbers_in None = []
  numbers_in (Some y) = y.instance.numbers

  abbrev pub numbers_at : ℕ → List (Option ℤ)
  numbers_at p = numbers_in (slice_get sized.instances p)

  -- the types at which their functions read variables, and so do directions
  abbrev pub reads_by : List (List NodeSizes) → Option Function → List Reads
  reads_by bodies None = []
  reads_by bodies (Some f) = function_reads bodies f

  abbrev pub way_reads : Option (Option ℕ) → Option (List NodeSizes) → Option Direction → List Reads
  way_reads (Some (Some cycle)) (Some nodes) (Some d) = tree_reads (nodes ∷ []) d.body
  way_reads turned nodes d = []

  abbrev pub reads_for : ℕ → Option SizedInstance → List Reads
  reads_for d None = way_reads (slice_get low.model.turned.now d) (slice_get sized.mappings (d / 2)) (slice_get core.directions d)
  reads_for d (Some y) = reads_by y.bodies (slice_get core.functions y.instance.function)

  abbrev pub variables_at : ℕ → List Reads
  variables_at p = reads_for (p - length sized.instances) (slice_get sized.instances p)

  -- ---- the module at work

  -- these are the values of the names of top-level lets, by the openings that give them
  abbrev pub AreLets : List Value → Type 0
  AreLets vs = (i : ℕ) (v : Value) → slice_get (lets_of (checking (noted_checks_of core sized)) core) i ≡ Some v
      → slice_index_or vs (slice_index_or low.model.openings.now i 0) V.Unit ≡ v

  abbrev pub module_of : ℕ → (vs : List Value) → AreLets vs → Made
  module_of hart vs lets = record {
    m = m;
    s = setting_of (checking (noted_checks_of core sized)) core hart;
    lets = vs;
    table = core.types;
    number = type_in low.table.numbered;
    exception = m.exception;
    function = called_number (length low.ways);
    event = λ p. called_number (length low.ways) p + 1;
    answer = λ p. answer_in (slice_get sized.instances p);
    tables = λ p. tables_by core sized m low (variables_at p) (nodes_of core sized m low p);
    name = name_of;
    knows = λ p. knows core sized m low;
    had = λ p v t h k. types_have core.types low.table.numbered m.types (stands core sized m low) v t h k;
    size = λ p. size_by core sized m low (numbers_at p);
    truth = λ p. truth_by core sized m low (numbers_at p);
    of = λ p. function_in (slice_get sized.instances p);
    awaits = λ p. awaited_in (slice_get sized.instances p);
    all_of = λ p q. refl;
    all_await = λ p q. refl;
    direction = λ d. direction_in (slice_get low.model.directions.now d);
    way = λ d. length sized.instances + d;
    crosses = may_cross core sized m low;
    opening = λ i. slice_index_or low.model.openings.now i 0;
    opened = lets;
  }
