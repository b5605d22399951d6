-- What the code of a function of a module is made with, by what it is made of.
use Rattle.std.proofs.Common.{◌≡◌, ◌∙◌, ℕ, ℤ, Bool, true, List, [], Option, refl, ap, sym}
use Rattle.std.specs.Prelude.{is_some, length, slice_get, slice_index_or}
use Rattle.sail_types.specs.declared.numbers.Con.{Con}
use Rattle.sail_types.specs.declared.numbers.Num.{Num}
use Rattle.sail_core.specs.declared.model.CoreModel.{CoreModel}
use Rattle.sail_core.specs.declared.tree.Core.{Core}
use Rattle.size_values.specs.Numbers.{known_at, known_of, truth_of, value_of}
use Rattle.size_values.specs.declared.sized.Sized.{Sized}
use Rattle.sized_nodes.specs.declared.trees.NodeSizes.{NodeSizes}
use Rattle.sized_nodes.specs.declared.trees.SizedCore.{SizedCore}
use Rattle.sized_nodes.specs.declared.trees.SizedInstance.{SizedInstance}
use Rattle.sized_meanings.specs.Sized.{joined_nodes}
use Rattle.jib.specs.declared.code.Module.{Module}
use Rattle.lowered_types.specs.Table.{is_known, type_in}
use Rattle.lowered_pieces.specs.Forms.{Callees}
use Rattle.lowered_pieces.specs.Lowering.{Node, kit_of, node}
use Rattle.lowered_pieces.specs.Nodes.{tables_of}
use Rattle.lowered_pieces.specs.Places.{Kit, Naming}
use Rattle.lowered_pieces.specs.Places.{Mapped as Way}
use Rattle.lowered_pieces.specs.Tables.{Tables}
use Rattle.lowered_steps.specs.Setting.{direction_in, kit_for, reads_at, size_for, tables_for, with_reads}
use Rattle.lowered_laws.specs.Crossings.{crosses_within}
use Rattle.lowered_laws.specs.Telling.{Tells}
use Rattle.lowered_laws.proofs.Crossings.{crossings_known}
use Rattle.checked_meaning.specs.Checked.{Cases}
use Rattle.lowered_steps.specs.declared.setting.Reads.{Reads}
use Rattle.lowered_steps.specs.declared.setting.Mapped.{Mapped}
use Rattle.lowered_steps.specs.declared.setting.Setting.{Setting}
use Rattle.lowered_ends.specs.Around.{answer_in, called_number, callees_of, node_for}
use Rattle.lowered_ends.specs.declared.around.Around.{Around}
use Rattle.jib_lower.specs.Instances.{SettingOf}
use Rattle.jib_lower.specs.Lowered.{FlatFrom, ModelOf}
use Rattle.jib_lower.specs.declared.instances.Model.{Model}
use Rattle.jib_lower.proofs.Placing.{kit_here, numbered_are}

-- no direction of a mapping
abbrev pub no_directions : List Mapped
no_directions = []

module _ (core : CoreModel) (sized : SizedCore) (m : Module) (low : FlatFrom core sized m) where
  -- the types that have numbers
  abbrev pub ss : List Sized
  ss = low.table.numbered

  -- what is known under the numbers of an instance
  abbrev pub size_by : List (Option ℤ) → Num → Option ℤ
  size_by zs t = value_of (known_at (known_of zs)) t

  abbrev pub truth_by : List (Option ℤ) → Con → Option Bool
  truth_by zs c = truth_of (known_at (known_of zs)) c

  -- where these are the directions of mappings
  abbrev pub ways_by : List Mapped → ℕ → Way
  ways_by directions d = direction_in (slice_get directions d)

  abbrev pub kit_with : List Mapped → List (Option ℤ) → Naming → Kit
  kit_with directions zs name = kit_of core.types name (type_in ss) m.exception (size_by zs) (ways_by directions)

  -- of openings, which ask no direction, and of instances and directions
  abbrev pub kit_by : List (Option ℤ) → Naming → Kit
  kit_by = kit_with no_directions

  abbrev pub kit_at : List (Option ℤ) → Naming → Kit
  kit_at = kit_with low.model.directions.now

  -- and such may be called or asked
  abbrev pub callees_with : List Mapped → (ℕ → Bool) → List (Option ℤ) → List Sized → List ℕ → Callees
  callees_with directions crosses zs given openings = record {
    function = called_number (length low.ways);
    answer = λ p. answer_in (slice_get sized.instances p);
    size = size_by zs;
    truth = truth_by zs;
    given = given;
    opening = λ i. slice_index_or openings i 0;
    direction = ways_by directions;
    crosses = crosses;
  }

  -- every one that is there
  abbrev pub every : List Mapped → ℕ → Bool
  every directions d = is_some (slice_get directions d)

  abbrev pub callees_by : List (Option ℤ) → List Sized → List ℕ → Callees
  callees_by = callees_with no_directions (every no_directions)

  -- where variables are read at these types
  abbrev pub tables_by : List Reads → List NodeSizes → Tables
  tables_by told nodes = with_reads (reads_at told) (tables_of (is_known ss) sized.instances nodes)

  abbrev pub node_with : List Mapped → (ℕ → Bool) → List (Option ℤ) → List Sized → List ℕ → List Reads → List NodeSizes → Naming → Core → Node
  node_with directions crosses zs given openings told nodes name c =
      node core.types (kit_with directions zs name) (type_in ss) (callees_with directions crosses zs given openings) (tables_by told nodes) c

  -- of openings, where no direction is called
  abbrev pub node_by : List (Option ℤ) → List Sized → List ℕ → List Reads → List NodeSizes → Naming → Core → Node
  node_by = node_with no_directions (every no_directions)

  -- of instances and of directions, where such may be called
  abbrev pub node_at : (ℕ → Bool) → List (Option ℤ) → List Sized → List ℕ → List Reads → List NodeSizes → Naming → Core → Node
  node_at = node_with low.model.directions.now

  -- which of them may be called is the same, where each is that is
  pub crossed_same : (p q : ℕ → Bool) (zs : List (Option ℤ)) (given : List Sized) (openings : List ℕ) (told : List Reads) (nodes : List NodeSizes)
      (name : Naming) (c : Core) → crosses_within p c ≡ true → crosses_within q c ≡ true
      → node_at p zs given openings told nodes name c ≡ node_at q zs given openings told nodes name c
  crossed_same p q zs given openings told nodes name c h k =
      sym (crossings_known core.types (kit_at zs name) (type_in ss) (callees_with low.model.directions.now p zs given openings) (tables_by told nodes) p c h)
      ∙ crossings_known core.types (kit_at zs name) (type_in ss) (callees_with low.model.directions.now p zs given openings) (tables_by told nodes) q c k

  -- the meaning goes by them
  pub tells_read : (told : List Reads) (nodes : List NodeSizes) (cases : Cases) → Tells core.types (tables_of (is_known ss) sized.instances nodes) cases
      → Tells core.types (tables_by told nodes) cases
  tells_read told nodes cases tells = record { makes = tells.makes; notes = tells.notes; names = tells.names; calls = tells.calls }

  -- ---- so is what its code was made with

  module _ (model : Model) (mo : ModelOf core sized low.table m model) (bodies : List (List NodeSizes)) (zs : List (Option ℤ)) (setting : Setting)
      {told : List Reads} {directions : List Mapped} (s : SettingOf model bodies zs told directions setting) where
    pub types_same : setting.types.now ≡ core.types
    types_same = s.types ∙ ap (λ (c : CoreModel). c.types) mo.of_core

    pub numbers_same : setting.numbered.now ≡ ss
    numbers_same = numbered_are core sized m low model mo bodies zs setting s

    pub size_same : size_for setting ≡ size_by zs
    size_same = ap size_by s.numbers_are

    pub kit_same : (name : Naming) → kit_for setting name ≡ kit_with directions zs name
    kit_same name =
        kit_here core sized m low model mo bodies zs setting s name m.exception refl
        ∙ (λ j. kit_of (types_same j) name (type_in (numbers_same j)) m.exception (size_same j) (ways_by (s.directions_are j)))

    pub tables_same : (instances : List SizedInstance) → instances ≡ sized.instances → tables_for setting instances ≡ tables_by told (joined_nodes bodies)
    tables_same instances e = λ j. with_reads (reads_at (s.reads_are j)) (tables_of (is_known (numbers_same j)) (e j) (joined_nodes (s.bodies_are j)))

    module _ (around : Around) (given : List Sized) (openings : List ℕ) (of_instances : around.instances.now ≡ sized.instances)
        (of_given : around.given.now ≡ given) (of_openings : around.openings.now ≡ openings) (of_before : around.before ≡ length low.ways) where
      callees_same : callees_of setting around ≡ callees_with directions (every directions) zs given openings
      callees_same = λ j. record {
        function = called_number (of_before j);
        answer = λ p. answer_in (slice_get (of_instances j) p);
        size = size_same j;
        truth = truth_by (s.numbers_are j);
        given = of_given j;
        opening = λ i. slice_index_or (of_openings j) i 0;
        direction = ways_by (s.directions_are j);
        crosses = every (s.directions_are j);
      }

      pub node_same : (name : Naming) (c : Core)
          → node_for setting around name c ≡ node_with directions (every directions) zs given openings told (joined_nodes bodies) name c
      node_same name c = λ j. node (types_same j) (kit_same name j) (type_in (numbers_same j)) (callees_same j)
          (tables_same around.instances.now of_instances j) c
